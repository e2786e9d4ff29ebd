use Rattle.std.proofs.Common.{◌<◌, Bool, length, sym, ap, ◌∙◌, rules}
use Rattle.base.specs.Texts.{spells}
use Rattle.base.proofs.Walks.{spelled_on}
use Rattle.base.proofs.texts.TextKind.spells.Goals as goal

pub returns : goal.returns
returns c =
    let h : 0 < length c.args.text.now = search rules in
    c.all_follow-2.ensures ∙ spelled_on c.args.self c.args.text.now h (sym c.if-not-may_begin.ensures) ∙ ap (λ (b : Bool). spells c.args.self b c.args.text.now) (sym c.if-begun.false)
