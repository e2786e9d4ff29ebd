use Rattle.std.proofs.Common.{sym, ap, ◌∙◌, rules}
use Rattle.base.specs.Texts.{spells}
use Rattle.package.specs.declared.rules.TextRule.{TextRule}
use Rattle.package.specs.Words.{bytes}
use Rattle.package.specs.Checks.{right_bytes}
use Rattle.package.proofs.Fields.{carried}
use Rattle.package.proofs.checks.right_bytes.Goals as goal

pub returns-in-Spelled : goal.returns-in-Spelled
returns-in-Spelled c =
    let e = carried c.args.word.0 _ c.three_bytes-three.result c.three_bytes-three.ensures (search rules) in
    c.spells.ensures ∙ ap (spells c.in-Spelled.kind c.args.begun) e ∙ ap (λ (r : TextRule). right_bytes r c.args.begun (bytes c.args.word.0)) (sym c.in-Spelled.is)
