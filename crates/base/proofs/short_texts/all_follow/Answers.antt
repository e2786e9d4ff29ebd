use Rattle.std.proofs.Common.{◌<◌, length, sym, ◌∙◌, rules}
use Rattle.std.proofs.lemmas.List.{at_drop_all}
use Rattle.base.specs.Texts.{all, may_follow}
use Rattle.base.proofs.Walks.{all_on, all_off}
use Rattle.base.proofs.short_texts.all_follow.Goals as goal

pub returns-then-not-may_follow : goal.returns-then-not-may_follow
returns-then-not-may_follow c =
    let h : c.loop-b.b-index < length c.args.text.now = search rules in
    sym (all_off (may_follow c.args.kind) c.args.text.now c.loop-b.b-index h (sym c.if-not-may_follow.ensures)) ∙ c.loop-b.invariant

pub loop-b-preserved : goal.loop-b-preserved
loop-b-preserved c =
    let h : c.loop-b.b-index < length c.args.text.now = search rules in
    sym (all_on (may_follow c.args.kind) c.args.text.now c.loop-b.b-index h (sym c.if-not-may_follow.ensures)) ∙ c.loop-b.invariant

pub returns : goal.returns
returns c =
    sym (at_drop_all (all (may_follow c.args.kind)) c.args.text.now c.loop-b.b-index (search rules)) ∙ c.loop-b.invariant
