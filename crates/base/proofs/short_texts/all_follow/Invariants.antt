use Rattle.std.proofs.Common.{◌≡◌, drop}
use Rattle.base.specs.Texts.{all, may_follow}
use Rattle.base.proofs.short_texts.all_follow.Given as goal

abbrev pub invariant-loop-b : goal.invariant-loop-b
invariant-loop-b l = all (may_follow l.kind) (drop l.b-index l.text) ≡ all (may_follow l.kind) l.text
