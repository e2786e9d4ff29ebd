use Rattle.std.proofs.Common.{◌≡◌, drop}
use Rattle.base.specs.Texts.{before}
use Rattle.base.proofs.texts.ShortText.before.Given as goal

abbrev pub invariant-loop-i : goal.invariant-loop-i
invariant-loop-i l =
    before (drop l.i l.self.bytes) (drop l.i l.other.bytes) ≡ before l.self.bytes l.other.bytes
