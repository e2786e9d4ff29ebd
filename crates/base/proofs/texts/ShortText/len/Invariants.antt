use Rattle.std.proofs.Common.{◌≡◌, ◌+◌, length, drop}
use Rattle.base.specs.Texts.{spelt}
use Rattle.base.proofs.texts.ShortText.len.Given as goal

abbrev pub invariant-loop-i : goal.invariant-loop-i
invariant-loop-i l = l.i + length (spelt (drop l.i l.self.bytes)) ≡ length (spelt l.self.bytes)
