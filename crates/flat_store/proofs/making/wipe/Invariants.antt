use Rattle.std.proofs.Common.{◌≡◌, ℕ, ◌<◌, get_or}
use Rattle.flat_store.specs.Images.{blank}
use Rattle.flat_store.proofs.making.wipe.Given as goal

abbrev pub invariant-loop-i : goal.invariant-loop-i
invariant-loop-i l = (p : ℕ) → p < l.i → (get_or l.slots p blank).spare ≡ p
