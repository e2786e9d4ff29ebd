use Rattle.std.proofs.Common.{◌≡◌, ℕ, ◌<◌, get_or}
use Rattle.flat_store.specs.Images.{blank, words_at}
use Rattle.flat_store.proofs.taking.unmark.Given as goal

abbrev pub invariant-loop-slot : goal.invariant-loop-slot
invariant-loop-slot l = ((p : ℕ) → p < l.slot-index → (get_or l.slots p blank).spare ≡ 0) × ((p : ℕ) → words_at l.slots p ≡ words_at l.initial.slots p)
