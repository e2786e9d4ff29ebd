use Rattle.std.proofs.Common.{◌≡◌, ℕ}
use Rattle.flat_store.specs.Images.{words_at}
use Rattle.flat_store.specs.Taking.{Marks}
use Rattle.flat_store.proofs.taking.look_through.Given as goal

abbrev pub invariant-loop-k : goal.invariant-loop-k
invariant-loop-k l = Marks l.dir l.slots l.k × ((p : ℕ) → words_at l.slots p ≡ words_at l.initial.slots p)
