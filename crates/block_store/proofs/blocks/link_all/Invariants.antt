use Rattle.std.proofs.Common.{◌≡◌, ℕ, ◌+◌, ◌<◌, length}
use Rattle.block_store.specs.Chained.{next_in, words_in}
use Rattle.block_store.proofs.blocks.link_all.Given as goal

abbrev pub invariant-loop-i : goal.invariant-loop-i
invariant-loop-i l = (p : ℕ) → p < l.i → (next_in l.blocks p ≡ p + 1) × (length (words_in l.blocks p) ≡ 4)
