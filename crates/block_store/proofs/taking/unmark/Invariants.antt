use Rattle.std.proofs.Common.{◌≡◌, ℕ, ◌<◌, false}
use Rattle.block_store.specs.Taking.{seen_in, Untouched}
use Rattle.block_store.proofs.taking.unmark.Given as goal

abbrev pub invariant-loop-block : goal.invariant-loop-block
invariant-loop-block l = ((q : ℕ) → q < l.block-index → seen_in l.blocks q ≡ false) × Untouched l.blocks l.initial.blocks
