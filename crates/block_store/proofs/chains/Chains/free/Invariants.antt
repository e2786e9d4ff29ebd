use Rattle.std.proofs.Common.{◌≡◌, ℕ, ◌+◌, ◌<◌}
use Rattle.store.specs.Files.{key_count}
use Rattle.block_store.specs.Lent.{Same, chain_of, units_in}
use Rattle.block_store.proofs.chains.Chains.free.Given as goal

abbrev pub invariant-loop-self : goal.invariant-loop-self
invariant-loop-self l = record {
  others : (j : ℕ) → (j ≡ l.key → ⊥) → j < key_count → Same l.self l.initial.self j;
  free : (chain_of l.self key_count).blocks + (chain_of l.self l.key).blocks ≡ (chain_of l.initial.self key_count).blocks + (chain_of l.initial.self l.key).blocks;
  units : units_in l.self ≡ units_in l.initial.self;
}

abbrev pub decreases-loop-self : goal.decreases-loop-self
decreases-loop-self l = (chain_of l.self l.key).blocks
