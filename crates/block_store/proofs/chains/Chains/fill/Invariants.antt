use Rattle.std.proofs.Common.{◌≡◌, ℕ, ◌+◌, ◌-◌, ◌*◌, ◌<◌, ◌≤◌, length, take, drop}
use Rattle.store.specs.Files.{key_count, cost}
use Rattle.block_store.specs.Lent.{Same, chain_of, content_of, units_in}
use Rattle.block_store.proofs.chains.Chains.fill.Given as goal

-- the blocks from i on are written
abbrev pub invariant-loop-i : goal.invariant-loop-i
invariant-loop-i l = record {
  others : (j : ℕ) → (j ≡ l.key → ⊥) → j < key_count → Same l.self l.initial.self j;
  blocks : (chain_of l.self l.key).blocks + l.i ≡ cost 4 (length l.words);
  content : take (length l.words - 4 * l.i) (content_of l.self l.key) ≡ drop (4 * l.i) l.words;
  room : l.i ≤ (chain_of l.self key_count).blocks;
  len : 0 < (chain_of l.self l.key).blocks → (chain_of l.self l.key).len ≡ length l.words;
  units : units_in l.self ≡ units_in l.initial.self;
}
