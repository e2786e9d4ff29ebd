use Rattle.std.proofs.Common.{◌≡◌}
use Rattle.block_store.specs.Walks.{walk}
use Rattle.block_store.specs.Chained.{next_in}
use Rattle.block_store.specs.Lent.{chain_of}
use Rattle.block_store.proofs.chains.Chains.block.Given as goal

abbrev pub invariant-loop : goal.invariant-loop
invariant-loop l = l.block ≡ walk (next_in l.self.blocks.now) l.counter (chain_of l.self l.key).first
