use Rattle.block_store.proofs.Marks.{Chained}
use Rattle.block_store.proofs.taking.chain_free.Given as goal

abbrev pub invariant-loop-p : goal.invariant-loop-p
invariant-loop-p l = Chained l.initial.blocks l.blocks l.p l.free.first l.free.blocks
