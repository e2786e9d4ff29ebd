use Rattle.block_store.specs.Taking.{Marks, Untouched}
use Rattle.block_store.proofs.taking.look_through.Given as goal

abbrev pub invariant-loop-k : goal.invariant-loop-k
invariant-loop-k l = Marks l.dir l.blocks l.k × Untouched l.blocks l.initial.blocks
