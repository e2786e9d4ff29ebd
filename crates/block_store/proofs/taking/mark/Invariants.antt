use Rattle.std.proofs.Common.{◌≡◌}
use Rattle.block_store.specs.Walks.{walk}
use Rattle.block_store.specs.Chained.{next_in}
use Rattle.block_store.specs.Taking.{Fresh, Marked, Untouched}
use Rattle.block_store.proofs.taking.mark.Given as goal

abbrev pub invariant-loop : goal.invariant-loop
invariant-loop l =
    (l.block ≡ walk (next_in l.initial.blocks) l.counter l.initial.block)
    × Untouched l.blocks l.initial.blocks
    × Fresh l.initial.blocks l.counter l.initial.block
    × Marked l.initial.blocks l.blocks l.counter l.initial.block
