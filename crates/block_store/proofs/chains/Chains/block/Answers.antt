use Rattle.std.proofs.Common.{sym, ap, ◌∙◌, add-one, arith}
use Rattle.block_store.specs.Walks.{walk}
use Rattle.block_store.specs.Chained.{next_in}
use Rattle.block_store.specs.Lent.{chain_of}
use Rattle.block_store.proofs.WalkFacts.{walk_more}
use Rattle.block_store.proofs.chains.Chains.block.Goals as goal

pub offset_bounds-self-block : goal.offset_bounds-self-block
offset_bounds-self-block c = omega (arith, c.args.self.now.linked.3 c.args.key c.loop.counter (omega arith) (omega arith), c.loop.invariant)

pub bounds-self-block : goal.bounds-self-block
bounds-self-block c = omega (arith, c.args.self.now.linked.3 c.args.key c.loop.counter (omega arith) (omega arith), c.loop.invariant)

pub loop-preserved : goal.loop-preserved
loop-preserved c =
    let m = c.args.self.now in
    let nx = next_in m.blocks.now in
    let first = (chain_of m c.args.key).first in
    ap nx c.loop.invariant ∙ sym (ap (λ n. walk nx n first) (add-one c.loop.counter) ∙ walk_more nx c.loop.counter first)
