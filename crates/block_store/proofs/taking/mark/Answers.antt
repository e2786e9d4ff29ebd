use Rattle.std.proofs.Common.{refl, arith}
use Rattle.block_store.proofs.Marks.{one_more}
use Rattle.block_store.proofs.taking.mark.Goals as goal

pub loop-preserved : goal.loop-preserved
loop-preserved c =
    let inv = c.loop.invariant in
    one_more c.args.blocks.now c.loop.blocks c.loop.counter c.args.chain.first c.loop.block _ c.loop.auto.blocks inv.0 inv.1 inv.2 inv.3 (omega arith) c.if-blocks-block.false refl refl refl c.after-block.ensures.wide c.after-block.result c.after-block.ensures.next
