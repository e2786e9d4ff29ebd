use Rattle.std.proofs.Common.{refl}
use Rattle.block_store.proofs.Marks.{chain_more}
use Rattle.block_store.proofs.taking.chain_free.Goals as goal

pub loop-p-preserved : goal.loop-p-preserved
loop-p-preserved c =
    chain_more c.args.blocks.now c.loop-p.blocks c.loop-p.p c.loop-p.free.first c.loop-p.free.blocks c.loop-p.auto.blocks c.loop-p-test.true c.loop-p.invariant _ c.if-block.false refl refl
