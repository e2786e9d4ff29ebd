use Rattle.std.proofs.Common.{refl}
use Rattle.flat_store.proofs.Marks.{list_more}
use Rattle.flat_store.proofs.taking.list_free.Goals as goal

pub loop-p-preserved : goal.loop-p-preserved
loop-p-preserved c =
    list_more c.args.slots.now c.loop-p.slots c.loop-p.p c.loop-p.free c.loop-p.auto.slots c.loop-p-test.true c.loop-p.invariant _ c.if-slots-p-ne0.false refl refl
