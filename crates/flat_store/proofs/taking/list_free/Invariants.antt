use Rattle.flat_store.proofs.Marks.{Listed}
use Rattle.flat_store.proofs.taking.list_free.Given as goal

abbrev pub invariant-loop-p : goal.invariant-loop-p
invariant-loop-p l = Listed l.initial.slots l.slots l.p l.free
