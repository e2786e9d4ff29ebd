use Rattle.std.proofs.Common.{◌≡◌, take}
use Rattle.package.specs.Files.{files_of, files_left}
use Rattle.store.specs.Sides.{sides_at}
use Rattle.steps.specs.Wares.{unwind_all}
use Rattle.steps.proofs.tokens.unwind.Given as goal

abbrev pub invariant-loop-file : goal.invariant-loop-file
invariant-loop-file g l = record {
  sides :
      unwind_all l.how (take l.file-iterator.n (files_left l.file-iterator.iter)) (sides_at (g.S.Store.files l.store))
      ≡ unwind_all l.how (take l.touched (files_of l.new)) (sides_at (g.S.Store.files l.fn.store));
  units : g.S.Store.units l.store ≡ g.S.Store.units l.fn.store;
}
