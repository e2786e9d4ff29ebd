use Rattle.std.proofs.Common.{◌≡◌, ◌+◌, ◌≤◌, length}
use Rattle.package.specs.Files.{files_of, files_left}
use Rattle.store.specs.Sides.{sides_at}
use Rattle.steps.specs.Wares.{lay_all}
use Rattle.steps.proofs.Layings.{onto}
use Rattle.steps.proofs.tokens.lay_all.Given as goal

abbrev pub invariant-loop-file : goal.invariant-loop-file
invariant-loop-file g l = record {
  laid :
      lay_all g.S.Store.block (g.S.Store.units l.fn.store) (files_of l.new) (sides_at (g.S.Store.files l.fn.store))
      ≡ onto l.touched l.aside (lay_all g.S.Store.block (g.S.Store.units l.fn.store) (files_left l.file-iterator) (sides_at (g.S.Store.files l.store)));
  units : g.S.Store.units l.store ≡ g.S.Store.units l.fn.store;
  few : l.touched + length (files_left l.file-iterator) ≡ length (files_of l.new);
  fewer : l.aside ≤ l.touched;
}
