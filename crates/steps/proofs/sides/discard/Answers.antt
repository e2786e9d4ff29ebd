use Rattle.std.proofs.Common.{None, ap, ◌∙◌}
use Rattle.store.specs.Sides.{sides_at, with_side, change}
use Rattle.store.specs.declared.side.Side.{Side}
use Rattle.steps.proofs.sides.discard.Goals as goal

pub returns : goal.returns
returns g c = record {
  sides = c.clear_side.ensures.sides ∙ ap (λ (s : Side). change c.args.path (with_side s None) (sides_at (g.S.Store.files c.args.store.now))) c.refuge_of.ensures;
  units = c.clear_side.ensures.units;
}
