use Rattle.std.proofs.Common.{◌∙◌}
use Rattle.steps.proofs.Turns.{back_one}
use Rattle.steps.proofs.sides.put_back.Goals as goal

pub returns : goal.returns
returns g c = record {
  sides = back_one c.args.kind c.args.path _ _ c.home_of-home.ensures c.refuge_of.ensures _ _ _ c.clear_side.ensures.sides c.carry_side.ensures.sides;
  units = c.carry_side.ensures.units ∙ c.clear_side.ensures.units;
}
