use Rattle.std.proofs.Common.{is_some, ap, ◌∙◌}
use Rattle.store.specs.Sides.{sides_at, side_of}
use Rattle.store.specs.declared.side.Side.{Side}
use Rattle.steps.proofs.Turns.{lay_one, room_one}
use Rattle.steps.proofs.sides.lay.Goals as goal

pub returns : goal.returns
returns g c =
    let f = sides_at (g.S.Store.files c.args.store.now) in
    let eh = c.home_of-home.ensures in
    let er = c.refuge_of.ensures in
    record {
      aside = c.held_side-aside.ensures ∙ ap (λ (s : Side). is_some (side_of s (f c.args.path))) eh;
      admitted = room_one c.args.kind c.args.path _ _ eh er f _ c.args.words.now g.S.Store.block _ _ _ c.carry_side.ensures.sides c.carry_side.ensures.units c.put_side-admitted.ensures.answer;
      sides = lay_one c.args.kind c.args.path _ _ eh er f _ c.args.words.now _ _ c.carry_side.ensures.sides c.put_side-admitted.ensures.sides;
      units = c.put_side-admitted.ensures.units ∙ c.carry_side.ensures.units;
    }
