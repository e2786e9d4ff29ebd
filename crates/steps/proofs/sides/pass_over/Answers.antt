use Rattle.std.proofs.Common.{None, refl, ap, ◌∙◌}
use Rattle.base.specs.declared.files.FileKind.TheVariants.{Conffile}
use Rattle.store.specs.Sides.{sides_at, with_side, change}
use Rattle.store.specs.declared.side.Side.{Side}
use Rattle.steps.specs.declared.pass.Pass.TheVariants.{Settle, Clear, Wipe}
use Rattle.steps.proofs.Turns.{passed_as}
use Rattle.steps.proofs.sides.pass_over.Goals as goal

pub returns-in-Settle-Conffile : goal.returns-in-Settle-Conffile
returns-in-Settle-Conffile g c = record {
  sides = c.carry_side.ensures.sides ∙ passed_as c.args.path _ _ Settle _ Conffile c.in-Settle-Conffile.is-0 c.in-Settle-Conffile.is-1;
  units = c.carry_side.ensures.units;
}

pub returns-in-Clear-default : goal.returns-in-Clear-default
returns-in-Clear-default g c =
    let f = sides_at (g.S.Store.files c.args.store.now) in
    record {
      sides =
          c.clear_side.ensures.sides ∙ ap (λ (s : Side). change c.args.path (with_side s None) f) c.home_of.ensures
          ∙ passed_as c.args.path f _ Clear c.args.kind c.args.kind c.in-Clear-default.is-0 refl;
      units = c.clear_side.ensures.units;
    }

pub returns-in-Wipe-Conffile : goal.returns-in-Wipe-Conffile
returns-in-Wipe-Conffile g c = record {
  sides = c.clear_side-in-Wipe-Conffile.ensures.sides ∙ passed_as c.args.path _ _ Wipe _ Conffile c.in-Wipe-Conffile.is-0 c.in-Wipe-Conffile.is-1;
  units = c.clear_side-in-Wipe-Conffile.ensures.units;
}
