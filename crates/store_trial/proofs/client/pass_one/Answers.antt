use Rattle.std.proofs.Common.{sym, ap, ◌∙◌}
use Rattle.store.specs.Sides.{sides_at, change}
use Rattle.store_trial.proofs.Rounds.{back_one}
use Rattle.store_trial.specs.Passes.{passed}
use Rattle.store_trial.proofs.client.pass_one.Goals as goal

pub returns-in-SetAside : goal.returns-in-SetAside
returns-in-SetAside g c =
    record { sides = c.carry_side.ensures.sides ∙ ap (λ a. change c.args.path (passed a) (sides_at (g.S.Store.files c.args.store.now))) (sym c.in-SetAside.is); units = c.carry_side.ensures.units }

pub returns-in-PutBack : goal.returns-in-PutBack
returns-in-PutBack g c =
    record {
      sides =
          back_one c.args.path _ _ _ c.clear_side.ensures.sides c.carry_side-in-PutBack.ensures.sides
          ∙ ap (λ a. change c.args.path (passed a) (sides_at (g.S.Store.files c.args.store.now))) (sym c.in-PutBack.is);
      units = c.carry_side-in-PutBack.ensures.units ∙ c.clear_side.ensures.units;
    }

pub returns-in-Discard : goal.returns-in-Discard
returns-in-Discard g c =
    record { sides = c.clear_side-in-Discard.ensures.sides ∙ ap (λ a. change c.args.path (passed a) (sides_at (g.S.Store.files c.args.store.now))) (sym c.in-Discard.is); units = c.clear_side-in-Discard.ensures.units }
