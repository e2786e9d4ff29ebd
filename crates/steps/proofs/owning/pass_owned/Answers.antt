use Rattle.std.proofs.Common.{ℕ, sym, ap, ◌∙◌}
use Rattle.store.specs.Sides.{Sides, sides_at}
use Rattle.steps.specs.Owners.{member}
use Rattle.steps.proofs.Owners.{own_step, own_closed, fold_turn, fold_end}
use Rattle.steps.proofs.owning.pass_owned.Goals as goal

pub loop-owned-preserved : goal.loop-owned-preserved
loop-owned-preserved g c =
    let step = own_step c.args.pass c.args.name (member c.args.except.now) in (
      fold_turn step c.args.owners.now c.loop-owned.owned-index _ _ _ c.loop-owned-test.true c.pass_one.ensures.sides ∙ c.loop-owned.invariant.0,
      c.pass_one.ensures.units ∙ c.loop-owned.invariant.1,
    )

pub returns : goal.returns
returns g c =
    let except = member c.args.except.now in
    let owners = c.args.owners.now in
    let all = sym (fold_end (own_step c.args.pass c.args.name except) owners c.loop-owned.owned-index _ c.loop-owned-test.false) ∙ c.loop-owned.invariant.0 in
    record {
      sides = λ rise q. ap (λ (f : ℕ → Sides). f q) all ∙ own_closed c.args.pass c.args.name except owners (sides_at (g.S.Store.files c.args.store.now)) rise q;
      units = c.loop-owned.invariant.1;
    }
