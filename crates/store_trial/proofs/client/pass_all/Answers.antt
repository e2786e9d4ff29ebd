use Rattle.std.proofs.Common.{refl, ◌∙◌}
use Rattle.store_trial.specs.Passes.{passed}
use Rattle.store_trial.proofs.Rounds.{over_more, over_whole}
use Rattle.store_trial.proofs.client.pass_all.Goals as goal

pub loop-path-init : goal.loop-path-init
loop-path-init g c = (refl, refl)

pub loop-path-preserved : goal.loop-path-preserved
loop-path-preserved g c = (
  c.pass_one.ensures.sides ∙ over_more (passed c.args.pass) c.args.paths.now c.loop-path.path-index _ _ c.loop-path-test.true c.loop-path.invariant.0,
  c.pass_one.ensures.units ∙ c.loop-path.invariant.1,
)

pub returns : goal.returns
returns g c = record { sides = over_whole (passed c.args.pass) c.args.paths.now c.loop-path.path-index _ _ c.loop-path-test.false c.loop-path.invariant.0; units = c.loop-path.invariant.1 }
