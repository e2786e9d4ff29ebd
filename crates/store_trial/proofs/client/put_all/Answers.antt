use Rattle.std.proofs.Common.{Some, refl, ◌∙◌}
use Rattle.store.specs.Sides.{with_side}
use Rattle.store.specs.declared.side.Side.TheVariants.{Place}
use Rattle.store_trial.proofs.Rounds.{over_more}
use Rattle.store_trial.proofs.client.put_all.Goals as goal

pub loop-i-init : goal.loop-i-init
loop-i-init g c = (refl, refl)

pub loop-i-preserved : goal.loop-i-preserved
loop-i-preserved g c = (
  c.if-not-put_side.ensures.sides ∙ over_more (with_side Place (Some c.args.words.now)) c.args.paths.now c.loop-i.i _ _ c.loop-i-test.true c.loop-i.invariant.0,
  c.put_side.ensures.units ∙ c.loop-i.invariant.1,
)
