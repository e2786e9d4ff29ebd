use Rattle.plans.proofs.Playing.{script_outcomes}
use Rattle.plans.proofs.outcomes.script_outcomes.Goals as goal

pub returns : goal.returns
returns c = script_outcomes
