use Rattle.std.proofs.Common.{◌∙◌}
use Rattle.std.proofs.lemmas.Bool.Decides.{same_from_decides}
use Rattle.base.proofs.Rows.{rows_decide}
use Rattle.steps.proofs.Owners.{names_meet}
use Rattle.steps.proofs.owning.same_name.Goals as goal

pub returns : goal.returns
returns c = c.eq.ensures ∙ same_from_decides _ _ (rows_decide c.args.a c.args.b) (names_meet c.args.a c.args.b)
