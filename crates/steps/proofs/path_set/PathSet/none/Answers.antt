use Rattle.std.proofs.Common.{Bool, false, List, get_or, ap, ◌∙◌}
use mathlib.Core.Path.{fun_ext}
use Rattle.steps.proofs.Owners.{unmarked_at}
use Rattle.steps.proofs.path_set.PathSet.none.Goals as goal

pub returns : goal.returns
returns c = fun_ext (λ q. ap (λ (bs : List Bool). get_or bs q false) c.unmarked.ensures ∙ unmarked_at 256 q)
