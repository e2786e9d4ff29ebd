-- A plan that is followed, by the answers of its scripts.
use Rattle.std.proofs.Common.{List, Some, sym, refl, ap, ◌∙◌}
use Rattle.host.specs.declared.line.Line.{Line}
use Rattle.host.specs.Hosts.{works}
use Rattle.plans.specs.Plans.{done, ask}
use Rattle.plans.specs.Outcomes.{played, answers, LinesTell, ScriptOutcomes}

pub lines_tell : LinesTell
lines_tell (done a) ran x f = ap (λ (ls : List Line). played (done a) (answers ls)) f.0 ∙ ap Some (sym f.1)
lines_tell (ask c k) ran x f =
    ap (λ (ls : List Line). played (ask c k) (answers ls)) f.2 ∙ lines_tell (k (works f.0)) f.1 x f.3

pub script_outcomes : ScriptOutcomes
script_outcomes = record {
  tell = lines_tell;
  sss = λ p flag old c block units w f e. rw e refl;
  ffs = λ p flag old c block units w f e. refl;
  fff = λ p flag old c block units w f e. refl;
  sfss = λ p flag old c block units w f e. refl;
  sff = λ p flag old c block units w f e. refl;
  ssffsss = λ p flag old c block units w f e. rw e refl;
  fresh_fs = λ p block units w f. refl;
  remove_fs = λ n flag old c w f. refl;
}
