-- Runs after runs.
use Rattle.std.proofs.Common.{List, ◌++◌}
use Rattle.host.specs.declared.line.Line.{Line}
use Rattle.host.specs.Hosts.{Meaning, Runs, none, more}

pub joins : {m m' m'' : Meaning} {l k : List Line} → Runs m l m' → Runs m' k m'' → Runs m (l ++ k) m''
joins none t = t
joins (more c s r q) t = more c s r (joins q t)
