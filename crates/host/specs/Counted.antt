-- What asking a call leaves of a trace that is kept as rows and a count of them.
use Rattle.std.specs.Prelude.{◌≡◌, ℕ, ◌+◌, ◌<◌, ◌≤◌, List, [], ◌∷◌, ◌++◌, length, take, Some, None, Option, slice_set}
use Rattle.host.specs.declared.calls.Call.{Call}
use Rattle.host.specs.declared.line.Line.{Line}
use Rattle.host.specs.Hosts.{Meaning, Ran, line, call_line}

-- The call was run with the status s, and the trace of n lines has one line more: its row, of the host's latest call and the status.
pub record NotedAt (c : Call) (s : ℕ) (m m' : Meaning) (t : List Line) (n : ℕ) (t' : List Line) (n' : ℕ) : Type 0 where
  pub room : n < length t
  pub ran : Ran m c s m'
  pub of_latest : call_line m'.latest s ≡ Some (line c s)
  pub one_line : take n' t' ≡ take n t ++ line c s ∷ []
  pub one_row : t' ≡ slice_set t n (line c s)
  pub one_more : n' ≡ n + 1

-- A call was asked: it has been run and has its line; or there was no room for a line, and nothing changed.
abbrev pub AskedAt : Call → Option ℕ → Meaning → Meaning → List Line → ℕ → List Line → ℕ → Type 0
AskedAt c (Some s) m m' t n t' n' = NotedAt c s m m' t n t' n'
AskedAt c None m m' t n t' n' = (length t ≤ n) × (t' ≡ t) × (n' ≡ n)
