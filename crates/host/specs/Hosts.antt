-- What a script host is, what a run of a call does, and the trace line that it leaves.
use Rattle.std.specs.Prelude.{◌≡◌, ℕ, ◌+◌, ◌%◌, ◌^◌, ◌≤◌, Bool, List, [], ◌∷◌, Some, None, Option, ◌==◌}
use Rattle.base.specs.declared.texts.ShortText.{ShortText}
use Rattle.base.specs.Named.{Version}
use Rattle.writer.specs.declared.lent.Lent.{Lent}
use Rattle.writer.specs.Items.{OneMore, space}
use Rattle.host.specs.declared.calls.Argument.{Argument}
use Rattle.host.specs.declared.calls.Argument.TheVariants.{Version as version_of, Null, Nothing}
use Rattle.host.specs.declared.calls.Call.{Call}
use Rattle.host.specs.declared.line.Line.{Line}

-- the status that each call would get now, the latest call or none, and the count of runs modulo 2^64
pub record Meaning : Type 0 where
  pub status : Call → ℕ
  pub latest : Option Call
  pub count : ℕ

-- Status 0 works, every other fails.
abbrev pub works : ℕ → Bool
works status = status == 0

-- The host ran the call c with the status s. What later calls would get may differ in any way.
pub record Ran (m : Meaning) (c : Call) (s : ℕ) (m' : Meaning) : Type 0 where
  pub answer : s ≡ m.status c
  pub now_latest : m'.latest ≡ Some c
  pub one_more : m'.count ≡ (m.count + 1) % 2 ^ 64

-- the same argument with its version as a plain row
abbrev pub argument_row : Argument Version → Argument ShortText
argument_row (version_of v) = version_of v.row
argument_row Null = Null
argument_row Nothing = Nothing

-- the line that tells of the call c and its status s
abbrev pub line : Call → ℕ → Line
line c s = record {
  name = c.name.row;
  version = c.version.row;
  script = c.script;
  action = c.action;
  argument = argument_row c.argument;
  status = s;
}

-- the line of the call that there is
abbrev pub call_line : Option Call → ℕ → Option Line
call_line None s = None
call_line (Some c) s = Some (line c s)

-- The host ran the calls of these lines, one after the other, and gave their statuses.
pub data Runs : Meaning → List Line → Meaning → Type 0 where
  none : {m : Meaning} → Runs m [] m
  more : {m m' m'' : Meaning} {rest : List Line} (c : Call) (s : ℕ) → Ran m c s m' → Runs m' rest m'' → Runs m (line c s ∷ rest) m''

-- The call was run with the status s, and the trace has one line more: that of the host's latest call and the status.
pub record Noted (c : Call) (s : ℕ) (m m' : Meaning) (t t' : Lent Line) : Type 0 where
  pub ran : Ran m c s m'
  pub of_latest : call_line m'.latest s ≡ Some (line c s)
  pub noted : OneMore (line c s) t t'

-- A call was asked: it has been run and has its line; or there was no room for a line, and nothing changed.
abbrev pub Asked : Call → Option ℕ → Meaning → Meaning → Lent Line → Lent Line → Type 0
Asked c (Some s) m m' t t' = Noted c s m m' t t'
Asked c None m m' t t' = (space t ≤ t.count) × (t' ≡ t)

-- Where nothing was run, the host itself is as it was.
abbrev pub Keeps : {H : Type 0} → Option ℕ → H → H → Type 0
Keeps (Some s) host host' = Unit {0}
Keeps None host host' = host' ≡ host
