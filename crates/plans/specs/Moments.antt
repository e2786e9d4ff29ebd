-- A station at a moment, and what a call that was not refused comes to.
use Rattle.std.specs.Prelude.{◌≡◌, ℕ, cond, List, ◌++◌, length, Some, None, Option}
use Rattle.base.specs.declared.texts.ShortText.{ShortText}
use Rattle.host.specs.declared.line.Line.{Line}
use Rattle.host.specs.Hosts.{Meaning, Runs}
use Rattle.status.specs.declared.rows.Flag.{Flag}
use Rattle.status.specs.declared.rows.State.{State}
use Rattle.status.specs.declared.rows.Record.{Record}
use Rattle.status.specs.declared.rows.Owned.{Owned}
use Rattle.status.specs.Rows.{noted_row}
use Rattle.status.specs.Tables.{record_of, owner_of}
use Rattle.store.specs.Sides.{Sides}
use Rattle.steps.specs.Owners.{same_name}
use Rattle.plans.specs.Plans.{Plan, Follows}
use Rattle.plans.specs.declared.calls.Outcome.{Outcome}
use Rattle.plans.specs.declared.calls.Report.{Report}

-- what is recorded of a package
pub record Row : Type 0 where
  pub flag : Flag
  pub state : State
  pub version : Option ShortText
  -- the version that was configured last
  pub configured : Option ShortText

abbrev pub row_of : Record → Row
row_of r = record { flag = r.flag; state = r.state; version = noted_row r.version; configured = noted_row r.configured }

abbrev pub row_if : Option Record → Option Row
row_if None = None
row_if (Some r) = Some (row_of r)

-- Tables, files, the store's block length and units, the trace with how many lines it has room for, and what the host means.
pub record Moment : Type 0 where
  pub records : List Record
  pub owners : List Owned
  pub sides : ℕ → Sides
  pub block : ℕ
  pub units : ℕ
  pub lines : List Line
  pub space : ℕ
  pub means : Meaning

-- the tables as functions: the row of a name, the owner of a path
abbrev pub rows : Moment → ShortText → Option Row
rows b n = row_if (record_of n b.records)

abbrev pub owns : Moment → ℕ → Option Owned
owns b q = owner_of q b.owners

-- the row of n changed, the others as they were
abbrev pub with_row : ShortText → Option Row → (ShortText → Option Row) → ShortText → Option Row
with_row n r f m = cond (same_name n m) r (f m)

-- What a call comes to: the package's row, all owners and files, and the counts.
pub record After : Type 0 where
  pub outcome : Outcome
  pub row : Option Row
  pub owns : ℕ → Option Owned
  pub sides : ℕ → Sides
  pub aside : ℕ
  pub back : ℕ
  pub discarded : ℕ

-- The report says so, and counts the script calls.
abbrev pub report_of : After → List Line → Report
report_of x ran = record { outcome = x.outcome; scripts = length ran; aside = x.aside; back = x.back; discarded = x.discarded }

-- The plan was followed for the package n, from one moment to the other: the host ran the plan's scripts and no other, each
-- left its line, and tables and files are what the plan came to.
pub record Came (n : ShortText) (plan : Plan After) (b e : Moment) (d : Report) : Type 0 where
  pub ran : List Line
  pub x : After
  pub follows : Follows plan ran x
  pub runs : Runs b.means ran e.means
  pub lines : e.lines ≡ b.lines ++ ran
  pub report : d ≡ report_of x ran
  pub rows : rows e ≡ with_row n x.row (rows b)
  pub owns : owns e ≡ x.owns
  pub sides : e.sides ≡ x.sides
  pub block : e.block ≡ b.block
  pub units : e.units ≡ b.units
  pub space : e.space ≡ b.space
