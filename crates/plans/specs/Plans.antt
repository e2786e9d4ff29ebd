-- What a call asks of the script host, and what it then comes to.
use Rattle.std.specs.Prelude.{◌≡◌, ℕ, Bool, List, [], ◌∷◌}
use Rattle.base.specs.declared.texts.ShortText.{ShortText}
use Rattle.host.specs.declared.calls.Script.{Script}
use Rattle.host.specs.declared.calls.Action.{Action}
use Rattle.host.specs.declared.calls.Call.{Call}
use Rattle.host.specs.declared.calls.Argument.{Argument}
use Rattle.host.specs.declared.line.Line.{Line}
use Rattle.host.specs.Hosts.{argument_row, works}

-- a script call, as the trace tells of it
pub record Ask : Type 0 where
  pub name : ShortText
  -- the version whose script it is
  pub version : ShortText
  pub script : Script
  pub action : Action
  pub argument : Argument ShortText

abbrev pub asked : Call → Ask
asked c = record { name = c.name.row; version = c.version.row; script = c.script; action = c.action; argument = argument_row c.argument }

-- the trace line of a call that ended with the status s
abbrev pub told : Ask → ℕ → Line
told a s = record { name = a.name; version = a.version; script = a.script; action = a.action; argument = a.argument; status = s }

-- A plan is done, or it asks for a script and goes on by whether that works.
pub data Plan (A : Type 0) : Type 0 where
  done : A → Plan A
  ask : Ask → (Bool → Plan A) → Plan A

-- The plan, with the statuses of these lines as the answers of its scripts, comes to x.
abbrev pub Follows : {A : Type 0} → Plan A → List Line → A → Type 0
Follows (done a) ls x = (ls ≡ []) × (x ≡ a)
Follows (ask c k) ls x =
    (s : ℕ) × (rest : List Line) × (ls ≡ told c s ∷ rest) × Follows (k (works s)) rest x
