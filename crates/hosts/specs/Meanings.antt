-- What each host would answer now, and what a run leaves of it.
use Rattle.std.specs.Prelude.{◌≡◌, ℕ, ◌+◌, ◌<◌, ◌≤◌, Bool, false, cond, ◌&&◌, ◌||◌, List, [], ◌∷◌, length, drop, Ok, Err, Result, ◌==◌, nat_lt}
use Rattle.base.specs.Refusals.{word_refusal}
use Rattle.base.specs.declared.reasons.Reason.TheVariants.{OutsideLimits}
use Rattle.base.specs.declared.reasons.Refusal.{Refusal}
use Rattle.host.specs.declared.calls.Call.{Call}
use Rattle.host.specs.declared.line.Line.{Line}
use Rattle.host.specs.Calls.{script_number, action_number}
use Rattle.host.specs.Rows.{tells}
use Rattle.hosts.specs.declared.tables.Rule.{Rule}
use Rattle.hosts.specs.declared.tables.Rules.{Rules}

-- Rules.
-- a number of a rule: 0 matches all, any other its own script or action
abbrev pub covers : ℕ → ℕ → Bool
covers n own = n == 0 || n == own

abbrev pub matches : Rule → Call → Bool
matches r c = covers r.script (script_number c.script) && covers r.action (action_number c.action)

-- the first rule that matches
abbrev pub ruled : List Rule → Call → ℕ
ruled [] c = 0
ruled (r ∷ rs) c = cond (matches r c) r.status (ruled rs c)

-- At most 32 rules are taken as they are; more are refused.
abbrev pub Opened : Result Rules Refusal → List Rule → Type 0
Opened (Ok r) rules = (length rules ≤ 32) × (r.list.now ≡ rules)
Opened (Err e) rules = (32 < length rules) × (e ≡ word_refusal OutsideLimits 0)

-- Transcripts.
-- the lines from the mark on: whether the first tells of the call, and its status then
abbrev pub due : List Line → Call → Bool
due [] c = false
due (l ∷ ls) c = tells l c

abbrev pub played : List Line → Call → ℕ
played [] c = 127
played (l ∷ ls) c = cond (tells l c) l.status 127

-- the mark moves on exactly where the line at it tells of the call
abbrev pub mark_after : List Line → ℕ → Call → ℕ
mark_after lines mark c = cond (due (drop mark lines) c) (mark + 1) mark

-- Answers in turn.
abbrev pub given_after : List ℕ → ℕ → ℕ
given_after statuses given = cond (nat_lt given (length statuses)) (given + 1) given
