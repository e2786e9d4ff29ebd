-- The trace written out: a line for each call that was run.
use Rattle.std.specs.Prelude.{◌≡◌, ℕ, ◌<◌, cond, List, [], ◌∷◌, ◌++◌, length, take, Some, None, Ok, Err, codes, decimal, Option, Result, nat_le}
use Rattle.std.specs.List.{flat_map}
use Rattle.base.specs.Texts.{spelt}
use Rattle.base.specs.Refusals.{text_refusal}
use Rattle.base.specs.declared.reasons.Reason.{Reason}
use Rattle.base.specs.declared.reasons.Reason.TheVariants.{WrongValue, BufferShort}
use Rattle.base.specs.declared.reasons.Refusal.{Refusal}
use Rattle.base.specs.declared.texts.ShortText.{ShortText}
use Rattle.host.specs.declared.calls.Argument.{Argument}
use Rattle.host.specs.declared.calls.Argument.TheVariants.{Version, Null, Nothing}
use Rattle.host.specs.declared.line.Line.{Line}
use Rattle.host.specs.Calls.{script_number, action_number}
use Rattle.host.specs.Rows.{sound}

-- a text and a space
abbrev pub word : List ℕ → List ℕ
word text = text ++ (32 ∷ [])

abbrev pub argument_text : Argument ShortText → List ℕ
argument_text (Version row) = spelt row.bytes
argument_text Null = codes "null"
argument_text Nothing = codes "-"

-- a status ends its line
abbrev pub status_text : ℕ → List ℕ
status_text status = decimal status ++ (10 ∷ [])

-- Name, version, script, action, argument and status.
abbrev pub line_text : Line → List ℕ
line_text l =
    word (spelt l.name.bytes)
    ++ (word (spelt l.version.bytes)
    ++ (word (decimal (script_number l.script))
    ++ (word (decimal (action_number l.action))
    ++ (word (argument_text l.argument)
    ++ status_text l.status))))

abbrev pub trace_text : List Line → List ℕ
trace_text lines = flat_map line_text lines

-- What writing the lines behind a text comes to: the reason why it stopped, if it did, and the text of the whole lines.
-- At one line a bad value (7) is found before a short buffer (9).
abbrev pub writes : ℕ → List ℕ → List Line → Option Reason × List ℕ
writes room text [] = (None, text)
writes room text (l ∷ ls) =
    cond (sound l) (cond (nat_le (length (text ++ line_text l)) room) (writes room (text ++ line_text l) ls) (Some BufferShort, text)) (Some WrongValue, text)

-- the count of bytes, or the refusal with it as its place
abbrev pub answer : Option Reason → ℕ → Result ℕ Refusal
answer None n = Ok n
answer (Some reason) n = Err (text_refusal reason n)

-- All lines were written, or those before the first that is bad or does not fit.
abbrev pub Whole : Result ℕ Refusal → List Line → List ℕ → Type 0
Whole (Ok n) lines out' = (n ≡ length (trace_text lines)) × (take n out' ≡ trace_text lines)
Whole (Err e) lines out' = (k : ℕ) × (k < length lines) × (e.place ≡ length (trace_text (take k lines))) × (take e.place out' ≡ trace_text (take k lines))

pub record Written (r : Result ℕ Refusal) (lines : List Line) (room : ℕ) (out' : List ℕ) : Type 0 where
  pub value : r ≡ answer (writes room [] lines).0 (length (writes room [] lines).1)
  pub bytes : take (length (writes room [] lines).1) out' ≡ (writes room [] lines).1
  pub whole : Whole r lines out'
