-- Which item the reader hands out: an item of the words from a place on, or the first fault in it.
use Rattle.std.specs.Prelude.{◌≡◌, ℕ, ◌+◌, ◌-◌, ◌*◌, ◌/◌, max, Bool, true, false, cond, List, [], ◌∷◌, length, take, drop, Some, None, Ok, Err, Option, Result, ◌==◌, nat_le}
use Rattle.base.specs.declared.files.FileKind.{FileKind}
use Rattle.base.specs.declared.texts.TextKind.TheVariants.{Name as name, Version as version}
use Rattle.base.specs.declared.reasons.Reason.TheVariants.{EndsEarly, WrongWord}
use Rattle.base.specs.declared.reasons.Refusal.{Refusal}
use Rattle.base.specs.Refusals.{word_refusal}
use Rattle.package.specs.declared.rules.TextRule.{TextRule}
use Rattle.package.specs.declared.rules.TextRule.TheVariants.{Spelled, Free}
use Rattle.package.specs.declared.items.Item.{Item}
use Rattle.package.specs.declared.items.Item.TheVariants.{Name, Version, File, End}
use Rattle.package.specs.declared.items.Stage.{Stage}
use Rattle.package.specs.declared.items.Stage.TheVariants.{Package, NameAlone, Version as Versions, Files, Done}
use Rattle.package.specs.declared.items.Items.{Items}
use Rattle.package.specs.declared.items.Step.{Step}
use Rattle.package.specs.Words.{name_length, version_length, content_length, file_kind, path, is_end}
use Rattle.package.specs.Checks.{Due, package_head, name_head, text, item, nothing, fault, text_fault, or_else}

-- an item by what it holds: the words of its text or content
pub data Part : Type 0 where
  name_part : List ℕ → Part
  version_part : List ℕ → Part
  file_part : FileKind → ℕ → List ℕ → Part
  end_part : Part

-- an item, the place of its first word, the place behind it, and what is due there
pub record Handed : Type 0 where
  pub part : Part
  pub place : ℕ
  pub behind : ℕ
  pub stage : Stage

-- a list of words taken apart at a place: the word there, and the rest
pub record Apart (words : List ℕ) (place w : ℕ) (rest : List ℕ) : Type 0 where
  pub here : drop place words ≡ w ∷ rest
  pub behind : drop (place + 1) words ≡ rest
  pub size : place + 1 + length rest ≡ length words

-- a text of so many bytes has three to a word; even an empty one would take a word
abbrev pub words_for : ℕ → ℕ
words_for n = max 1 ((n + 2) / 3)

-- the first fault of a text
abbrev pub text_refusal : TextRule → ℕ → Bool → ℕ → List ℕ → Option Refusal
text_refusal rule left begun place [] = Some (word_refusal EndsEarly place)
text_refusal rule left begun place (w ∷ ws) =
    or_else (text_fault rule left begun w) place (cond (nat_le left 3) None (text_refusal rule (left - 3) true (place + 1) ws))

-- a content may have no words at all
abbrev pub content_refusal : ℕ → ℕ → List ℕ → Option Refusal
content_refusal words place ws = cond (words == 0) None (text_refusal Free (3 * words) false place ws)

abbrev pub due_at : Stage → Due
due_at Package = package_head
due_at NameAlone = name_head
due_at (Versions len) = text (Spelled version) len false (item 0 0)
due_at (Files count floor) = item count floor
due_at Done = nothing

-- the first fault of an item that begins with this word
abbrev pub item_refusal : Stage → ℕ → ℕ → List ℕ → Option Refusal
item_refusal Package place w ws =
    or_else (fault package_head place w) place (text_refusal (Spelled name) (name_length w) false (place + 1) ws)
item_refusal NameAlone place w ws =
    or_else (fault name_head place w) place (text_refusal (Spelled name) (name_length w) false (place + 1) ws)
item_refusal (Versions len) place w ws = text_refusal (Spelled version) len false place (w ∷ ws)
item_refusal (Files count floor) place w ws =
    or_else (fault (item count floor) place w) place (cond (is_end w) None (content_refusal (content_length w) (place + 1) ws))
item_refusal Done place w ws = Some (word_refusal WrongWord place)

abbrev pub name_handed : Stage → ℕ → ℕ → List ℕ → Handed
name_handed after place w ws = record {
  part = name_part (take (words_for (name_length w)) ws);
  place = place + 1;
  behind = place + 1 + words_for (name_length w);
  stage = after;
}

abbrev pub file_handed : ℕ → ℕ → ℕ → List ℕ → Handed
file_handed count place w ws = record {
  part = file_part (file_kind w) (path w) (take (content_length w) ws);
  place = place;
  behind = place + 1 + content_length w;
  stage = Files (count + 1) (path w + 1);
}

-- the item that begins with this word: its first word fixes how many of the rest belong to it
abbrev pub handed : Stage → ℕ → ℕ → List ℕ → Handed
handed Package place w ws = name_handed (Versions (version_length w)) place w ws
handed NameAlone place w ws = name_handed Done place w ws
handed (Versions len) place w ws = record {
  part = version_part (take (words_for len) (w ∷ ws));
  place = place;
  behind = place + words_for len;
  stage = Files 0 0;
}
handed (Files count floor) place w ws =
    cond (is_end w) (record { part = end_part; place = place; behind = place + 1; stage = Done })
    (file_handed count place w ws)
handed Done place w ws = record { part = end_part; place = place; behind = place; stage = Done }

abbrev pub judged : Option Refusal → Handed → Result Handed Refusal
judged (Some refused) h = Err refused
judged None h = Ok h

-- what the reader answers: the item, or the first fault in it
abbrev pub item_at : Stage → ℕ → List ℕ → Result Handed Refusal
item_at stage place [] = Err (word_refusal EndsEarly place)
item_at stage place (w ∷ ws) = judged (item_refusal stage place w ws) (handed stage place w ws)

abbrev pub part_of : Item → Part
part_of (Name ws) = name_part ws.now
part_of (Version ws) = version_part ws.now
part_of (File f) = file_part f.kind f.path f.content.now
part_of End = end_part

abbrev pub part_words : Part → List ℕ
part_words (name_part ws) = ws
part_words (version_part ws) = ws
part_words (file_part k p ws) = ws
part_words end_part = []

abbrev pub shown : Result Step Refusal → Result Handed Refusal
shown (Ok s) = Ok (record { part = part_of s.item; place = s.place; behind = s.rest.place; stage = s.rest.stage })
shown (Err refused) = Err refused

abbrev pub told : {X : Type 0} → Result X Refusal → Option Refusal
told (Ok x) = None
told (Err refused) = Some refused

-- the words from the reader's place on
abbrev pub left_from : Items → List ℕ
left_from items = drop items.place items.words.now

-- the answer of a reader at whose place this is due
abbrev pub Hands : Items → Stage → Result Step Refusal → Type 0
Hands items stage r = shown r ≡ item_at stage items.place (left_from items)

-- the reader behind the item stays on the same words
abbrev pub Same : List ℕ → Result Step Refusal → Type 0
Same words (Ok s) = s.rest.words.now ≡ words
Same words (Err refused) = Unit {0}
