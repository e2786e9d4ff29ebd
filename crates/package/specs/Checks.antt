-- What each word of a package is checked for. At each place one kind of word is due; `fault` says what is wrong with a
-- word there, `next` what is due behind it, and `refusal` finds the first fault of a list of words.
use Rattle.std.specs.Prelude.{ℕ, ◌+◌, ◌-◌, ◌*◌, min, Bool, true, false, cond, ◌&&◌, ◌||◌, List, [], ◌∷◌, Some, None, Option, ◌==◌, nat_le, nat_lt}
use Rattle.base.specs.declared.texts.TextKind.TheVariants.{Name, Version}
use Rattle.base.specs.declared.reasons.Reason.{Reason}
use Rattle.base.specs.declared.reasons.Reason.TheVariants.{EndsEarly, WrongWord, OutsideLimits, PathNotRising, WrongEndCount}
use Rattle.base.specs.declared.reasons.Refusal.{Refusal}
use Rattle.base.specs.Refusals.{word_refusal}
use Rattle.base.specs.Texts.{between, fitting, spells}
use Rattle.package.specs.declared.rules.TextRule.{TextRule}
use Rattle.package.specs.declared.rules.TextRule.TheVariants.{Spelled, Free}
use Rattle.package.specs.Words.{kind, name_length, version_length, is_head, byte_count, bytes, is_text, content_length, path, is_file, is_end, end_count}

-- what is due at a place
pub data Due : Type 0 where
  -- the head of a package, or of a name alone
  package_head : Due
  name_head : Due
  -- a text with so many bytes to come, whether it has begun, and what is due behind it
  text : TextRule → ℕ → Bool → Due → Due
  -- a file or the end, behind so many files, and the lowest path that may stand here
  item : ℕ → ℕ → Due
  -- no word
  nothing : Due

-- a reason where a test fails, else what the later tests say
abbrev pub must : Bool → Reason → Option Reason → Option Reason
must test reason others = cond test others (Some reason)

-- all words of a text but the last carry three bytes; the last word of a name or a version carries the rest of its
-- length, that of a content any
abbrev pub right_count : TextRule → ℕ → ℕ → Bool
right_count (Spelled kind) left n = n == min left 3
right_count Free left n = between (cond (nat_le left 3) 1 3) 3 n

abbrev pub right_bytes : TextRule → Bool → List ℕ → Bool
right_bytes (Spelled kind) begun bs = spells kind begun bs
right_bytes Free begun bs = true

abbrev pub head_fault : Bool → ℕ → Option Reason
head_fault lengths w = must (is_head w) WrongWord (must lengths OutsideLimits None)

abbrev pub text_fault : TextRule → ℕ → Bool → ℕ → Option Reason
text_fault rule left begun w =
    must (is_text w) WrongWord (must (right_count rule left (byte_count w) && right_bytes rule begun (bytes w)) OutsideLimits None)

abbrev pub item_fault : ℕ → ℕ → ℕ → ℕ → Option Reason
item_fault files floor place w =
    must (is_file w || is_end w) WrongWord
    (cond (is_end w) (must (end_count w == place) WrongEndCount None)
    (must (nat_lt files 24 && nat_le (content_length w) 32) OutsideLimits (must (nat_le floor (path w)) PathNotRising None)))

-- what is wrong with a word at a place
abbrev pub fault : Due → ℕ → ℕ → Option Reason
fault package_head place w = head_fault (fitting Name (name_length w) && fitting Version (version_length w)) w
fault name_head place w = head_fault (fitting Name (name_length w) && version_length w == 0) w
fault (text rule left begun after) place w = text_fault rule left begun w
fault (item files floor) place w = item_fault files floor place w
fault nothing place w = Some WrongWord

abbrev pub contents : ℕ → Due → Due
contents words after = cond (words == 0) after (text Free (3 * words) false after)

-- what is due behind it
abbrev pub next : Due → ℕ → Due
next package_head w = text (Spelled Name) (name_length w) false (text (Spelled Version) (version_length w) false (item 0 0))
next name_head w = text (Spelled Name) (name_length w) false nothing
next (text rule left begun after) w = cond (nat_le left 3) after (text rule (left - 3) true after)
next (item files floor) w = cond (is_end w) nothing (contents (content_length w) (item (files + 1) (path w + 1)))
next nothing w = nothing

abbrev pub complete : Due → Bool
complete package_head = false
complete name_head = false
complete (text rule left begun after) = false
complete (item files floor) = false
complete nothing = true

abbrev pub or_else : Option Reason → ℕ → Option Refusal → Option Refusal
or_else (Some reason) place others = Some (word_refusal reason place)
or_else None place others = others

-- the first fault of the words from a place on, where this is due
abbrev pub refusal : Due → ℕ → List ℕ → Option Refusal
refusal due place [] = cond (complete due) None (Some (word_refusal EndsEarly place))
refusal due place (w ∷ ws) = or_else (fault due place w) place (refusal (next due w) (place + 1) ws)
