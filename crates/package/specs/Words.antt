-- The fields of a word, by their bits. Bits 31 to 28 are its kind.
use Rattle.std.specs.Prelude.{ℕ, ◌-◌, ◌*◌, ◌/◌, ◌%◌, ◌^◌, Bool, cond, ◌&&◌, ◌||◌, List, [], ◌∷◌, take, ◌==◌}
use Rattle.base.specs.declared.files.FileKind.{FileKind}
use Rattle.base.specs.declared.files.FileKind.TheVariants.{Plain, Conffile}

abbrev pub kind : ℕ → ℕ
kind w = w / 2 ^ 28

-- head, kind 1: bits 15 to 8 the version's length, bits 7 to 0 the name's; bits 27 to 16 are zero
abbrev pub name_length : ℕ → ℕ
name_length w = w % 2 ^ 8

abbrev pub version_length : ℕ → ℕ
version_length w = w / 2 ^ 8 % 2 ^ 8

abbrev pub is_head : ℕ → Bool
is_head w = kind w == 1 && w / 2 ^ 16 % 2 ^ 12 == 0

-- text, kind 2: bits 27 to 24 the number of bytes, bits 23 to 0 the bytes, the first highest
abbrev pub byte_count : ℕ → ℕ
byte_count w = w / 2 ^ 24 % 2 ^ 4

abbrev pub three : ℕ → List ℕ
three w = (w / 2 ^ 16 % 2 ^ 8) ∷ (w / 2 ^ 8 % 2 ^ 8) ∷ (w % 2 ^ 8) ∷ []

abbrev pub bytes : ℕ → List ℕ
bytes w = take (byte_count w) (three w)

-- the bytes behind the word's own count are zero
abbrev pub is_text : ℕ → Bool
is_text w = kind w == 2 && w % 2 ^ (8 * (3 - byte_count w)) == 0

-- plain file, kind 3, and conffile, kind 4: bits 13 to 8 the number of content words, bits 7 to 0 the path; bits 27 to 14 are zero
abbrev pub content_length : ℕ → ℕ
content_length w = w / 2 ^ 8 % 2 ^ 6

abbrev pub path : ℕ → ℕ
path w = w % 2 ^ 8

abbrev pub file_kind : ℕ → FileKind
file_kind w = cond (kind w == 3) Plain Conffile

abbrev pub is_file : ℕ → Bool
is_file w = (kind w == 3 || kind w == 4) && w / 2 ^ 14 % 2 ^ 14 == 0

-- end, kind 15: bits 27 to 0 the number of words before it
abbrev pub is_end : ℕ → Bool
is_end w = kind w == 15

abbrev pub end_count : ℕ → ℕ
end_count w = w % 2 ^ 28
