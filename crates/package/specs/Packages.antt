-- Packages by what they carry, and their encoding in words.
use Rattle.std.specs.Prelude.{◌≡◌, ℕ, ◌+◌, ◌-◌, ◌*◌, ◌^◌, ◌<◌, ◌≤◌, true, false, cond, List, [], ◌∷◌, ◌++◌, length, nat_le}
use Rattle.std.specs.List.{flat_map, AllByRecursion}
use Rattle.base.specs.declared.files.FileKind.{FileKind}
use Rattle.base.specs.declared.files.FileKind.TheVariants.{Plain, Conffile}
use Rattle.base.specs.declared.texts.TextKind.TheVariants.{Name, Version}
use Rattle.base.specs.Texts.{allowed}
use Rattle.package.specs.declared.rules.TextRule.TheVariants.{Spelled}
use Rattle.package.specs.Words.{name_length, version_length, bytes, file_kind, path, is_end}
use Rattle.package.specs.Checks.{Due, package_head, name_head, text, item, nothing, next}

-- a file that a package carries, with the bytes of its content
pub record Carried : Type 0 where
  pub kind : FileKind
  pub path : ℕ
  pub content : List ℕ

pub record Contents : Type 0 where
  pub name : List ℕ
  pub version : List ℕ
  pub files : List Carried

abbrev pub text_word : ℕ → ℕ → ℕ → ℕ → ℕ
text_word n a b c = 2 * 2 ^ 28 + n * 2 ^ 24 + a * 2 ^ 16 + b * 2 ^ 8 + c

-- a text has three bytes to a word, the last word the rest
abbrev pub text_words : List ℕ → List ℕ
text_words [] = []
text_words (a ∷ []) = text_word 1 a 0 0 ∷ []
text_words (a ∷ b ∷ []) = text_word 2 a b 0 ∷ []
text_words (a ∷ b ∷ c ∷ rest) = text_word 3 a b c ∷ text_words rest

abbrev pub head_word : ℕ → ℕ → ℕ
head_word name version = 2 ^ 28 + version * 2 ^ 8 + name

abbrev pub kind_number : FileKind → ℕ
kind_number Plain = 3
kind_number Conffile = 4

abbrev pub file_words : Carried → List ℕ
file_words f =
    (kind_number f.kind * 2 ^ 28 + length (text_words f.content) * 2 ^ 8 + f.path) ∷ text_words f.content

abbrev pub end_word : ℕ → ℕ
end_word count = 15 * 2 ^ 28 + count

abbrev pub body : Contents → List ℕ
body p =
    head_word (length p.name) (length p.version) ∷ (text_words p.name ++ (text_words p.version ++ flat_map file_words p.files))

-- a package in words, and a name alone
abbrev pub encoded : Contents → List ℕ
encoded p = body p ++ end_word (length (body p)) ∷ []

abbrev pub name_encoded : List ℕ → List ℕ
name_encoded name = head_word (length name) 0 ∷ text_words name

-- the rules of a package: name and version are allowed, at most 24 files, their paths rise
pub record Fits (f : Carried) : Type 0 where
  pub low : f.path < 256
  pub bytes : AllByRecursion (λ b. b < 256) f.content
  pub short : length (text_words f.content) ≤ 32

abbrev pub Rising : ℕ → List Carried → Type 0
Rising floor [] = Unit {0}
Rising floor (f ∷ fs) = (floor ≤ f.path) × Rising (f.path + 1) fs

pub record Within (p : Contents) : Type 0 where
  pub named : allowed Name p.name ≡ true
  pub versioned : allowed Version p.version ≡ true
  pub few : length p.files ≤ 24
  pub rising : Rising 0 p.files
  pub fitting : AllByRecursion Fits p.files

-- what stands in words: the text that is due, the words behind it, and the files
abbrev pub text_in : Due → List ℕ → List ℕ
text_in package_head ws = []
text_in name_head ws = []
text_in (text rule left begun after) [] = []
text_in (text rule left begun after) (w ∷ ws) = bytes w ++ cond (nat_le left 3) [] (text_in (text rule (left - 3) true after) ws)
text_in (item files floor) ws = []
text_in nothing ws = []

abbrev pub behind_text : Due → List ℕ → List ℕ
behind_text package_head ws = ws
behind_text name_head ws = ws
behind_text (text rule left begun after) [] = []
behind_text (text rule left begun after) (w ∷ ws) = cond (nat_le left 3) ws (behind_text (text rule (left - 3) true after) ws)
behind_text (item files floor) ws = ws
behind_text nothing ws = ws

abbrev pub files_in : Due → List ℕ → List Carried
files_in package_head [] = []
files_in package_head (w ∷ ws) = files_in (next package_head w) ws
files_in name_head ws = []
files_in (text rule left begun after) [] = []
files_in (text rule left begun after) (w ∷ ws) = files_in (next (text rule left begun after) w) ws
files_in (item files floor) [] = []
files_in (item files floor) (w ∷ ws) =
    cond (is_end w) []
    (record { kind = file_kind w; path = path w; content = text_in (next (item files floor) w) ws } ∷ files_in (next (item files floor) w) ws)
files_in nothing ws = []

abbrev pub name_due : ℕ → Due
name_due w = text (Spelled Name) (name_length w) false nothing

abbrev pub version_due : ℕ → Due
version_due w = text (Spelled Version) (version_length w) false nothing

abbrev pub name_in : List ℕ → List ℕ
name_in [] = []
name_in (w ∷ ws) = text_in (name_due w) ws

abbrev pub version_in : List ℕ → List ℕ
version_in [] = []
version_in (w ∷ ws) = text_in (version_due w) (behind_text (name_due w) ws)

-- the package that words hold
abbrev pub package_in : List ℕ → Contents
package_in words = record { name = name_in words; version = version_in words; files = files_in package_head words }
