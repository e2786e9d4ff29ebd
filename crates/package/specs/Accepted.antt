-- Which words are a package, or a name alone, and where the files of a package begin.
use Rattle.std.specs.Prelude.{ℕ, ◌+◌, Bool, not, List, [], ◌∷◌, is_some, Option}
use Rattle.base.specs.declared.reasons.Refusal.{Refusal}
use Rattle.package.specs.Words.{name_length, version_length}
use Rattle.package.specs.Checks.{package_head, name_head, refusal}
use Rattle.package.specs.Items.{words_for}

-- the first fault of words that are to be a package, or a name alone
abbrev pub package_refusal : List ℕ → Option Refusal
package_refusal words = refusal package_head 0 words

abbrev pub name_refusal : List ℕ → Option Refusal
name_refusal words = refusal name_head 0 words

-- words without a fault
abbrev pub accepts : List ℕ → Bool
accepts words = not (is_some (package_refusal words))

-- behind the head, the name and the version
abbrev pub files_place : List ℕ → ℕ
files_place [] = 0
files_place (w ∷ ws) = 1 + words_for (name_length w) + words_for (version_length w)
