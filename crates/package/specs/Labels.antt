-- What is kept of a package when its words are let go.
use Rattle.std.specs.Prelude.{◌≡◌, ℕ, List, drop, None}
use Rattle.base.specs.Named.{text}
use Rattle.package.specs.declared.label.Label.{Label}
use Rattle.package.specs.declared.package.Package.{Package}
use Rattle.package.specs.Accepted.{package_refusal}
use Rattle.package.specs.Checks.{package_head, item, refusal}
use Rattle.package.specs.Packages.{name_in, version_in, files_in}
use Rattle.package.specs.Wares.{Ware, wares}

abbrev pub label_of : Package → Label
label_of p = record { name = p.name; version = p.version; first_file = p.first_file }

-- words without a fault, and the label of the package that was read from them: its files stand from `first_file` on
pub record Labelling (words : List ℕ) (l : Label) : Type 0 where
  pub accepted : package_refusal words ≡ None
  pub named : text l.name ≡ name_in words
  pub versioned : text l.version ≡ version_in words
  pub filed : files_in (item 0 0) (drop l.first_file words) ≡ files_in package_head words
  pub sound : refusal (item 0 0) l.first_file (drop l.first_file words) ≡ None

-- words without a fault that spell the label's name and version
pub record Bears (words : List ℕ) (l : Label) : Type 0 where
  pub accepted : package_refusal words ≡ None
  pub named : text l.name ≡ name_in words
  pub versioned : text l.version ≡ version_in words

-- the files that the label finds in words
abbrev pub files_by : Label → List ℕ → List Ware
files_by l words = wares 0 (drop l.first_file words)
