-- What reading a package, or a name alone, answers.
use Rattle.std.specs.Prelude.{◌≡◌, ℕ, true, List, drop, None}
use Rattle.std.specs.List.{flat_map}
use Rattle.base.specs.declared.texts.TextKind.TheVariants.{Name, Version}
use Rattle.base.specs.Texts.{allowed}
use Rattle.base.specs.Named.{text, Name as NameType}
use Rattle.package.specs.declared.package.Package.{Package}
use Rattle.package.specs.Words.{bytes}
use Rattle.package.specs.Accepted.{package_refusal, name_refusal, files_place}
use Rattle.package.specs.Checks.{package_head, item, refusal}
use Rattle.package.specs.Packages.{name_in, version_in, files_in}

-- words without a fault, taken apart: the words of the name and of the version, and where the files begin
pub record Parted (words name version : List ℕ) (first : ℕ) : Type 0 where
  pub accepted : package_refusal words ≡ None
  pub named : flat_map bytes name ≡ name_in words
  pub spelled : allowed Name (flat_map bytes name) ≡ true
  pub versioned : flat_map bytes version ≡ version_in words
  pub numbered : allowed Version (flat_map bytes version) ≡ true
  pub filed : files_in (item 0 0) (drop first words) ≡ files_in package_head words
  pub sound : refusal (item 0 0) first (drop first words) ≡ None
  pub placed : first ≡ files_place words

-- a name alone without a fault, and the words of the name
pub record Alone (words name : List ℕ) : Type 0 where
  pub accepted : name_refusal words ≡ None
  pub named : flat_map bytes name ≡ name_in words
  pub spelled : allowed Name (flat_map bytes name) ≡ true

-- words without a fault, and the package that was read from them, which holds them: its files stand from `first_file` on
pub record Reading (words : List ℕ) (p : Package) : Type 0 where
  pub own : p.words.now ≡ words
  pub accepted : package_refusal words ≡ None
  pub named : text p.name ≡ name_in words
  pub versioned : text p.version ≡ version_in words
  pub filed : files_in (item 0 0) (drop p.first_file words) ≡ files_in package_head words
  pub sound : refusal (item 0 0) p.first_file (drop p.first_file words) ≡ None

pub record Naming (words : List ℕ) (n : NameType) : Type 0 where
  pub accepted : name_refusal words ≡ None
  pub named : text n ≡ name_in words
