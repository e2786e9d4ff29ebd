-- The law of the encoding: the words that are accepted are exactly the encodings of packages within the rules, and what
-- is read from them is the very package.
use Rattle.std.specs.Prelude.{◌≡◌, ℕ, true, List, None}
use Rattle.base.specs.declared.texts.TextKind.TheVariants.{Name}
use Rattle.base.specs.Texts.{allowed}
use Rattle.package.specs.Packages.{Contents, Within, encoded, name_encoded, package_in, name_in}
use Rattle.package.specs.Accepted.{package_refusal, name_refusal}

-- words without a fault are the encoding of the package that stands in them, and that is within the rules
abbrev pub AcceptedIsEncoded : Type 0
AcceptedIsEncoded = (words : List ℕ) → package_refusal words ≡ None → Within (package_in words) × (encoded (package_in words) ≡ words)

-- every package within the rules is accepted in its encoding, and is the one that is read from it
abbrev pub EncodedIsAccepted : Type 0
EncodedIsAccepted = (p : Contents) → Within p → (package_refusal (encoded p) ≡ None) × (package_in (encoded p) ≡ p)

-- the same of a name alone
abbrev pub NameIsEncoded : Type 0
NameIsEncoded = (words : List ℕ) → name_refusal words ≡ None → (allowed Name (name_in words) ≡ true) × (name_encoded (name_in words) ≡ words)

abbrev pub NameIsAccepted : Type 0
NameIsAccepted = (n : List ℕ) → allowed Name n ≡ true → (name_refusal (name_encoded n) ≡ None) × (name_in (name_encoded n) ≡ n)

-- being the encoding of a package, or of a name
abbrev pub PackageWords : List ℕ → Type 0
PackageWords words = (p : Contents) × Within p × (encoded p ≡ words)

abbrev pub NameWords : List ℕ → Type 0
NameWords words = (n : List ℕ) × (allowed Name n ≡ true) × (name_encoded n ≡ words)
