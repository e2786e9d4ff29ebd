-- The texts of names and versions, and what their constructors answer.
use Rattle.std.specs.Prelude.{◌≡◌, ℕ, Bool, cond, List, Some, None, Option, Decides, nat_eq}
use Rattle.std.specs.Cmp.Lexicographic.{pointwise}
use Rattle.base.specs.declared.texts.ShortText.{ShortText}
use Rattle.base.specs.declared.texts.TextKind.{TextKind}
use Rattle.base.specs.declared.texts.TextKind.TheVariants.{Name as name, Version as version}
use Rattle.base.specs.declared.kinds.Kind.{Ghosts as Kind}
use Rattle.base.specs.declared.kinds.NameKind.{NameKind}
use Rattle.base.specs.declared.kinds.VersionKind.{VersionKind}
use Rattle.base.specs.declared.text.Text.{Text}
use Rattle.base.specs.Texts.{allowed, holds, padded, spelt}

-- names and versions are the two kinds of text
abbrev pub Name : Type 0
Name = Text NameKind (record { KIND = name })

abbrev pub Version : Type 0
Version = Text VersionKind (record { KIND = version })

abbrev pub text : {K : Type 0} {kind : Kind K} → Text K kind → List ℕ
text t = spelt t.row.bytes

-- an allowed text, as a row holds it
abbrev pub row_of : TextKind → List ℕ → Option ShortText
row_of kind bytes = cond (allowed kind bytes) (Some (record { bytes = padded bytes })) None

-- a row, if it holds an allowed text
abbrev pub row_if : TextKind → ShortText → Option ShortText
row_if kind row = cond (holds kind row.bytes) (Some row) None

abbrev pub row_in : {K : Type 0} {kind : Kind K} → Option (Text K kind) → Option ShortText
row_in None = None
row_in (Some t) = Some t.row

-- equal bytes are equal values
abbrev pub ToldByText : Type 0
ToldByText = ((m n : Name) → text m ≡ text n → m ≡ n) × ((v w : Version) → text v ≡ text w → v ≡ w)

-- a test that decides whether two values are equal
abbrev pub Telling : (T : Type 0) → (T → T → Bool) → Type 0
Telling T test = (a b : T) → Decides (test a b) (a ≡ b)

-- what `==` computes of rows, names and versions decides whether the values are equal: that the bytes are
pub record EqualityDecides : Type 0 where
  pub rows : Telling ShortText (λ a b. pointwise nat_eq a.bytes b.bytes)
  pub names : Telling Name (λ m n. pointwise nat_eq m.row.bytes n.row.bytes)
  pub versions : Telling Version (λ v w. pointwise nat_eq v.row.bytes w.row.bytes)
