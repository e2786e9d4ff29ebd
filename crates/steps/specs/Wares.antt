-- What is done with all files of a package.
use Rattle.std.specs.Prelude.{◌≡◌, ℕ, ◌+◌, Bool, true, false, cond, List, [], ◌∷◌, None, Ok, Err, Result, ◌==◌}
use Rattle.std.specs.List.{AllByRecursion}
use Rattle.base.specs.declared.files.FileKind.{FileKind}
use Rattle.package.specs.Wares.{Ware}
use Rattle.store.specs.Sides.{Sides, side_of, change}
use Rattle.steps.specs.declared.token.Before.{Before}
use Rattle.steps.specs.declared.pass.Unwind.{Unwind}
use Rattle.steps.specs.declared.pass.Unwind.TheVariants.{PutBack, Discard}
use Rattle.steps.specs.Steps.{refuge, in_way, set_aside, laid, room_for, put_back, discarded}

-- what came of laying files, one by one
pub record Tally : Type 0 where
  -- the store took each of them
  pub all : Bool
  -- how many were laid, with the one that was refused
  pub touched : ℕ
  -- how many files were set aside
  pub aside : ℕ

abbrev pub one_if : Bool → ℕ
one_if true = 1
one_if false = 0

-- one file more was laid
abbrev pub more : Bool → Tally → Tally
more aside t = record { all = t.all; touched = t.touched + 1; aside = t.aside + one_if aside }

-- Files are laid one by one, up to the first that the store refuses.
abbrev pub lay_all : ℕ → ℕ → List Ware → (ℕ → Sides) → Tally × (ℕ → Sides)
lay_all block units [] f = (record { all = true; touched = 0; aside = 0 }, f)
lay_all block units (x ∷ xs) f =
    cond (room_for block units x.kind x.path x.words f) (
      more (in_way x.kind (f x.path)) (lay_all block units xs (change x.path (laid x.kind x.words) f)).0,
      (lay_all block units xs (change x.path (laid x.kind x.words) f)).1,
    )
    (record { all = false; touched = 1; aside = one_if (in_way x.kind (f x.path)) }, change x.path (set_aside x.kind) f)

-- what is done with each file that was laid
abbrev pub unwound : Unwind → FileKind → Sides → Sides
unwound PutBack kind x = put_back kind x
unwound Discard kind x = discarded kind x

abbrev pub unwind_all : Unwind → List Ware → (ℕ → Sides) → ℕ → Sides
unwind_all how [] f = f
unwind_all how (x ∷ xs) f = unwind_all how xs (change x.path (unwound how x.kind) f)

-- no path twice
abbrev pub Distinct : List Ware → Type 0
Distinct [] = Unit {0}
Distinct (x ∷ xs) = AllByRecursion (λ y. (y.path == x.path) ≡ false) xs × Distinct xs

-- nothing is set aside where these files go
abbrev pub Clean : List Ware → (ℕ → Sides) → Type 0
Clean xs f = AllByRecursion (λ x. side_of (refuge x.kind) (f x.path) ≡ None) xs

-- what laying them answers, and leaves
abbrev pub Lays : ℕ → ℕ → List Ware → (ℕ → Sides) → Result Before Before → (ℕ → Sides) → Type 0
Lays block units xs f (Ok t) g = lay_all block units xs f ≡ (record { all = true; touched = t.touched; aside = t.aside }, g)
Lays block units xs f (Err t) g = lay_all block units xs f ≡ (record { all = false; touched = t.touched; aside = t.aside }, g)

-- so many files were laid over f, and left g
abbrev pub LaidOver : ℕ → ℕ → List Ware → (ℕ → Sides) → ℕ → (ℕ → Sides) → Type 0
LaidOver block units xs f touched g = ((lay_all block units xs f).0.touched ≡ touched) × ((lay_all block units xs f).1 ≡ g)
