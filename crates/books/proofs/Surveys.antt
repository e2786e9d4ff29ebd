-- What the owners say of files, one file more.
use Rattle.std.proofs.Common.{◌≡◌, ℕ, ◌+◌, Bool, true, false, ◌||◌, List, [], ◌∷◌, refl, sym, ap, ◌∙◌, arith, Option, not, is_some}
use Rattle.package.specs.Wares.{Ware}
use Rattle.steps.specs.Wares.{one_if}
use Rattle.status.specs.declared.rows.Owned.{Owned}
use Rattle.books.specs.Owners.{any_of, fresh_count}

or_assoc : (a b c : Bool) → ((a || b) || c) ≡ (a || (b || c))
or_assoc true b c = refl
or_assoc false b c = refl

or_none : (a : Bool) → (a || false) ≡ a
or_none true = refl
or_none false = refl

-- whether some file passes a test
pub any_turn : (test : Ware → Bool) (a b : Bool) (x : Ware) (xs ys : List Ware) → ys ≡ x ∷ xs → b ≡ test x → ((a || b) || any_of test xs) ≡ (a || any_of test ys)
any_turn test a b x xs ys e t =
    or_assoc a b (any_of test xs) ∙ ap (λ (c : Bool). a || (c || any_of test xs)) t ∙ sym (ap (λ (zs : List Ware). a || any_of test zs) e)

pub any_end : (test : Ware → Bool) (a : Bool) (ys : List Ware) → ys ≡ [] → a ≡ (a || any_of test ys)
any_end test a ys e = sym (ap (λ (zs : List Ware). a || any_of test zs) e ∙ or_none a)

-- how many paths have no owner
pub fresh_turn : (f : ℕ → Option Owned) (a b : ℕ) (x : Ware) (xs ys : List Ware) → ys ≡ x ∷ xs → b ≡ one_if (not (is_some (f x.path))) → a + b + fresh_count f xs ≡ a + fresh_count f ys
fresh_turn f a b x xs ys e t =
    let n : a + b + fresh_count f xs ≡ a + (b + fresh_count f xs) = omega arith in
    n ∙ ap (λ (k : ℕ). a + (k + fresh_count f xs)) t ∙ sym (ap (λ (zs : List Ware). a + fresh_count f zs) e)

pub fresh_end : (f : ℕ → Option Owned) (a : ℕ) (ys : List Ware) → ys ≡ [] → a ≡ a + fresh_count f ys
fresh_end f a ys e =
    let n : a ≡ a + 0 = omega arith in
    n ∙ sym (ap (λ (zs : List Ware). a + fresh_count f zs) e)
