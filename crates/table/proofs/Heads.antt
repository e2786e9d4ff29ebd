-- The first row of rising rows, and the rest.
use Rattle.std.proofs.Common.{◌≡◌, Bool, true, List, ◌∷◌}
use Rattle.std.proofs.lemmas.Bool.{and_parts, and_from}
use Rattle.table.specs.Rows.{under, rising}

module _ {E K : Type 0} (below : K → K → Bool) (keyed : E → K) where
  pub under_parts : (k : K) (x : E) (xs : List E) → under below keyed k (x ∷ xs) ≡ true → (below k (keyed x) ≡ true) × (under below keyed k xs ≡ true)
  under_parts k x xs = and_parts (below k (keyed x)) (under below keyed k xs)

  pub under_from : (k : K) (x : E) (xs : List E) → below k (keyed x) ≡ true → under below keyed k xs ≡ true → under below keyed k (x ∷ xs) ≡ true
  under_from k x xs = and_from (below k (keyed x)) (under below keyed k xs)

  pub rising_parts : (x : E) (xs : List E) → rising below keyed (x ∷ xs) ≡ true → (under below keyed (keyed x) xs ≡ true) × (rising below keyed xs ≡ true)
  rising_parts x xs = and_parts (under below keyed (keyed x) xs) (rising below keyed xs)

  pub rising_from : (x : E) (xs : List E) → under below keyed (keyed x) xs ≡ true → rising below keyed xs ≡ true → rising below keyed (x ∷ xs) ≡ true
  rising_from x xs = and_from (under below keyed (keyed x) xs) (rising below keyed xs)
