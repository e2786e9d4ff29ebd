-- Rows in the order of their keys.
use Rattle.std.specs.Prelude.{◌≡◌, ℕ, zero, suc, Bool, true, cond, ◌&&◌, List, [], ◌∷◌, Some, None, Option}
use Rattle.table.specs.Order.{meets}

module _ {E K : Type 0} (below : K → K → Bool) (keyed : E → K) where
  -- the key k is below the key of every row
  abbrev pub under : K → List E → Bool
  under k [] = true
  under k (x ∷ xs) = below k (keyed x) && under k xs

  -- the keys rise: each is below all that follow
  abbrev pub rising : List E → Bool
  rising [] = true
  rising (x ∷ xs) = under (keyed x) xs && rising xs

  -- the row at the place i has the key k
  abbrev pub Stands : K → List E → ℕ → Type 0
  Stands k [] i = ⊥
  Stands k (x ∷ xs) zero = meets below (keyed x) k ≡ true
  Stands k (x ∷ xs) (suc i) = Stands k xs i

  -- no row has the key k
  abbrev pub Missing : K → List E → Type 0
  Missing k xs = (i : ℕ) → Stands k xs i → ⊥

  -- the rows as a function of the key: the row that has the key k
  abbrev pub lookup : K → List E → Option E
  lookup k [] = None
  lookup k (x ∷ xs) = cond (meets below (keyed x) k) (Some x) (lookup k xs)

  -- From xs to ys the rows changed at the key k alone: there a search now finds `found`, and any other key is found as before.
  abbrev pub Only : K → Option E → List E → List E → Type 0
  Only k found xs ys = (q : K) → lookup q ys ≡ cond (meets below k q) found (lookup q xs)
