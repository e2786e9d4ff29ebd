-- Where a key is in the order: what the halving gives, inside the table.
use Rattle.std.specs.Prelude.{◌≡◌, ℕ, suc, ◌<◌, Bool, cond, List, [], ◌∷◌, length, Ok, Err, Result}
use Rattle.table.specs.Answers.{Found, Absent}

module _ {E K : Type 0} (below : K → K → Bool) (keyed : E → K) where
  -- how many rows at the front have keys below k: the place of k in the order
  abbrev pub rank : K → List E → ℕ
  rank k [] = 0
  rank k (x ∷ xs) = cond (below (keyed x) k) (suc (rank k xs)) 0

  -- the key k is at a row that has it, or no row has it, and the place is where the order has it
  abbrev pub Spots : K → List E → Result ℕ ℕ → Type 0
  Spots k xs (Ok i) = (i < length xs) × Found below keyed k xs i
  Spots k xs (Err i) = (i ≡ rank k xs) × Absent below keyed k xs
