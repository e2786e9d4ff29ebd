-- What a search by key finds in rows, as they are and after a change.
use Rattle.std.proofs.Common.{◌≡◌, ℕ, zero, suc, Bool, true, false, cond, List, [], ◌∷◌, get_or, set, Some, None, sym, refl, ap, ◌∙◌}
use Rattle.std.specs.List.{insert, remove}
use Rattle.std.proofs.lemmas.Bool.{both_ways}
use Rattle.table.specs.Order.{Total, meets}
use Rattle.table.specs.Rows.{rising, Stands, Missing, lookup, Only}
use Rattle.table.proofs.Heads.{rising_parts}
use Rattle.table.proofs.Meets.{meets_sym, meets_meets, below_apart}
use Rattle.table.proofs.Ranks.{under_stands}

-- a test before another, where both are never met
swap : {A : Type 0} (p q : Bool) (x y z : A) → (p ≡ true → q ≡ true → ⊥) → cond p x (cond q y z) ≡ cond q y (cond p x z)
swap true true x y z n = absurd (n refl refl)
swap true false x y z n = refl
swap false q x y z n = refl

module _ {E K : Type 0} {below : K → K → Bool} {same : K → K → Type 0} (total : Total below same) (keyed : E → K) where
  pub look_missing : (k : K) (xs : List E) → Missing below keyed k xs → lookup below keyed k xs ≡ None
  look_missing k [] m = refl
  look_missing k (x ∷ xs) m =
      (elim (meets below (keyed x) k) as (λ b. meets below (keyed x) k ≡ b → cond b (Some x) (lookup below keyed k xs) ≡ None)
      [ true ↦ λ p. absurd (m 0 p) | false ↦ λ p. look_missing k xs (λ i s. m (suc i) s) ]) refl

  -- the first of rising rows is the only one of its key
  first_only : (k : K) (x : E) (xs : List E) (i : ℕ) → rising below keyed (x ∷ xs) ≡ true → Stands below keyed k xs i → meets below (keyed x) k ≡ false
  first_only k x xs i r s = below_apart total (keyed x) k (under_stands total keyed (keyed x) k xs i (rising_parts below keyed x xs r).0 s)

  pub look_stands : (k : K) (xs : List E) (i : ℕ) (x : E) → rising below keyed xs ≡ true → x ≡ get_or xs i x → Stands below keyed k xs i → lookup below keyed k xs ≡ Some x
  look_stands k [] i x r e s = absurd s
  look_stands k (y ∷ ys) zero x r e s = rw s (ap Some (sym e))
  look_stands k (y ∷ ys) (suc i) x r e s = rw (first_only k y ys i r s) (look_stands k ys i x (rising_parts below keyed y ys r).1 e s)

  -- two keys that meet a third meet
  both_meet : (a b q : K) → meets below a q ≡ true → meets below b q ≡ true → meets below a b ≡ true
  both_meet a b q p r = meets_meets total a q b p ∙ meets_sym total q b ∙ r

  pub only_inserted : (e : E) (xs : List E) (i : ℕ) → Missing below keyed (keyed e) xs → Only below keyed (keyed e) (Some e) xs (insert xs i e)
  only_inserted e xs zero m q = refl
  only_inserted e [] (suc i) m q = refl
  only_inserted e (x ∷ xs) (suc i) m q =
      ap (cond (meets below (keyed x) q) (Some x)) (only_inserted e xs i (λ j s. m (suc j) s) q)
      ∙ swap (meets below (keyed x) q) (meets below (keyed e) q) (Some x) (Some e) (lookup below keyed q xs) (λ p r. m 0 (both_meet (keyed x) (keyed e) q p r))

  pub only_set : (e : E) (xs : List E) (i : ℕ) → rising below keyed xs ≡ true → Stands below keyed (keyed e) xs i → Only below keyed (keyed e) (Some e) xs (set xs i e)
  only_set e [] i r s q = absurd s
  only_set e (x ∷ xs) zero r s q =
      rw (meets_meets total (keyed x) (keyed e) q s)
      (elim (meets below (keyed e) q) as (λ b. cond b (Some e) (lookup below keyed q xs) ≡ cond b (Some e) (cond b (Some x) (lookup below keyed q xs)))
      [ true ↦ refl | false ↦ refl ])
  only_set e (x ∷ xs) (suc i) r s q =
      ap (cond (meets below (keyed x) q) (Some x)) (only_set e xs i (rising_parts below keyed x xs r).1 s q)
      ∙ swap (meets below (keyed x) q) (meets below (keyed e) q) (Some x) (Some e) (lookup below keyed q xs)
      (λ p t. both_ways (meets below (keyed x) (keyed e)) (first_only (keyed e) x xs i r s) (both_meet (keyed x) (keyed e) q p t))

  pub only_removed : (k : K) (xs : List E) (i : ℕ) → rising below keyed xs ≡ true → Stands below keyed k xs i → Only below keyed k None xs (remove xs i)
  only_removed k [] i r s q = absurd s
  only_removed k (x ∷ xs) zero r s q =
      rw (meets_meets total (keyed x) k q s)
      ((elim (meets below k q) as (λ b. meets below k q ≡ b → lookup below keyed q xs ≡ cond b None (cond b (Some x) (lookup below keyed q xs))) [
        | true ↦ λ p. look_missing q xs (λ j t. both_ways (meets below (keyed x) q) (first_only q x xs j r t) (meets_meets total (keyed x) k q s ∙ p))
        | false ↦ λ p. refl
      ]) refl)
  only_removed k (x ∷ xs) (suc i) r s q =
      ap (cond (meets below (keyed x) q) (Some x)) (only_removed k xs i (rising_parts below keyed x xs r).1 s q)
      ∙ swap (meets below (keyed x) q) (meets below k q) (Some x) None (lookup below keyed q xs)
      (λ p t. both_ways (meets below (keyed x) k) (first_only k x xs i r s) (both_meet (keyed x) k q p t))
