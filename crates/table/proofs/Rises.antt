-- The keys still rise after a row is taken out, put in at its place, or replaced by another of its key.
use Rattle.std.proofs.Common.{◌≡◌, ℕ, zero, suc, Bool, true, List, [], ◌∷◌, set, sym, refl, ◌∙◌}
use Rattle.std.specs.List.{insert, remove}
use Rattle.std.proofs.lemmas.Bool.{cond_both}
use Rattle.table.specs.Order.{Total, meets}
use Rattle.table.specs.Rows.{under, rising, Stands, Missing}
use Rattle.table.specs.Spots.{rank}
use Rattle.table.proofs.Heads.{under_parts, under_from, rising_parts, rising_from}
use Rattle.table.proofs.Meets.{meets_sym, meets_below, meets_above, other_below}

module _ {E K : Type 0} (below : K → K → Bool) (keyed : E → K) where
  under_removed : (k : K) (xs : List E) (i : ℕ) → under below keyed k xs ≡ true → under below keyed k (remove xs i) ≡ true
  under_removed k [] zero u = refl
  under_removed k [] (suc i) u = refl
  under_removed k (x ∷ xs) zero u = (under_parts below keyed k x xs u).1
  under_removed k (x ∷ xs) (suc i) u =
      under_from below keyed k x (remove xs i) (under_parts below keyed k x xs u).0 (under_removed k xs i (under_parts below keyed k x xs u).1)

  pub rising_removed : (xs : List E) (i : ℕ) → rising below keyed xs ≡ true → rising below keyed (remove xs i) ≡ true
  rising_removed [] zero r = refl
  rising_removed [] (suc i) r = refl
  rising_removed (x ∷ xs) zero r = (rising_parts below keyed x xs r).1
  rising_removed (x ∷ xs) (suc i) r =
      rising_from below keyed x (remove xs i) (under_removed (keyed x) xs i (rising_parts below keyed x xs r).0) (rising_removed xs i (rising_parts below keyed x xs r).1)

  under_inserted : (k : K) (xs : List E) (i : ℕ) (e : E) → below k (keyed e) ≡ true → under below keyed k xs ≡ true → under below keyed k (insert xs i e) ≡ true
  under_inserted k xs zero e b u = under_from below keyed k e xs b u
  under_inserted k [] (suc i) e b u = under_from below keyed k e [] b refl
  under_inserted k (x ∷ xs) (suc i) e b u =
      under_from below keyed k x (insert xs i e) (under_parts below keyed k x xs u).0 (under_inserted k xs i e b (under_parts below keyed k x xs u).1)

module _ {E K : Type 0} {below : K → K → Bool} {same : K → K → Type 0} (total : Total below same) (keyed : E → K) where
  under_trans : (a b : K) (xs : List E) → below a b ≡ true → under below keyed b xs ≡ true → under below keyed a xs ≡ true
  under_trans a b [] l u = refl
  under_trans a b (x ∷ xs) l u =
      let p = under_parts below keyed b x xs u in
      under_from below keyed a x xs (total.trans a b (keyed x) l p.0) (under_trans a b xs l p.1)

  pub rising_inserted : (e : E) (xs : List E) → rising below keyed xs ≡ true → Missing below keyed (keyed e) xs
      → rising below keyed (insert xs (rank below keyed (keyed e) xs) e) ≡ true
  rising_inserted e [] r m = refl
  rising_inserted e (x ∷ xs) r m =
      let p = rising_parts below keyed x xs r in
      cond_both (below (keyed x) (keyed e)) (suc (rank below keyed (keyed e) xs)) 0 (λ i. rising below keyed (insert (x ∷ xs) i e) ≡ true)
      (λ l. rising_from below keyed x (insert xs (rank below keyed (keyed e) xs) e) (under_inserted below keyed (keyed x) xs (rank below keyed (keyed e) xs) e l p.0)
      (rising_inserted e xs p.1 (λ i s. m (suc i) s)))
      (λ l. let b = other_below total (keyed x) (keyed e) l (m 0) in
      rising_from below keyed e (x ∷ xs) (under_from below keyed (keyed e) x xs b (under_trans (keyed e) (keyed x) xs b p.0)) r)

  under_like : (a b : K) (xs : List E) → meets below a b ≡ true → under below keyed b xs ≡ true → under below keyed a xs ≡ true
  under_like a b [] m u = refl
  under_like a b (x ∷ xs) m u =
      let p = under_parts below keyed b x xs u in
      under_from below keyed a x xs (meets_below total a b (keyed x) m ∙ p.0) (under_like a b xs m p.1)

  under_set : (k : K) (xs : List E) (i : ℕ) (e : E) → Stands below keyed (keyed e) xs i → under below keyed k xs ≡ true → under below keyed k (set xs i e) ≡ true
  under_set k [] i e s u = refl
  under_set k (x ∷ xs) zero e s u =
      let p = under_parts below keyed k x xs u in
      under_from below keyed k e xs (sym (meets_above total (keyed x) (keyed e) k s) ∙ p.0) p.1
  under_set k (x ∷ xs) (suc i) e s u =
      let p = under_parts below keyed k x xs u in
      under_from below keyed k x (set xs i e) p.0 (under_set k xs i e s p.1)

  pub rising_set : (xs : List E) (i : ℕ) (e : E) → Stands below keyed (keyed e) xs i → rising below keyed xs ≡ true → rising below keyed (set xs i e) ≡ true
  rising_set [] i e s r = refl
  rising_set (x ∷ xs) zero e s r =
      let p = rising_parts below keyed x xs r in
      rising_from below keyed e xs (under_like (keyed e) (keyed x) xs (meets_sym total (keyed e) (keyed x) ∙ s) p.0) p.1
  rising_set (x ∷ xs) (suc i) e s r =
      let p = rising_parts below keyed x xs r in
      rising_from below keyed x (set xs i e) (under_set (keyed x) xs i e s p.0) (rising_set xs i e s p.1)
