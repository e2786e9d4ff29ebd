-- The place of a key in rising rows.
use Rattle.std.proofs.Common.{◌≡◌, ℕ, zero, suc, ◌<◌, ◌≤◌, Bool, true, false, cond, refl, List, [], ◌∷◌, length, get_or, sym, ap, ◌∙◌, subst, le_of_suc-le-suc, not-suc-le-zero, arith}
use Rattle.std.proofs.lemmas.List.{get_or_default}
use Rattle.std.proofs.lemmas.Bool.{both_ways, cond_both}
use Rattle.std.specs.List.Sorted.{IsPartitionedBy, IsPartitionPoint}
use Rattle.table.specs.Order.{Total, meets}
use Rattle.table.specs.Rows.{under, rising, Stands, Missing}
use Rattle.table.specs.Spots.{rank}
use Rattle.table.proofs.Heads.{under_parts, rising_parts}
use Rattle.table.proofs.Meets.{meets_parts, meets_from, meets_above}

pub rank_within : {E K : Type 0} (below : K → K → Bool) (keyed : E → K) (k : K) (xs : List E) → rank below keyed k xs ≤ length xs
rank_within below keyed k [] = omega arith
rank_within below keyed k (x ∷ xs) =
    let ih = rank_within below keyed k xs in
    cond_both (below (keyed x) k) (suc (rank below keyed k xs)) 0 (λ n. n ≤ suc (length xs)) (λ _. omega arith) (λ _. omega arith)

-- the row at the place of a key is not below it
rank_read : {E K : Type 0} (below : K → K → Bool) (keyed : E → K) (k : K) (xs : List E) (i : ℕ) (x : E)
    → i ≡ rank below keyed k xs → i < length xs → x ≡ get_or xs i x → below (keyed x) k ≡ false
rank_read below keyed k [] i x at h e = absurd (not-suc-le-zero h)
rank_read below keyed k (y ∷ ys) i x at h e = go (λ j. rank_read below keyed k ys j x) (below (keyed y) k) refl i at h e
  where
    go : ((j : ℕ) → j ≡ rank below keyed k ys → j < length ys → x ≡ get_or ys j x → below (keyed x) k ≡ false)
        → (b : Bool) → below (keyed y) k ≡ b → (j : ℕ) → j ≡ cond b (suc (rank below keyed k ys)) 0 → j < suc (length ys) → x ≡ get_or (y ∷ ys) j x → below (keyed x) k ≡ false
    go rest true p zero q l r = absurd (omega arith)
    go rest true p (suc j) q l r = rest j (omega arith) (le_of_suc-le-suc l) r
    go rest false p zero q l r = ap (λ z. below (keyed z) k) r ∙ p
    go rest false p (suc j) q l r = absurd (omega arith)

-- where the rows at the front are below a key and the others are not, it has its place
rank_point : {E K : Type 0} (below : K → K → Bool) (keyed : E → K) (k : K) (xs : List E) (i : ℕ) → i ≤ length xs
    → IsPartitionPoint (λ x. below (keyed x) k ≡ true) (λ x. below (keyed x) k ≡ false) xs i → i ≡ rank below keyed k xs
rank_point below keyed k [] i l p = omega arith
rank_point below keyed k (x ∷ xs) zero l p = rw (p.1 0 x (omega arith) (omega arith))
rank_point below keyed k (x ∷ xs) (suc i) l p =
    rw (p.0 0 x (omega arith) (omega arith))
    (ap suc (rank_point below keyed k xs i (le_of_suc-le-suc l) (λ j d a b. p.0 (suc j) d (omega arith) (omega arith), λ j d a b. p.1 (suc j) d (omega arith) (omega arith))))

-- a row that is not below a key stands at its place or behind it
pub rank_upto : {E K : Type 0} (below : K → K → Bool) (keyed : E → K) (k : K) (xs : List E) (i : ℕ) (x : E)
    → i < length xs → x ≡ get_or xs i x → below (keyed x) k ≡ false → rank below keyed k xs ≤ i
rank_upto below keyed k [] i x h e b = absurd (not-suc-le-zero h)
rank_upto below keyed k (y ∷ ys) zero x h e b = let b' : below (keyed y) k ≡ false = ap (λ z. below (keyed z) k) (sym e) ∙ b in rw b' (omega arith)
rank_upto below keyed k (y ∷ ys) (suc i) x h e b =
    let ih = rank_upto below keyed k ys i x (le_of_suc-le-suc h) e b in
    cond_both (below (keyed y) k) (suc (rank below keyed k ys)) 0 (λ n. n ≤ suc i) (λ _. omega arith) (λ _. omega arith)

pub stands_within : {E K : Type 0} (below : K → K → Bool) (keyed : E → K) (k : K) (xs : List E) (i : ℕ) → Stands below keyed k xs i → i < length xs
stands_within below keyed k [] i s = absurd s
stands_within below keyed k (x ∷ xs) zero s = omega arith
stands_within below keyed k (x ∷ xs) (suc i) s = let h = stands_within below keyed k xs i s in omega arith

pub stands_from : {E K : Type 0} (below : K → K → Bool) (keyed : E → K) (k : K) (xs : List E) (i : ℕ) (x : E)
    → i < length xs → x ≡ get_or xs i x → meets below (keyed x) k ≡ true → Stands below keyed k xs i
stands_from below keyed k [] i x h e m = not-suc-le-zero h
stands_from below keyed k (y ∷ ys) zero x h e m = ap (λ z. meets below (keyed z) k) (sym e) ∙ m
stands_from below keyed k (y ∷ ys) (suc i) x h e m = stands_from below keyed k ys i x (le_of_suc-le-suc h) e m

pub stands_read : {E K : Type 0} (below : K → K → Bool) (keyed : E → K) (k : K) (xs : List E) (i : ℕ) (x : E)
    → x ≡ get_or xs i x → Stands below keyed k xs i → meets below (keyed x) k ≡ true
stands_read below keyed k [] i x e s = absurd s
stands_read below keyed k (y ∷ ys) zero x e s = ap (λ z. meets below (keyed z) k) e ∙ s
stands_read below keyed k (y ∷ ys) (suc i) x e s = stands_read below keyed k ys i x e s

module _ {E K : Type 0} {below : K → K → Bool} {same : K → K → Type 0} (total : Total below same) (keyed : E → K) where
  pub under_stands : (a k : K) (xs : List E) (i : ℕ) → under below keyed a xs ≡ true → Stands below keyed k xs i → below a k ≡ true
  under_stands a k [] i u s = absurd s
  under_stands a k (x ∷ xs) zero u s = sym (meets_above total (keyed x) k a s) ∙ (under_parts below keyed a x xs u).0
  under_stands a k (x ∷ xs) (suc i) u s = under_stands a k xs i (under_parts below keyed a x xs u).1 s

  -- a key stands at one place alone
  pub stands_rank : (k : K) (xs : List E) (i : ℕ) → rising below keyed xs ≡ true → Stands below keyed k xs i → i ≡ rank below keyed k xs
  stands_rank k [] i r s = absurd s
  stands_rank k (x ∷ xs) zero r s = let b = (meets_parts total (keyed x) k s).0 in rw b
  stands_rank k (x ∷ xs) (suc i) r s =
      let p = rising_parts below keyed x xs r in
      let b = under_stands (keyed x) k xs i p.0 s in
      rw b (ap suc (stands_rank k xs i p.1 s))

  under_read : (a : K) (xs : List E) (i : ℕ) (x : E) → i < length xs → x ≡ get_or xs i x → under below keyed a xs ≡ true → below a (keyed x) ≡ true
  under_read a [] i x h e u = absurd (not-suc-le-zero h)
  under_read a (y ∷ ys) zero x h e u = ap (λ z. below a (keyed z)) e ∙ (under_parts below keyed a y ys u).0
  under_read a (y ∷ ys) (suc i) x h e u = under_read a ys i x (le_of_suc-le-suc h) e (under_parts below keyed a y ys u).1

  -- in rising rows those that are below a key come first
  rising_parted : (k : K) (xs : List E) → rising below keyed xs ≡ true → IsPartitionedBy (λ x. below (keyed x) k) xs
  rising_parted k [] r i j d l h b = absurd (not-suc-le-zero h)
  rising_parted k (x ∷ xs) r zero zero d l h b = b
  rising_parted k (x ∷ xs) r zero (suc j) d l h b =
      let lt = le_of_suc-le-suc h in
      let y = get_or xs j d in
      total.trans (keyed x) (keyed y) k (under_read (keyed x) xs j y lt (get_or_default xs j d y lt) (rising_parts below keyed x xs r).0) b
  rising_parted k (x ∷ xs) r (suc i) zero d l h b = absurd (not-suc-le-zero l)
  rising_parted k (x ∷ xs) r (suc i) (suc j) d l h b = rising_parted k xs (rising_parts below keyed x xs r).1 i j d (le_of_suc-le-suc l) (le_of_suc-le-suc h) b

  -- so a search for the first that is not below the key finds its place
  pub rank_searched : (k : K) (xs ys : List E) (i : ℕ) → xs ≡ ys → rising below keyed ys ≡ true → i ≤ length xs
      → (IsPartitionedBy (λ x. below (keyed x) k) xs → IsPartitionPoint (λ x. below (keyed x) k ≡ true) (λ x. below (keyed x) k ≡ false) xs i)
      → i ≡ rank below keyed k ys
  rank_searched k xs ys i e r l point =
      rank_point below keyed k xs i l (point (rising_parted k xs (ap (rising below keyed) e ∙ r))) ∙ ap (rank below keyed k) e

  -- a row below a key stands before its place
  pub rank_past : (k : K) (xs : List E) (i : ℕ) (x : E) → i < length xs → x ≡ get_or xs i x → rising below keyed xs ≡ true
      → below (keyed x) k ≡ true → i < rank below keyed k xs
  rank_past k [] i x h e r b = absurd (not-suc-le-zero h)
  rank_past k (y ∷ ys) zero x h e r b = let b' : below (keyed y) k ≡ true = ap (λ z. below (keyed z) k) (sym e) ∙ b in rw b' (omega arith)
  rank_past k (y ∷ ys) (suc i) x h e r b =
      let p = rising_parts below keyed y ys r in
      let b' = total.trans (keyed y) (keyed x) k (under_read (keyed y) ys i x (le_of_suc-le-suc h) e p.0) b in
      let ih = rank_past k ys i x (le_of_suc-le-suc h) e p.1 b in
      rw b' (omega arith)

  -- at its place the key stands, if the row there is not above it
  pub rank_found : (k : K) (xs : List E) (i : ℕ) (x : E) → i ≡ rank below keyed k xs → i < length xs
      → x ≡ get_or xs i x → below k (keyed x) ≡ false → Stands below keyed k xs i
  rank_found k xs i x at h e b = stands_from below keyed k xs i x h e (meets_from total (keyed x) k (rank_read below keyed k xs i x at h e) b)

  -- and nowhere, if the row there is above it
  pub rank_missing : (k : K) (xs : List E) (i : ℕ) (x : E) → rising below keyed xs ≡ true → i ≡ rank below keyed k xs
      → x ≡ get_or xs i x → below k (keyed x) ≡ true → Missing below keyed k xs
  rank_missing k xs i x r at e b j s =
      let there = subst (λ n. Stands below keyed k xs n) (stands_rank k xs j r s ∙ sym at) s in
      both_ways (below k (keyed x)) (meets_parts total (keyed x) k (stands_read below keyed k xs i x e there)).1 b

  -- or if no row is there
  pub rank_end : (k : K) (xs : List E) → rising below keyed xs ≡ true → length xs ≤ rank below keyed k xs → Missing below keyed k xs
  rank_end k xs r h j s = omega (arith, stands_rank k xs j r s, stands_within below keyed k xs j s)
