-- The order of texts, place by place and beside the library's, and of rows against the texts in them.
use Rattle.std.proofs.Common.{◌≡◌, ℕ, zero, suc, ◌+◌, ◌<◌, ◌≤◌, Bool, true, false, cond, ◌&&◌, ◌||◌, eqb, ltb, List, [], ◌∷◌, ◌++◌, length, get_or, drop, replicate, Some, Option, refl, ap, ◌∙◌, arith}
use Rattle.std.proofs.lemmas.List.{drop_more, drop_all}
use Rattle.std.proofs.lemmas.Bool.{eq-eqb, ne_eqb, le-ltb, ltb-true, and_parts}
use Rattle.std.specs.declared.cmp.Ordering.{Ordering}
use Rattle.std.specs.declared.cmp.Ordering.TheVariants.{Less, Equal, Greater}
use Rattle.std.specs.Ordering.{nat_cmp, is_lt, is_some_and, partial_lt, partial_ordering_then}
use Rattle.std.specs.Cmp.Lexicographic.{slice_partial_cmp}
use Rattle.base.specs.Texts.{before, all}

-- `<` of the library at lists of bytes is the order of texts
pub before_lt : (xs ys : List ℕ) → partial_lt (slice_partial_cmp (λ x y. Some (nat_cmp x y))) xs ys ≡ before xs ys
before_lt [] [] = refl
before_lt [] (y ∷ ys) = refl
before_lt (x ∷ xs) [] = refl
before_lt (x ∷ xs) (y ∷ ys) = go (ltb x y) (eqb x y) (before_lt xs ys)
  where
    rest : Option Ordering
    rest = slice_partial_cmp (λ x y. Some (nat_cmp x y)) xs ys

    go : (l e : Bool) → is_some_and is_lt rest ≡ before xs ys → is_some_and is_lt (partial_ordering_then (Some (cond l Less (cond e Equal Greater))) rest) ≡ (l || (e && before xs ys))
    go true e h = refl
    go false true h = h
    go false false h = refl

-- `before` where both lists go on
step : (xs ys : List ℕ) (i : ℕ) → i < length xs → i < length ys
    → before (drop i xs) (drop i ys) ≡ (ltb (get_or xs i 0) (get_or ys i 0) || (eqb (get_or xs i 0) (get_or ys i 0) && before (drop (i + 1) xs) (drop (i + 1) ys)))
step xs ys i h k = rw (drop_more xs i 0 h, drop_more ys i 0 k) refl

-- the first bytes that differ decide
pub before_here : (xs ys : List ℕ) (i : ℕ) → i < length xs → i < length ys → (get_or xs i 0 ≡ get_or ys i 0 → ⊥)
    → before (drop i xs) (drop i ys) ≡ ltb (get_or xs i 0) (get_or ys i 0)
before_here xs ys i h k ne = step xs ys i h k ∙ rw (ne_eqb (get_or xs i 0) (get_or ys i 0) ne) (or_no (ltb (get_or xs i 0) (get_or ys i 0)))
  where
    or_no : (b : Bool) → (b || false) ≡ b
    or_no true = refl
    or_no false = refl

-- equal ones leave it to the rest
pub before_on : (xs ys : List ℕ) (i : ℕ) → i < length xs → i < length ys → get_or xs i 0 ≡ get_or ys i 0
    → before (drop i xs) (drop i ys) ≡ before (drop (i + 1) xs) (drop (i + 1) ys)
before_on xs ys i h k e =
    let lt : ltb (get_or xs i 0) (get_or ys i 0) ≡ false = le-ltb (get_or xs i 0) (get_or ys i 0) (omega arith) in
    step xs ys i h k ∙ rw (lt, eq-eqb (get_or xs i 0) (get_or ys i 0) e) refl

pub before_end : (xs ys : List ℕ) (i : ℕ) → length xs ≤ i → length ys ≤ i → before (drop i xs) (drop i ys) ≡ false
before_end xs ys i h k = rw (drop_all i xs h, drop_all i ys k) refl

-- zero bytes behind texts without one leave the order as it is, at one length
same_not_before : (xs : List ℕ) → before xs xs ≡ false
same_not_before [] = refl
same_not_before (x ∷ xs) =
    let lt : ltb x x ≡ false = le-ltb x x (omega arith) in rw (lt, eq-eqb x x refl) (same_not_before xs)

pub before_padded : (xs ys : List ℕ) (m n : ℕ) → all (ltb 0) xs ≡ true → all (ltb 0) ys ≡ true → length xs + m ≡ length ys + n
    → before (xs ++ replicate m 0) (ys ++ replicate n 0) ≡ before xs ys
before_padded [] [] m n h k e = let f : m ≡ n = omega arith in rw f (same_not_before (replicate n 0))
before_padded [] (y ∷ ys) zero n h k e = absurd (omega arith)
before_padded [] (y ∷ ys) (suc m) n h k e = rw (and_parts (ltb 0 y) (all (ltb 0) ys) k).0 refl
before_padded (x ∷ xs) [] m zero h k e = absurd (omega arith)
before_padded (x ∷ xs) [] m (suc n) h k e =
    let p : ltb x 0 ≡ false = le-ltb x 0 (omega arith) in
    let q = ltb-true 0 x (and_parts (ltb 0 x) (all (ltb 0) xs) h).0 in
    let r : eqb x 0 ≡ false = ne_eqb x 0 (λ z. omega arith) in
    rw (p, r) refl
before_padded (x ∷ xs) (y ∷ ys) m n h k e =
    ap (λ (b : Bool). ltb x y || (eqb x y && b))
    (before_padded xs ys m n (and_parts (ltb 0 x) (all (ltb 0) xs) h).1 (and_parts (ltb 0 y) (all (ltb 0) ys) k).1 (omega arith))
