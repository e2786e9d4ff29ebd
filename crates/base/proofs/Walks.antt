-- Steps of a walk along a list: what a recursive definition gives from the next place on.
use Rattle.std.proofs.Common.{◌≡◌, ℕ, suc, ◌+◌, ◌-◌, ◌<◌, Bool, true, false, cond, ◌&&◌, eqb, List, [], ◌∷◌, ◌++◌, length, get_or, take, drop, replicate, sym, refl, ap, ◌∙◌}
use native.Mathlib.Nat.{sub-zero}
use borrow.Rule.Slice.PartMut.{post_of}
use Rattle.std.proofs.lemmas.List.{at_drop_more, drop-replicate}
use Rattle.base.specs.Texts.{all, spelt, padded, may_begin, may_follow, spelled}
use Rattle.base.specs.declared.texts.TextKind.{TextKind}
use Rattle.std.specs.List.{between}
use Rattle.std.proofs.lemmas.Slice.{first_rest}

-- a byte that passes leaves the answer to the rest
pub all_on : (test : ℕ → Bool) (xs : List ℕ) (i : ℕ) → i < length xs → test (get_or xs i 0) ≡ true → all test (drop i xs) ≡ all test (drop (i + 1) xs)
all_on test xs i h e = at_drop_more (all test) xs i 0 h ∙ ap (λ (b : Bool). b && all test (drop (i + 1) xs)) e

-- and one that fails decides it
pub all_off : (test : ℕ → Bool) (xs : List ℕ) (i : ℕ) → i < length xs → test (get_or xs i 0) ≡ false → all test (drop i xs) ≡ false
all_off test xs i h e = at_drop_more (all test) xs i 0 h ∙ ap (λ (b : Bool). b && all test (drop (i + 1) xs)) e

-- the text goes on at a byte that is not zero, and ends at one that is
pub spelt_on : (xs : List ℕ) (i : ℕ) → i < length xs → eqb (get_or xs i 0) 0 ≡ false → length (spelt (drop i xs)) ≡ suc (length (spelt (drop (i + 1) xs)))
spelt_on xs i h e =
    ap length (at_drop_more spelt xs i 0 h ∙ ap (λ (b : Bool). cond b [] (get_or xs i 0 ∷ spelt (drop (i + 1) xs))) e)

pub spelt_off : (xs : List ℕ) (i : ℕ) → i < length xs → eqb (get_or xs i 0) 0 ≡ true → spelt (drop i xs) ≡ []
spelt_off xs i h e = at_drop_more spelt xs i 0 h ∙ ap (λ (b : Bool). cond b [] (get_or xs i 0 ∷ spelt (drop (i + 1) xs))) e

-- the text is a front of the bytes
pub take_spelt : (xs : List ℕ) → take (length (spelt xs)) xs ≡ spelt xs
take_spelt [] = refl
take_spelt (x ∷ xs) = go (eqb x 0) (take_spelt xs)
  where
    go : (b : Bool) → take (length (spelt xs)) xs ≡ spelt xs → take (length (cond b [] (x ∷ spelt xs))) (x ∷ xs) ≡ cond b [] (x ∷ spelt xs)
    go true e = refl
    go false e = ap (λ (l : List ℕ). x ∷ l) e

pub take_spelt_at : (xs : List ℕ) (n : ℕ) → n ≡ length (spelt xs) → take (n - 0) xs ≡ spelt xs
take_spelt_at xs n e = rw (sub-zero, e) (take_spelt xs)

-- a text written over the front of sixteen zero bytes
pub pads : (xs text : List ℕ) → xs ≡ text → xs ++ post_of 0 (length text - 0) (replicate 16 0) ≡ padded text
pads xs text e = rw (e, sub-zero, drop-replicate {X = ℕ} (length text) 16 0) refl

-- a text that begins well is spelled right if the rest may follow
pub spelled_on : (kind : TextKind) (xs : List ℕ) → 0 < length xs → may_begin kind (get_or xs 0 0) ≡ true
    → all (may_follow kind) (between 1 (length xs) xs) ≡ spelled kind xs
spelled_on kind xs h e =
    sym (ap (spelled kind) (first_rest xs 0 h) ∙ ap (λ (b : Bool). b && all (may_follow kind) (between 1 (length xs) xs)) e)
