-- What files cost, one key at a time, and when a put or a move goes through.
use Rattle.std.proofs.Common.{◌≡◌, ℕ, zero, suc, ◌+◌, ◌<◌, ◌≤◌, true, false, ltb, leb, List, [], length, take, drop, set, replicate, is_some, Some, None, sym, refl, ap, ◌∙◌, arith}
use Rattle.std.proofs.lemmas.List.{get_or-set_other, set-set, drop_all}
use Rattle.std.proofs.lemmas.List.Sums.{sum_by-set, get_or-le-sum_by}
use Rattle.std.proofs.lemmas.Bool.{and_from, and_left, and_right, le-leb, lt-leb, lt-ltb, le-ltb, eq-eqb, ne_eqb, not_from_true, not_from_false, cond-true, cond-false}
use Rattle.store.specs.Files.{File, Files, key_count, longest, file_at, units_of, used, admits, moved, length_of, words_of}

pub used_set : (b : ℕ) (fs : Files) (k : ℕ) (f : File) → k < length fs → used b (set fs k f) + units_of b (file_at fs k) ≡ used b fs + units_of b f
used_set b fs k f h = sum_by-set (units_of b) fs k f None h

pub units_le : (b : ℕ) (fs : Files) (k : ℕ) → k < length fs → units_of b (file_at fs k) ≤ used b fs
units_le b fs k h = get_or-le-sum_by (units_of b) fs k None h

pub used_none : (b n : ℕ) → used b (replicate n None) ≡ 0
used_none b zero = refl
used_none b (suc n) = used_none b n

pub admits_yes : (b u : ℕ) (fs : Files) (k : ℕ) (ws : List ℕ) → length ws ≤ longest → k < key_count → used b (set fs k (Some ws)) ≤ u → true ≡ admits b u fs k ws
admits_yes b u fs k ws h i j = sym (and_from _ _ (le-leb _ _ h) (and_from _ _ (lt-ltb _ _ i) (le-leb _ _ j)))

pub admits_full : (b u : ℕ) (fs : Files) (k : ℕ) (ws : List ℕ) → u < used b (set fs k (Some ws)) → false ≡ admits b u fs k ws
admits_full b u fs k ws j = sym (and_right (leb (length ws) longest) _ (and_right (ltb k key_count) _ (lt-leb _ _ j)))

pub moved_empty : (fs : Files) (from to : ℕ) → file_at fs from ≡ None → fs ≡ moved fs from to
moved_empty fs from to e = sym (cond-false _ _ _ (and_left _ _ (ap is_some e)))

pub moved_high : (fs : Files) (from to : ℕ) → key_count ≤ to → fs ≡ moved fs from to
moved_high fs from to h = sym (cond-false _ _ _ (and_right _ _ (and_left _ _ (le-ltb _ _ h))))

pub moved_onto : (fs : Files) (from to : ℕ) → from ≡ to → fs ≡ moved fs from to
moved_onto fs from to e =
    sym (cond-false _ (set (set fs to (file_at fs from)) from None) fs (and_right (is_some (file_at fs from)) _ (and_right (ltb to key_count) _ (not_from_true _ (eq-eqb _ _ e)))))

pub moved_yes : (fs : Files) (from to : ℕ) → is_some (file_at fs from) ≡ true → to < key_count → (from ≡ to → ⊥) → set (set fs to (file_at fs from)) from None ≡ moved fs from to
moved_yes fs from to h i j = sym (cond-true _ _ _ (and_from _ _ h (and_from _ _ (lt-ltb _ _ i) (not_from_false _ (ne_eqb _ _ j)))))

pub length_some : (f : File) → is_some (length_of f) ≡ is_some f
length_some None = refl
length_some (Some ws) = refl

-- a move in two steps: the target is emptied, then the file is carried
pub moved_cleared : (fs gs : Files) (from to : ℕ) → is_some (file_at fs from) ≡ true → to < key_count → (from ≡ to → ⊥) → gs ≡ set fs to None → set (set gs to (file_at gs from)) from None ≡ moved fs from to
moved_cleared fs gs from to some tl ne e =
    ap (λ hs. set (set hs to (file_at hs from)) from None) e
    ∙ ap (λ f. set (set (set fs to None) to f) from None) (get_or-set_other fs to from None None ne)
    ∙ ap (λ hs. set hs from None) (set-set fs to None (file_at fs from))
    ∙ moved_yes fs from to some tl ne

-- an empty key has no parts
pub part_none : (b n : ℕ) (f : File) → f ≡ None → [] ≡ take b (drop n (words_of f))
part_none b n f e = sym (ap (λ (g : File). take b (drop n (words_of g))) e ∙ ap (take b) (drop_all n [] (omega arith)) ∙ none b)
  where
    none : (m : ℕ) → take {A = ℕ} m [] ≡ []
    none zero = refl
    none (suc m) = refl
