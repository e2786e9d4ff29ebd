-- Gathering the bytes of a text, up to a cap.
use Rattle.std.proofs.Common.{◌≡◌, ℕ, zero, suc, ◌+◌, ◌<◌, ◌≤◌, List, [], ◌∷◌, ◌++◌, length, get_or, take, Ok, Err, Result, sym, refl, ap, ◌∙◌, append_assoc, append-nil, le_refl, arith}
use Rattle.std.specs.Prelude.{OnOk, OnErr, IsOk, ◌↔◌}
use Rattle.std.specs.List.{flat_map}
use Rattle.std.proofs.lemmas.List.{take_more, take_all, take-append-le, length-append, flat_map_more}

-- what was capped once may be capped again
pub take_cap : {X : Type 0} (n : ℕ) (xs ys : List X) → take n (take n xs ++ ys) ≡ take n (xs ++ ys)
take_cap zero xs ys = refl
take_cap (suc n) [] ys = refl
take_cap (suc n) (x ∷ xs) ys = ap (λ l. x ∷ l) (take_cap n xs ys)

-- a byte more, if there is room
pub push_cap : {X E : Type 0} (r : Result X E) (n b : ℕ) (xs ys : List ℕ) → length xs ≤ n
    → OnOk r (ys ≡ xs ++ b ∷ []) → OnErr r (ys ≡ xs) → OnErr r (length xs ≡ n) → IsOk r ↔ (length xs < n) → (ys ≡ take n (xs ++ b ∷ [])) × (length ys ≤ n)
push_cap (Ok x) n b xs ys h ok err full fits =
    let l = length-append xs (b ∷ []) in
    let k = fits.0 refl in
    let e : length ys ≡ length (xs ++ b ∷ []) = ap length ok in
    (ok ∙ sym (take_all n (xs ++ b ∷ []) (omega arith)), omega arith)
push_cap (Err x) n b xs ys h ok err full fits =
    let e : length ys ≡ length xs = ap length err in
    (err ∙ sym (ap (λ (m : ℕ). take m (xs ++ b ∷ [])) (sym full) ∙ take-append-le (length xs) xs (b ∷ []) (le_refl _) ∙ take_all (length xs) xs (le_refl _)), omega arith)

pub on_err_ap : {X E V W : Type 0} (f : V → W) (r : Result X E) (a b : V) → OnErr r (a ≡ b) → OnErr r (f a ≡ f b)
on_err_ap f (Ok x) a b h = tt
on_err_ap f (Err x) a b h = ap f h

-- one more part, to a cap
pub cap_more : {X : Type 0} (n : ℕ) (front now next xs part : List X) → now ≡ take n (front ++ xs) → next ≡ take n (now ++ part) → next ≡ take n (front ++ (xs ++ part))
cap_more n front now next xs part e f =
    f ∙ ap (λ l. take n (l ++ part)) e ∙ take_cap n (front ++ xs) part ∙ ap (take n) (append_assoc front xs part)

pub joined_take : {X Y : Type 0} (f : X → List Y) (xs : List X) (i : ℕ) (d : X) → i < length xs → flat_map f (take (i + 1) xs) ≡ flat_map f (take i xs) ++ f (get_or xs i d)
joined_take f xs i d h = ap (flat_map f) (take_more xs i d h) ∙ sym (flat_map_more f [] (take i xs) (get_or xs i d))

pub cap_none : (bs : List ℕ) → length bs ≤ 16 → bs ≡ take 16 (bs ++ [])
cap_none bs h = sym (ap (take 16) (append-nil bs) ∙ take_all 16 bs h)
