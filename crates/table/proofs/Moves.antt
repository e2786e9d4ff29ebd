-- Rows at the front of a slice: what a move of them leaves there.
use Rattle.std.proofs.Common.{◌≡◌, ℕ, ◌+◌, ◌-◌, ◌<◌, ◌≤◌, List, [], ◌∷◌, ◌++◌, length, take, drop, set, sym, refl, ap, ◌∙◌, subst, append_assoc, add-one, arith, length-append, length-drop, length-set, length-take-le, take-take, drop-drop, take-suc-set, take_at, drop_at}
use borrow.Rule.Slice.PartMut.{put_mid}
use lib.Seq.{take-set-le, drop-append-le}
use Rattle.std.specs.List.{insert, remove, between}
use Rattle.std.proofs.lemmas.Slice.{between_is, take-put_mid}

-- the row e written at n, and the part from i to there turned by one
pub opened : {X : Type 0} (rows : List X) (i n : ℕ) (e : X) (q : List X) → i ≤ n → n < length rows
    → q ≡ drop (length (between i (n + 1) (set rows n e)) - 1) (between i (n + 1) (set rows n e)) ++ take (length (between i (n + 1) (set rows n e)) - 1) (between i (n + 1) (set rows n e))
    → take (n + 1) (put_mid i ((n + 1) - i) (set rows n e) q) ≡ insert (take n rows) i e
opened rows i n e q h lt is =
    let lt' = length-take-le n rows (omega arith) in
    let p : between i (n + 1) (set rows n e) ≡ drop i (take n rows) ++ e ∷ []
    = between_is (set rows n e) i (n + 1) ∙ ap (drop i) (rw add-one (take-suc-set rows n e lt)) ∙ drop-append-le i (take n rows) (e ∷ []) (omega arith) in
    let l : length (drop i (take n rows) ++ e ∷ []) - 1 ≡ length (drop i (take n rows)) = omega (arith, length-append (drop i (take n rows)) (e ∷ [])) in
    let q' : q ≡ e ∷ drop i (take n rows)
    = subst (λ (z : List _). q ≡ drop (length z - 1) z ++ take (length z - 1) z) p is ∙ rw (l, drop_at (drop i (take n rows)) (e ∷ []) _ refl, take_at (drop i (take n rows)) (e ∷ []) _ refl) in
    let lq : n + 1 ≡ i + length q = omega (arith, ap length q', length-drop i (take n rows)) in
    take-put_mid i ((n + 1) - i) (set rows n e) q (n + 1) lq (omega (arith, length-set rows n e))
    ∙ ap (λ (z : List _). z ++ q) (take-set-le i rows n e h ∙ sym (take-take i n rows h)) ∙ ap (λ (z : List _). take i (take n rows) ++ z) q'

-- the part from i to n turned by one, and its last row let go
pub closed : {X : Type 0} (rows : List X) (i n : ℕ) (q : List X) → i < n → n ≤ length rows
    → q ≡ drop 1 (between i n rows) ++ take 1 (between i n rows)
    → take (n - 1) (put_mid i (n - i) rows q) ≡ remove (take n rows) i
closed rows i n q h le is =
    let lt = length-take-le n rows le in
    let z = drop i (take n rows) in
    let lz : length z ≡ n - i = length-drop i (take n rows) ∙ ap (λ (m : ℕ). m - i) lt in
    let q' : q ≡ drop 1 z ++ take 1 z = subst (λ (v : List _). q ≡ drop 1 v ++ take 1 v) (between_is rows i n) is in
    let l1 = length-take-le 1 z (omega arith) in
    let l2 = length-drop 1 z in
    let lq : n ≡ i + length q = omega (arith, ap length q', length-append (drop 1 z) (take 1 z), l1, l2) in
    let lr : i ≤ length rows = omega arith in
    let li = length-take-le i rows lr in
    let lf : length (take i rows ++ drop 1 z) ≡ n - 1 = omega (arith, length-append (take i rows) (drop 1 z), li, l2, lz) in
    sym (take-take (n - 1) n (put_mid i (n - i) rows q) (omega arith))
    ∙ ap (take (n - 1)) (take-put_mid i (n - i) rows q n lq lr ∙ ap (λ (v : List _). take i rows ++ v) q' ∙ sym (append_assoc (take i rows) (drop 1 z) (take 1 z)))
    ∙ take_at (take i rows ++ drop 1 z) (take 1 z) (n - 1) lf
    ∙ ap (λ (v : List _). v ++ drop 1 z) (sym (take-take i n rows (omega arith)))
    ∙ ap (λ (v : List _). take i (take n rows) ++ v) (drop-drop 1 i (take n rows) ∙ ap (λ (m : ℕ). drop m (take n rows)) (add-one i))
