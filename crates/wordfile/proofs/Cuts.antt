-- Files cut into words.
use Rattle.std.proofs.Common.{◌≡◌, ℕ, ◌+◌, ◌*◌, ◌<◌, ◌≤◌, zero, suc, List, [], ◌∷◌, ◌++◌, length, get_or, take, drop, sym, refl, ap, ◌∙◌, arith}
use Rattle.std.proofs.Math.Seq.{take-add}
use Rattle.std.proofs.lemmas.List.{take_more, flat_map_more, length-drop, length-take-le, get_or-drop}
use Rattle.std.specs.List.{flat_map}
use Rattle.std.specs.Simd.{first_chunks}
use Rattle.wordfile.specs.Layout.{four_bytes, file_bytes}

-- a file of one word more
pub one_more : (ws : List ℕ) (w : ℕ) → file_bytes (ws ++ w ∷ []) ≡ file_bytes ws ++ four_bytes w
one_more ws w = sym (flat_map_more four_bytes [] ws w)

pub take_one_more : (ws : List ℕ) (i : ℕ) → i < length ws → file_bytes (take (i + 1) ws) ≡ file_bytes (take i ws) ++ four_bytes (get_or ws i 0)
take_one_more ws i h = ap file_bytes (take_more ws i 0 h) ∙ one_more (take i ws) (get_or ws i 0)

-- the bytes of the first fours, joined again
pub joined : (k : ℕ) (xs : List ℕ) → flat_map (λ x. x) (first_chunks 4 k xs) ≡ take (k * 4) xs
joined zero xs = refl
joined (suc k) xs = ap (λ l. take 4 xs ++ l) (joined k (drop 4 xs)) ∙ sym (take-add 4 (k * 4) xs) ∙ ap (λ n. take n xs) (omega arith)

-- each of them has four bytes
pub four_long : (k i : ℕ) (xs : List ℕ) → i < k → k * 4 ≤ length xs → length (get_or (first_chunks 4 k xs) i []) ≡ 4
four_long zero i xs h l = absurd (omega arith)
four_long (suc k) zero xs h l = length-take-le 4 xs (omega arith)
four_long (suc k) (suc i) xs h l =
    let d = length-drop 4 xs in
    four_long k i (drop 4 xs) (omega arith) (omega arith)

-- and they are bytes, where all are
pub small_taken : (n j : ℕ) (xs : List ℕ) → ((i : ℕ) → get_or xs i 0 < 256) → get_or (take n xs) j 0 < 256
small_taken zero j xs h = omega arith
small_taken (suc n) j [] h = omega arith
small_taken (suc n) zero (x ∷ xs) h = h 0
small_taken (suc n) (suc j) (x ∷ xs) h = small_taken n j xs (λ i. h (suc i))

pub four_small : (k i j : ℕ) (xs : List ℕ) → ((n : ℕ) → get_or xs n 0 < 256) → get_or (get_or (first_chunks 4 k xs) i []) j 0 < 256
four_small zero i j xs h = omega arith
four_small (suc k) zero j xs h = small_taken 4 j xs h
four_small (suc k) (suc i) j xs h =
    four_small k i j (drop 4 xs) (λ n. let e = get_or-drop 4 xs n 0 in
    let b = h (4 + n) in
    omega arith)
