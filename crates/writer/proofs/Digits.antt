-- The digits of numbers below 256.
use Rattle.std.proofs.Common.{◌≡◌, ℕ, ◌+◌, ◌/◌, ◌%◌, ◌^◌, ◌<◌, ◌≤◌, List, [], ◌∷◌, ◌++◌, decimal, sym, ap, ◌∙◌, arith}
use Rattle.std.proofs.lemmas.Fmt.{decimal_digit, decimal_step}

pub decimal_one : (n : ℕ) → n < 10 → (48 + n) ∷ [] ≡ decimal n
decimal_one n h = sym (decimal_digit n h)

pub decimal_two : (n : ℕ) → 10 ≤ n → n < 100 → (48 + n / 10) ∷ (48 + n % 10) ∷ [] ≡ decimal n
decimal_two n h k =
    let s : n < 2 ^ 64 = omega arith in
    let q : n / 10 < 10 = omega arith in
    sym (decimal_step n h s ∙ ap (λ (x : List ℕ). x ++ (48 + n % 10) ∷ []) (decimal_digit (n / 10) q))

pub decimal_three : (n : ℕ) → 100 ≤ n → n < 256 → (48 + n / 100) ∷ (48 + n / 10 % 10) ∷ (48 + n % 10) ∷ [] ≡ decimal n
decimal_three n h k =
    let s : n < 2 ^ 64 = omega arith in
    let t : 10 ≤ n = omega arith in
    let q : 10 ≤ n / 10 = omega arith in
    let q' : n / 10 < 100 = omega arith in
    let e : n / 10 / 10 ≡ n / 100 = omega arith in
    sym (decimal_step n t s ∙ ap (λ (x : List ℕ). x ++ (48 + n % 10) ∷ []) (sym (decimal_two (n / 10) q q') ∙ ap (λ (x : ℕ). (48 + x) ∷ (48 + n / 10 % 10) ∷ []) e))
