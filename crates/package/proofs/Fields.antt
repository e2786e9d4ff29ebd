-- The fields of words: of words that are read, and of words that are made.
use Rattle.std.proofs.Common.{◌≡◌, ℕ, ◌-◌, min, List, length, take, sym, refl, ap, ◌∙◌, ⊎_elim, arith}
use native.Mathlib.Nat.{sub-zero}
use Rattle.std.proofs.lemmas.List.{take_all}
use Rattle.std.proofs.lemmas.Bool.{cases_lt}
use Rattle.package.specs.Words.{byte_count, three, bytes}

clipped : (n : ℕ) (xs : List ℕ) → length xs ≡ 3 → take (min n 3) xs ≡ take n xs
clipped n xs e =
    ⊎_elim (λ h. let m : min n 3 ≡ n = omega arith in ap (λ (k : ℕ). take k xs) m)
    (λ h. let m : min n 3 ≡ 3 = omega arith in ap (λ (k : ℕ). take k xs) m ∙ take_all 3 xs (omega arith) ∙ sym (take_all n xs (omega arith)))
    (cases_lt n 3)

pub carried : (w n : ℕ) (bs : List ℕ) → bs ≡ three w → n ≡ min (byte_count w) 3 → take (n - 0) bs ≡ bytes w
carried w n bs e f = rw (sub-zero, e, f) (clipped (byte_count w) (three w) refl)
