-- Texts cut into words.
use Rattle.std.proofs.Common.{◌≡◌, ℕ, ◌-◌, ◌<◌, ◌≤◌, List, [], ◌∷◌, length, get_or, take, drop, sym, refl, ap, ◌∙◌, arith}
use Rattle.std.proofs.lemmas.List.{take_all}
use Rattle.package.specs.Packages.{text_word, text_words}

pub no_bytes : (xs : List ℕ) → length xs ≡ 0 → xs ≡ []
no_bytes [] h = refl
no_bytes (x ∷ xs) h = absurd (omega arith)

-- the first three bytes of a text are its first word
pub three_bytes : (xs : List ℕ) (w : ℕ) → 3 ≤ length xs → w ≡ text_word 3 (get_or xs 0 0) (get_or xs 1 0) (get_or xs 2 0) → (text_words xs ≡ w ∷ text_words (take (length xs - 3) (drop 3 xs))) × (length (take (length xs - 3) (drop 3 xs)) < length xs)
three_bytes [] w h e = absurd (omega arith)
three_bytes (a ∷ []) w h e = absurd (omega arith)
three_bytes (a ∷ b ∷ []) w h e = absurd (omega arith)
three_bytes (a ∷ b ∷ c ∷ xs) w h e =
    let all : take (length (a ∷ b ∷ c ∷ xs) - 3) xs ≡ xs = take_all (length (a ∷ b ∷ c ∷ xs) - 3) xs (omega arith) in (
      ap (λ v. v ∷ text_words xs) (sym e) ∙ ap (λ l. w ∷ text_words l) (sym all),
      rw all (omega arith),
    )
