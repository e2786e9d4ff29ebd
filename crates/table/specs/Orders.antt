-- The orders of path numbers and of names are total.
use Rattle.std.specs.Prelude.{◌≡◌, ℕ, true, false, List, [], ◌∷◌, nat_lt, refl}
use Rattle.std.proofs.Common.{ap, arith}
use Rattle.std.proofs.lemmas.Bool.{true≢false, false≢true}
use Rattle.std.proofs.lemmas.Bool.Decides.{nat_tests}
use Rattle.base.specs.Texts.{before}
use Rattle.base.specs.declared.texts.ShortText.{ShortText}
use Rattle.table.specs.Order.{Total, by_bytes}

pub numbers_total : Total nat_lt (λ (a b : ℕ). a ≡ b)
numbers_total = record {
  never = λ a. grind (arith, nat_tests);
  trans = λ a b c p q. grind (arith, nat_tests);
  one = λ a b p q. grind (arith, nat_tests);
  like = λ a b c s. ap (λ x. nat_lt x c) s;
}

never : (xs : List ℕ) → before xs xs ≡ false
never [] = refl
never (x ∷ xs) = let h = never xs in grind (arith, nat_tests)

trans : (xs ys zs : List ℕ) → before xs ys ≡ true → before ys zs ≡ true → before xs zs ≡ true
trans [] [] zs p q = absurd (false≢true p)
trans [] (y ∷ ys) [] p q = absurd (false≢true q)
trans [] (y ∷ ys) (z ∷ zs) p q = refl
trans (x ∷ xs) [] zs p q = absurd (false≢true p)
trans (x ∷ xs) (y ∷ ys) [] p q = absurd (false≢true q)
trans (x ∷ xs) (y ∷ ys) (z ∷ zs) p q =
    let h : before xs ys ≡ true → before ys zs ≡ true → before xs zs ≡ true = trans xs ys zs in
    grind (arith, nat_tests)

one : (xs ys : List ℕ) → before xs ys ≡ false → before ys xs ≡ false → xs ≡ ys
one [] [] p q = refl
one [] (y ∷ ys) p q = absurd (true≢false p)
one (x ∷ xs) [] p q = absurd (true≢false q)
one (x ∷ xs) (y ∷ ys) p q =
    let e : x ≡ y = grind (arith, nat_tests) in
    let f : before xs ys ≡ false = grind (arith, nat_tests) in
    let g : before ys xs ≡ false = grind (arith, nat_tests) in
    let r = one xs ys f g in
    cc

pub names_total : Total by_bytes (λ (a b : ShortText). a ≡ b)
names_total = record {
  never = λ a. never a.bytes;
  trans = λ a b c. trans a.bytes b.bytes c.bytes;
  one = λ a b p q. ap (λ (v : List ℕ). record { bytes = v }) (one a.bytes b.bytes p q);
  like = λ a b c s. ap (λ x. by_bytes x c) s;
}
