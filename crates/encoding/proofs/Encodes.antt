-- What is encoded passes the checks, and is read back.
use Rattle.std.proofs.Common.{◌≡◌, ℕ, suc, ◌+◌, ◌-◌, ◌*◌, ◌%◌, ◌^◌, ◌<◌, ◌≤◌, min, Bool, true, false, leb, List, [], ◌∷◌, ◌++◌, length, take, refl, ◌∙◌, subst, arith}
use Rattle.std.specs.List.{AllByRecursion}
use Rattle.std.proofs.lemmas.Bool.{and_from, and_parts, eq-eqb, le-leb, lt-leb}
use Rattle.base.specs.Texts.{all, may_begin, may_follow}
use Rattle.package.specs.declared.rules.TextRule.{TextRule}
use Rattle.package.specs.declared.rules.TextRule.TheVariants.{Spelled, Free}
use Rattle.package.specs.Words.{bytes}
use Rattle.package.specs.Checks.{Due, text, right_count, right_bytes}
use Rattle.package.specs.Packages.{text_word, text_words}
use Rattle.encoding.proofs.Made.{text_count, text_bytes, text_is, text_passes}
use Rattle.encoding.proofs.Ran.{Ran, ran_last, ran_more}

-- how many bytes the checks expect of a text: its own length, or three for each word
abbrev pub Sized : TextRule → List ℕ → ℕ → Type 0
Sized (Spelled kind) bs left = length bs ≡ left
Sized Free bs left = 3 * length (text_words bs) ≡ left

pub some_words : (b : ℕ) (bs : List ℕ) → 1 ≤ length (text_words (b ∷ bs))
some_words b [] = omega arith
some_words b (c ∷ []) = omega arith
some_words b (c ∷ d ∷ bs) = omega arith

sized_last : (rule : TextRule) (bs : List ℕ) (left n : ℕ) → length bs ≡ n → 1 ≤ n → n ≤ 3 → length (text_words bs) ≡ 1 → Sized rule bs left
    → (leb left 3 ≡ true) × (right_count rule left n ≡ true)
sized_last (Spelled kind) bs left n e l m f s =
    (le-leb left 3 (omega arith), eq-eqb n (min left 3) (omega arith))
sized_last Free bs left n e l m f s =
    let p : leb left 3 ≡ true = le-leb left 3 (omega arith) in
    (p, rw p (and_from (leb 1 n) (leb n 3) (le-leb 1 n l) (le-leb n 3 m)))

sized_more : (rule : TextRule) (a b c d : ℕ) (bs : List ℕ) (left : ℕ) → Sized rule (a ∷ b ∷ c ∷ d ∷ bs) left
    → (leb left 3 ≡ false) × (right_count rule left 3 ≡ true) × Sized rule (d ∷ bs) (left - 3)
sized_more (Spelled kind) a b c d bs left s =
    (lt-leb left 3 (omega arith), eq-eqb 3 (min left 3) (omega arith), omega arith)
sized_more Free a b c d bs left s =
    let n = some_words d bs in
    let p : leb left 3 ≡ false = lt-leb left 3 (omega arith) in
    (p, rw p refl, omega arith)

all_split : (test : ℕ → Bool) (xs ys : List ℕ) → all test (xs ++ ys) ≡ true → (all test xs ≡ true) × (all test ys ≡ true)
all_split test [] ys h = (refl, h)
all_split test (x ∷ xs) ys h =
    let p = and_parts (test x) (all test (xs ++ ys)) h in
    let q = all_split test xs ys p.1 in
    (and_from (test x) (all test xs) p.0 q.0, q.1)

-- the bytes of a text, part by part
pub right_split : (rule : TextRule) (begun : Bool) (x : ℕ) (xs ys : List ℕ) → right_bytes rule begun ((x ∷ xs) ++ ys) ≡ true
    → (right_bytes rule begun (x ∷ xs) ≡ true) × (right_bytes rule true ys ≡ true)
right_split (Spelled kind) false x xs ys h =
    let p = and_parts (may_begin kind x) (all (may_follow kind) (xs ++ ys)) h in
    let q = all_split (may_follow kind) xs ys p.1 in
    (and_from (may_begin kind x) (all (may_follow kind) xs) p.0 q.0, q.1)
right_split (Spelled kind) true x xs ys h = all_split (may_follow kind) (x ∷ xs) ys h
right_split Free begun x xs ys h = (refl, refl)

-- one text word of n bytes, the last of its text
run_last : (rule : TextRule) (left : ℕ) (begun : Bool) (after : Due) (place : ℕ) (rest : List ℕ) (n a b c : ℕ) (bs : List ℕ)
    → n < 16 → a < 256 → b < 256 → c < 256 → text_word n a b c % 2 ^ (8 * (3 - n)) ≡ 0 → take n (a ∷ b ∷ c ∷ []) ≡ bs
    → leb left 3 ≡ true → right_count rule left n ≡ true → right_bytes rule begun bs ≡ true
    → Ran (text rule left begun after) after place (text_word n a b c ∷ rest) rest bs 1
run_last rule left begun after place rest n a b c bs h i j k z e l r s =
    let f : bytes (text_word n a b c) ≡ bs = text_bytes n a b c h i j k ∙ e in
    let ok = text_passes rule left begun (text_word n a b c) n bs (text_is n a b c h i j k z) (text_count n a b c h i j k) f r s in
    subst (λ (t : List ℕ). Ran (text rule left begun after) after place (text_word n a b c ∷ rest) rest t 1) f
    (ran_last rule left begun after place (text_word n a b c) ok rest l)

pub run_text : (bs : List ℕ) (rule : TextRule) (left : ℕ) (begun : Bool) (after : Due) (place : ℕ) (rest : List ℕ)
    → 1 ≤ length bs → Sized rule bs left → right_bytes rule begun bs ≡ true → AllByRecursion (λ b. b < 256) bs
    → Ran (text rule left begun after) after place (text_words bs ++ rest) rest bs (length (text_words bs))
run_text [] rule left begun after place rest h s r u = absurd (omega arith)
run_text (a ∷ []) rule left begun after place rest h s r u =
    let p = sized_last rule (a ∷ []) left 1 refl (omega arith) (omega arith) refl s in
    run_last rule left begun after place rest 1 a 0 0 (a ∷ []) (omega arith) u.0 (omega arith) (omega arith) (omega arith) refl p.0 p.1 r
run_text (a ∷ b ∷ []) rule left begun after place rest h s r u =
    let p = sized_last rule (a ∷ b ∷ []) left 2 refl (omega arith) (omega arith) refl s in
    run_last rule left begun after place rest 2 a b 0 (a ∷ b ∷ []) (omega arith) u.0 u.1.0 (omega arith) (omega arith) refl p.0 p.1 r
run_text (a ∷ b ∷ c ∷ []) rule left begun after place rest h s r u =
    let p = sized_last rule (a ∷ b ∷ c ∷ []) left 3 refl (omega arith) (omega arith) refl s in
    run_last rule left begun after place rest 3 a b c (a ∷ b ∷ c ∷ []) (omega arith) u.0 u.1.0 u.1.1.0 (omega arith) refl p.0 p.1 r
run_text (a ∷ b ∷ c ∷ d ∷ bs) rule left begun after place rest h s r u =
    let p = sized_more rule a b c d bs left s in
    let q = right_split rule begun a (b ∷ c ∷ []) (d ∷ bs) r in
    let n : 3 < 16 = omega arith in
    let w = text_word 3 a b c in
    let f : bytes w ≡ a ∷ b ∷ c ∷ [] = text_bytes 3 a b c n u.0 u.1.0 u.1.1.0 in
    let z : w % 2 ^ (8 * (3 - 3)) ≡ 0 = omega arith in
    let ok = text_passes rule left begun w 3 (a ∷ b ∷ c ∷ []) (text_is 3 a b c n u.0 u.1.0 u.1.1.0 z) (text_count 3 a b c n u.0 u.1.0 u.1.1.0) f p.1 q.0 in
    subst (λ (t : List ℕ). Ran (text rule left begun after) after place (w ∷ (text_words (d ∷ bs) ++ rest)) rest (t ++ d ∷ bs) (suc (length (text_words (d ∷ bs))))) f
    (ran_more rule left begun after place w ok (text_words (d ∷ bs) ++ rest) rest (d ∷ bs) (length (text_words (d ∷ bs))) p.0
    (run_text (d ∷ bs) rule (left - 3) true after (place + 1) rest (omega arith) p.2 q.1 u.1.1.1))
