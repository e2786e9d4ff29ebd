-- Words that are made have the fields that they were made of, and words that pass the checks are made of their fields.
use Rattle.std.proofs.Common.{◌≡◌, ℕ, ◌+◌, ◌-◌, ◌*◌, ◌/◌, ◌%◌, ◌^◌, ◌<◌, ◌≤◌, Bool, true, false, cond, ◌&&◌, ◌||◌, eqb, List, [], ◌∷◌, ◌++◌, take, None, sym, refl, ap, ◌∙◌, subst, ap₂, ⊎_elim, arith}
use Rattle.std.specs.List.{AllByRecursion}
use Rattle.std.proofs.lemmas.Bool.{and_from, and_parts, or_right, or_cases, eq-eqb, eqb-true, lt-ltb, le-leb, cases_eq}
use Rattle.base.specs.declared.reasons.Reason.TheVariants.{WrongWord, OutsideLimits}
use Rattle.package.specs.declared.rules.TextRule.{TextRule}
use Rattle.package.specs.Checks.{text_fault, item_fault, right_count, right_bytes}
use Rattle.package.proofs.Tests.{must_pass}
use Rattle.std.proofs.lemmas.Nat.{shr-shr}
use Rattle.package.specs.Words.{kind, byte_count, three, bytes, is_text, is_file, is_end, is_head, file_kind, content_length, path, end_count, name_length, version_length}
use Rattle.base.specs.declared.files.FileKind.{FileKind}
use Rattle.base.specs.declared.files.FileKind.TheVariants.{Plain, Conffile}
use Rattle.package.specs.Packages.{text_word, text_words, kind_number, end_word, head_word}

pub text_kind : (n a b c : ℕ) → n < 16 → a < 256 → b < 256 → c < 256 → kind (text_word n a b c) ≡ 2
text_kind n a b c h i j k = omega arith

pub text_count : (n a b c : ℕ) → n < 16 → a < 256 → b < 256 → c < 256 → byte_count (text_word n a b c) ≡ n
text_count n a b c h i j k = omega arith

pub text_first : (n a b c : ℕ) → n < 16 → a < 256 → b < 256 → c < 256 → text_word n a b c / 2 ^ 16 % 2 ^ 8 ≡ a
text_first n a b c h i j k = omega arith

pub text_second : (n a b c : ℕ) → n < 16 → a < 256 → b < 256 → c < 256 → text_word n a b c / 2 ^ 8 % 2 ^ 8 ≡ b
text_second n a b c h i j k = omega arith

pub text_third : (n a b c : ℕ) → n < 16 → a < 256 → b < 256 → c < 256 → text_word n a b c % 2 ^ 8 ≡ c
text_third n a b c h i j k = omega arith

pub word_made : (w : ℕ) → kind w ≡ 2 → w ≡ text_word (byte_count w) (w / 2 ^ 16 % 2 ^ 8) (w / 2 ^ 8 % 2 ^ 8) (w % 2 ^ 8)
word_made w e =
    let p = shr-shr w 8 8 in let q = shr-shr w 16 8 in let r = shr-shr w 24 4 in omega arith

-- a text word of so many bytes, read back
module _ (n a b c : ℕ) (h : n < 16) (i : a < 256) (j : b < 256) (k : c < 256) where
  pub text_three : three (text_word n a b c) ≡ a ∷ b ∷ c ∷ []
  text_three = rw (text_first n a b c h i j k, text_second n a b c h i j k, text_third n a b c h i j k) refl

  pub text_bytes : bytes (text_word n a b c) ≡ take n (a ∷ b ∷ c ∷ [])
  text_bytes = ap₂ take (text_count n a b c h i j k) text_three

  pub text_is : text_word n a b c % 2 ^ (8 * (3 - n)) ≡ 0 → is_text (text_word n a b c) ≡ true
  text_is z =
      and_from (eqb (kind (text_word n a b c)) 2) (eqb (text_word n a b c % 2 ^ (8 * (3 - byte_count (text_word n a b c)))) 0)
      (eq-eqb (kind (text_word n a b c)) 2 (text_kind n a b c h i j k))
      (ap (λ (m : ℕ). eqb (text_word n a b c % 2 ^ (8 * (3 - m))) 0) (text_count n a b c h i j k) ∙ eq-eqb (text_word n a b c % 2 ^ (8 * (3 - n))) 0 z)

-- the checks on a text word, from its fields
pub text_passes : (rule : TextRule) (left : ℕ) (begun : Bool) (w n : ℕ) (bs : List ℕ) → is_text w ≡ true → byte_count w ≡ n → bytes w ≡ bs
    → right_count rule left n ≡ true → right_bytes rule begun bs ≡ true → text_fault rule left begun w ≡ None
text_passes rule left begun w n bs t e f r s =
    must_pass (is_text w) WrongWord _ t
    (must_pass (right_count rule left (byte_count w) && right_bytes rule begun (bytes w)) OutsideLimits None
    (and_from (right_count rule left (byte_count w)) (right_bytes rule begun (bytes w)) (ap (right_count rule left) e ∙ r) (ap (right_bytes rule begun) f ∙ s)) refl)

-- the first word of a file
abbrev pub file_word : FileKind → ℕ → ℕ → ℕ
file_word k n p = kind_number k * 2 ^ 28 + n * 2 ^ 8 + p

module _ (n p : ℕ) (h : n ≤ 32) (l : p < 256) where
  pub file_kind_of : (k : FileKind) → kind (file_word k n p) ≡ kind_number k
  file_kind_of Plain = omega arith
  file_kind_of Conffile = omega arith

  pub file_spare : (k : FileKind) → file_word k n p / 2 ^ 14 % 2 ^ 14 ≡ 0
  file_spare Plain = omega arith
  file_spare Conffile = omega arith

  pub file_length : (k : FileKind) → content_length (file_word k n p) ≡ n
  file_length Plain = omega arith
  file_length Conffile = omega arith

  pub file_path : (k : FileKind) → path (file_word k n p) ≡ p
  file_path Plain = omega arith
  file_path Conffile = omega arith

  pub file_back : (k : FileKind) → file_kind (file_word k n p) ≡ k
  file_back k = ap (λ (m : ℕ). cond (eqb m 3) Plain Conffile) (file_kind_of k) ∙ go k
    where
      go : (j : FileKind) → cond (eqb (kind_number j) 3) Plain Conffile ≡ j
      go Plain = refl
      go Conffile = refl

  pub file_is : (k : FileKind) → is_file (file_word k n p) ≡ true
  file_is k = ap₂ (λ (m s : ℕ). (eqb m 3 || eqb m 4) && eqb s 0) (file_kind_of k) (file_spare k) ∙ go k
    where
      go : (j : FileKind) → ((eqb (kind_number j) 3 || eqb (kind_number j) 4) && eqb 0 0) ≡ true
      go Plain = refl
      go Conffile = refl

  pub file_no_end : (k : FileKind) → is_end (file_word k n p) ≡ false
  file_no_end k = ap (λ (m : ℕ). eqb m 15) (file_kind_of k) ∙ go k
    where
      go : (j : FileKind) → eqb (kind_number j) 15 ≡ false
      go Plain = refl
      go Conffile = refl

-- the checks on the first word of a file, and on the end word
pub file_passes : (count floor place w : ℕ) → is_file w ≡ true → is_end w ≡ false → count < 24 → content_length w ≤ 32 → floor ≤ path w → item_fault count floor place w ≡ None
file_passes count floor place w f e c l r =
    rw (f, e, lt-ltb count 24 c, le-leb (content_length w) 32 l, le-leb floor (path w) r) refl

pub end_passes : (count floor place w : ℕ) → is_end w ≡ true → end_count w ≡ place → item_fault count floor place w ≡ None
end_passes count floor place w e c = rw (or_right (is_file w) (is_end w) e, e, eq-eqb (end_count w) place c) refl

pub end_is : (n : ℕ) → n < 2 ^ 28 → is_end (end_word n) ≡ true
end_is n h = let e : kind (end_word n) ≡ 15 = omega arith in eq-eqb (kind (end_word n)) 15 e

pub end_back : (n : ℕ) → n < 2 ^ 28 → end_count (end_word n) ≡ n
end_back n h = omega arith

-- a head word
module _ (n v : ℕ) (h : n ≤ 16) (l : v ≤ 16) where
  pub head_is : is_head (head_word n v) ≡ true
  head_is =
      let e : kind (head_word n v) ≡ 1 = omega arith in
      let f : head_word n v / 2 ^ 16 % 2 ^ 12 ≡ 0 = omega arith in
      and_from (eqb (kind (head_word n v)) 1) (eqb (head_word n v / 2 ^ 16 % 2 ^ 12) 0) (eq-eqb _ _ e) (eq-eqb _ _ f)

  pub head_name : name_length (head_word n v) ≡ n
  head_name = omega arith

  pub head_version : version_length (head_word n v) ≡ v
  head_version = omega arith

-- and back: a word that passes the checks is made of its fields
one_to_three : (n : ℕ) (P : ℕ → Type 0) → 1 ≤ n → n ≤ 3 → P 1 → P 2 → P 3 → P n
one_to_three n P h l p q r = ⊎_elim (λ e. subst P (sym e) p) (λ a. ⊎_elim (λ e. subst P (sym e) q) (λ b. let e : 3 ≡ n = rest n h l a b in subst P e r) (cases_eq n 2)) (cases_eq n 1)
  where
    rest : (m : ℕ) → 1 ≤ m → m ≤ 3 → (m ≡ 1 → ⊥) → (m ≡ 2 → ⊥) → 3 ≡ m
    rest m i j a b = grind arith

unused_zero : (w : ℕ) → is_text w ≡ true → (kind w ≡ 2) × (w % 2 ^ (8 * (3 - byte_count w)) ≡ 0)
unused_zero w h =
    let p = and_parts (eqb (kind w) 2) (eqb (w % 2 ^ (8 * (3 - byte_count w))) 0) h in
    (eqb-true (kind w) 2 p.0, eqb-true (w % 2 ^ (8 * (3 - byte_count w))) 0 p.1)

pub word_text : (w : ℕ) → is_text w ≡ true → 1 ≤ byte_count w → byte_count w ≤ 3 → text_words (bytes w) ≡ w ∷ []
word_text w h l m =
    let u = unused_zero w h in
    one_to_three (byte_count w) (λ n. byte_count w ≡ n → w % 2 ^ (8 * (3 - n)) ≡ 0 → text_words (take n (three w)) ≡ w ∷ []) l m
    (λ e z. let k = u.0 in let p = word_made w k in let q : text_word 1 (w / 2 ^ 16 % 2 ^ 8) 0 0 ≡ w = lower_zero w e z p in ap (λ (x : ℕ). x ∷ []) q)
    (λ e z. let k = u.0 in let p = word_made w k in let q : text_word 2 (w / 2 ^ 16 % 2 ^ 8) (w / 2 ^ 8 % 2 ^ 8) 0 ≡ w = last_zero w e z p in ap (λ (x : ℕ). x ∷ []) q)
    (λ e z. let k = u.0 in let p = word_made w k in ap (λ (x : ℕ). x ∷ []) (ap (λ (n : ℕ). text_word n (w / 2 ^ 16 % 2 ^ 8) (w / 2 ^ 8 % 2 ^ 8) (w % 2 ^ 8)) (sym e) ∙ sym p))
    refl u.1
  where
    lower_zero : (x : ℕ) → byte_count x ≡ 1 → x % 65536 ≡ 0 → x ≡ text_word (byte_count x) (x / 2 ^ 16 % 2 ^ 8) (x / 2 ^ 8 % 2 ^ 8) (x % 2 ^ 8) → text_word 1 (x / 2 ^ 16 % 2 ^ 8) 0 0 ≡ x
    lower_zero x e z p = let a = shr-shr x 8 8 in omega arith

    last_zero : (x : ℕ) → byte_count x ≡ 2 → x % 256 ≡ 0 → x ≡ text_word (byte_count x) (x / 2 ^ 16 % 2 ^ 8) (x / 2 ^ 8 % 2 ^ 8) (x % 2 ^ 8) → text_word 2 (x / 2 ^ 16 % 2 ^ 8) (x / 2 ^ 8 % 2 ^ 8) 0 ≡ x
    last_zero x e z p = omega arith

-- a full text word before others
pub word_front : (w : ℕ) (bs : List ℕ) → is_text w ≡ true → byte_count w ≡ 3 → text_words (bytes w ++ bs) ≡ w ∷ text_words bs
word_front w bs h e =
    let p = word_made w (unused_zero w h).0 in
    ap (λ (n : ℕ). text_words (take n (three w) ++ bs)) e
    ∙ ap (λ (x : ℕ). x ∷ text_words bs) (ap (λ (n : ℕ). text_word n (w / 2 ^ 16 % 2 ^ 8) (w / 2 ^ 8 % 2 ^ 8) (w % 2 ^ 8)) (sym e) ∙ sym p)

-- the bytes of a word
pub three_low : (w : ℕ) → AllByRecursion (λ b. b < 256) (three w)
three_low w = (omega arith, (omega arith, (omega arith, tt)))

pub end_made : (w place : ℕ) → is_end w ≡ true → end_count w ≡ place → end_word place ≡ w
end_made w place h e = let k = eqb-true (kind w) 15 h in omega arith

pub file_made : (w : ℕ) → is_file w ≡ true → file_word (file_kind w) (content_length w) (path w) ≡ w
file_made w h =
    let p = and_parts (eqb (kind w) 3 || eqb (kind w) 4) (eqb (w / 2 ^ 14 % 2 ^ 14) 0) h in
    let z = eqb-true (w / 2 ^ 14 % 2 ^ 14) 0 p.1 in
    ⊎_elim (λ t. by 3 (eqb-true (kind w) 3 t) z refl) (λ t. by 4 (eqb-true (kind w) 4 t) z refl) (or_cases (eqb (kind w) 3) (eqb (kind w) 4) p.0)
  where
    sum : (k : ℕ) → kind w ≡ k → w / 2 ^ 14 % 2 ^ 14 ≡ 0 → k * 2 ^ 28 + content_length w * 2 ^ 8 + path w ≡ w
    sum k e z = let a = shr-shr w 8 6 in let b = shr-shr w 14 14 in omega arith

    number : (k : ℕ) → kind w ≡ k → kind_number (file_kind w) ≡ kind_number (cond (eqb k 3) Plain Conffile)
    number k e = ap (λ (m : ℕ). kind_number (cond (eqb m 3) Plain Conffile)) e

    by : (k : ℕ) → kind w ≡ k → w / 2 ^ 14 % 2 ^ 14 ≡ 0 → kind_number (cond (eqb k 3) Plain Conffile) ≡ k → file_word (file_kind w) (content_length w) (path w) ≡ w
    by k e z n = ap (λ (m : ℕ). m * 2 ^ 28 + content_length w * 2 ^ 8 + path w) (number k e ∙ n) ∙ sum k e z

pub head_made : (w : ℕ) → is_head w ≡ true → head_word (name_length w) (version_length w) ≡ w
head_made w h =
    let p = and_parts (eqb (kind w) 1) (eqb (w / 2 ^ 16 % 2 ^ 12) 0) h in
    let k = eqb-true (kind w) 1 p.0 in
    let z = eqb-true (w / 2 ^ 16 % 2 ^ 12) 0 p.1 in
    let a = shr-shr w 8 8 in
    let b = shr-shr w 16 12 in
    omega arith
