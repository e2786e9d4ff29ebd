-- A whole package, and a name alone, from what they carry to their words and back.
use Rattle.std.proofs.Common.{◌≡◌, ℕ, ◌+◌, ◌*◌, ◌≤◌, Bool, true, false, ◌&&◌, eqb, List, [], ◌∷◌, ◌++◌, length, None, sym, refl, ap, ◌∙◌, ap₂, append_assoc, append-nil, arith, length-append}
use Rattle.std.specs.List.{flat_map, AllByRecursion}
use Rattle.std.proofs.lemmas.Bool.{and_from, and_parts, eq-eqb}
use Rattle.base.specs.declared.reasons.Reason.TheVariants.{WrongWord, OutsideLimits}
use Rattle.base.specs.declared.texts.TextKind.{TextKind}
use Rattle.base.specs.declared.texts.TextKind.TheVariants.{Name, Version}
use Rattle.base.specs.Texts.{allowed, fitting, spelled}
use Rattle.package.specs.declared.rules.TextRule.TheVariants.{Spelled}
use Rattle.package.specs.Words.{is_head, name_length, version_length}
use Rattle.package.specs.Checks.{Due, package_head, name_head, text, item, nothing, head_fault, fault, next, refusal}
use Rattle.package.specs.Packages.{Carried, Contents, Fits, Rising, Within, text_words, file_words, end_word, head_word, encoded, name_encoded, text_in, behind_text, files_in, name_in, version_in, package_in}
use Rattle.package.specs.Accepted.{package_refusal, name_refusal}
use Rattle.package.proofs.Tests.{must_pass, refusal_on}
use Rattle.encoding.proofs.Made.{head_is, head_name, head_version}
use Rattle.encoding.proofs.Ran.{Ran}
use Rattle.encoding.proofs.Encodes.{run_text}
use Rattle.encoding.proofs.Accepted.{spelled_low, fitting_bounds, tail, run_files}

words_short : (bs : List ℕ) → length (text_words bs) ≤ length bs
words_short [] = omega arith
words_short (a ∷ []) = omega arith
words_short (a ∷ b ∷ []) = omega arith
words_short (a ∷ b ∷ c ∷ bs) = let h = words_short bs in omega arith

files_short : (fs : List Carried) → AllByRecursion Fits fs → length (flat_map file_words fs) ≤ 33 * length fs
files_short [] h = omega arith
files_short (f ∷ fs) h =
    let i = files_short fs h.1 in
    let s = h.0.short in
    let l = length-append (text_words f.content) (flat_map file_words fs) in
    omega arith

-- a text that is allowed, as the checks run over it
named_run : (kind : TextKind) (bs : List ℕ) (after : Due) (place : ℕ) (rest : List ℕ) → allowed kind bs ≡ true
    → Ran (text (Spelled kind) (length bs) false after) after place (text_words bs ++ rest) rest bs (length (text_words bs))
named_run kind bs after place rest h =
    let p = and_parts (fitting kind (length bs)) (spelled kind bs) h in
    let b = fitting_bounds kind (length bs) p.0 in
    run_text bs (Spelled kind) (length bs) false after place rest b.0 refl p.1 (spelled_low kind bs p.1)

allowed_short : (kind : TextKind) (bs : List ℕ) → allowed kind bs ≡ true → length bs ≤ 16
allowed_short kind bs h = (fitting_bounds kind (length bs) (and_parts (fitting kind (length bs)) (spelled kind bs) h).0).1

head_passes : (lengths : Bool) (w : ℕ) → is_head w ≡ true → lengths ≡ true → head_fault lengths w ≡ None
head_passes lengths w h l = must_pass (is_head w) WrongWord _ h (must_pass lengths OutsideLimits None l refl)

-- the words of a package from its parts
abbrev pub laid : List ℕ → List ℕ → List Carried → List ℕ
laid n v fs =
    text_words n ++ (text_words v ++ tail (0 + 1 + length (text_words n) + length (text_words v)) fs)

pub encoded_laid : (n v : List ℕ) (fs : List Carried) → encoded (record { name = n; version = v; files = fs }) ≡ head_word (length n) (length v) ∷ laid n v fs
encoded_laid n v fs = go (text_words n) (text_words v) (flat_map file_words fs) (head_word (length n) (length v))
  where
    go : (tn tv jf : List ℕ) (h : ℕ)
        → (h ∷ (tn ++ (tv ++ jf))) ++ end_word (length (h ∷ (tn ++ (tv ++ jf)))) ∷ []
        ≡ h ∷ (tn ++ (tv ++ (jf ++ end_word (0 + 1 + length tn + length tv + length jf) ∷ [])))
    go tn tv jf h =
        let a = length-append tn (tv ++ jf) in
        let b = length-append tv jf in
        let c : length (h ∷ (tn ++ (tv ++ jf))) ≡ 0 + 1 + length tn + length tv + length jf = omega arith in
        ap (λ (m : ℕ). h ∷ ((tn ++ (tv ++ jf)) ++ end_word m ∷ [])) c
        ∙ ap (λ (t : List ℕ). h ∷ t) (append_assoc tn (tv ++ jf) (end_word (0 + 1 + length tn + length tv + length jf) ∷ []) ∙ ap (λ (t : List ℕ). tn ++ t) (append_assoc tv jf (end_word (0 + 1 + length tn + length tv + length jf) ∷ [])))

-- what is due behind the head of these parts
due_behind : (n v : List ℕ) → allowed Name n ≡ true → allowed Version v ≡ true
    → next package_head (head_word (length n) (length v)) ≡ text (Spelled Name) (length n) false (text (Spelled Version) (length v) false (item 0 0))
due_behind n v hn hv =
    ap₂ (λ (x y : ℕ). text (Spelled Name) x false (text (Spelled Version) y false (item 0 0)))
    (head_name (length n) (length v) (allowed_short Name n hn) (allowed_short Version v hv))
    (head_version (length n) (length v) (allowed_short Name n hn) (allowed_short Version v hv))

head_fine : (n v : List ℕ) → allowed Name n ≡ true → allowed Version v ≡ true → fault package_head 0 (head_word (length n) (length v)) ≡ None
head_fine n v hn hv =
    let l = allowed_short Name n hn in
    let m = allowed_short Version v hv in
    let w = head_word (length n) (length v) in
    head_passes (fitting Name (name_length w) && fitting Version (version_length w)) w (head_is (length n) (length v) l m)
    (and_from (fitting Name (name_length w)) (fitting Version (version_length w))
    (ap (fitting Name) (head_name (length n) (length v) l m) ∙ (and_parts (fitting Name (length n)) (spelled Name n) hn).0)
    (ap (fitting Version) (head_version (length n) (length v) l m) ∙ (and_parts (fitting Version (length v)) (spelled Version v) hv).0))

files_run : (n v : List ℕ) (fs : List Carried) → allowed Name n ≡ true → allowed Version v ≡ true → length fs ≤ 24 → Rising 0 fs → AllByRecursion Fits fs
    → (refusal (item 0 0) (0 + 1 + length (text_words n) + length (text_words v)) (tail (0 + 1 + length (text_words n) + length (text_words v)) fs) ≡ None)
    × (files_in (item 0 0) (tail (0 + 1 + length (text_words n) + length (text_words v)) fs) ≡ fs)
files_run n v fs hn hv few rise fit =
    let a = allowed_short Name n hn in
    let b = allowed_short Version v hv in
    let c = words_short n in
    let d = words_short v in
    let e = files_short fs fit in
    run_files fs 0 0 (0 + 1 + length (text_words n) + length (text_words v)) (omega arith) rise fit (omega arith)

laid_accepted : (n v : List ℕ) (fs : List Carried) → allowed Name n ≡ true → allowed Version v ≡ true → length fs ≤ 24 → Rising 0 fs → AllByRecursion Fits fs
    → package_refusal (head_word (length n) (length v) ∷ laid n v fs) ≡ None
laid_accepted n v fs hn hv few rise fit =
    refusal_on package_head 0 (head_word (length n) (length v)) (laid n v fs) (head_fine n v hn hv)
    ∙ ap (λ (d : Due). refusal d (0 + 1) (laid n v fs)) (due_behind n v hn hv)
    ∙ (named_run Name n (text (Spelled Version) (length v) false (item 0 0)) (0 + 1) (text_words v ++ tail (0 + 1 + length (text_words n) + length (text_words v)) fs) hn).run
    ∙ (named_run Version v (item 0 0) (0 + 1 + length (text_words n)) (tail (0 + 1 + length (text_words n) + length (text_words v)) fs) hv).run
    ∙ (files_run n v fs hn hv few rise fit).0

laid_files : (n v : List ℕ) (fs : List Carried) → allowed Name n ≡ true → allowed Version v ≡ true → length fs ≤ 24 → Rising 0 fs → AllByRecursion Fits fs
    → files_in package_head (head_word (length n) (length v) ∷ laid n v fs) ≡ fs
laid_files n v fs hn hv few rise fit =
    ap (λ (d : Due). files_in d (laid n v fs)) (due_behind n v hn hv)
    ∙ (named_run Name n (text (Spelled Version) (length v) false (item 0 0)) (0 + 1) (text_words v ++ tail (0 + 1 + length (text_words n) + length (text_words v)) fs) hn).files
    ∙ (named_run Version v (item 0 0) (0 + 1 + length (text_words n)) (tail (0 + 1 + length (text_words n) + length (text_words v)) fs) hv).files
    ∙ (files_run n v fs hn hv few rise fit).1

laid_name : (n v : List ℕ) (fs : List Carried) → allowed Name n ≡ true → allowed Version v ≡ true → name_in (head_word (length n) (length v) ∷ laid n v fs) ≡ n
laid_name n v fs hn hv =
    ap (λ (m : ℕ). text_in (text (Spelled Name) m false nothing) (laid n v fs)) (head_name (length n) (length v) (allowed_short Name n hn) (allowed_short Version v hv))
    ∙ (named_run Name n nothing (0 + 1) (text_words v ++ tail (0 + 1 + length (text_words n) + length (text_words v)) fs) hn).spelt

laid_version : (n v : List ℕ) (fs : List Carried) → allowed Name n ≡ true → allowed Version v ≡ true → version_in (head_word (length n) (length v) ∷ laid n v fs) ≡ v
laid_version n v fs hn hv =
    let a = allowed_short Name n hn in
    let b = allowed_short Version v hv in
    ap₂ (λ (x y : ℕ). text_in (text (Spelled Version) y false nothing) (behind_text (text (Spelled Name) x false nothing) (laid n v fs))) (head_name (length n) (length v) a b) (head_version (length n) (length v) a b)
    ∙ ap (text_in (text (Spelled Version) (length v) false nothing)) (named_run Name n nothing (0 + 1) (text_words v ++ tail (0 + 1 + length (text_words n) + length (text_words v)) fs) hn).left
    ∙ (named_run Version v nothing 0 (tail (0 + 1 + length (text_words n) + length (text_words v)) fs) hv).spelt

pub encoded_accepted : (p : Contents) → Within p → (package_refusal (encoded p) ≡ None) × (package_in (encoded p) ≡ p)
encoded_accepted p h =
    let e = encoded_laid p.name p.version p.files in (
      ap package_refusal e ∙ laid_accepted p.name p.version p.files h.named h.versioned h.few h.rising h.fitting,
      ap package_in e ∙ same_contents p _ _ _ (laid_name p.name p.version p.files h.named h.versioned) (laid_version p.name p.version p.files h.named h.versioned) (laid_files p.name p.version p.files h.named h.versioned h.few h.rising h.fitting),
    )
  where
    same_contents : (q : Contents) (n v : List ℕ) (fs : List Carried) → n ≡ q.name → v ≡ q.version → fs ≡ q.files → record { name = n; version = v; files = fs } ≡ q
    same_contents q n v fs en ev ef = λ i. record { name = en i; version = ev i; files = ef i }

-- a name alone
lone_fine : (n : List ℕ) → allowed Name n ≡ true → fault name_head 0 (head_word (length n) 0) ≡ None
lone_fine n hn =
    let l = allowed_short Name n hn in
    let w = head_word (length n) 0 in
    let z : 0 ≤ 16 = omega arith in
    head_passes (fitting Name (name_length w) && eqb (version_length w) 0) w (head_is (length n) 0 l z)
    (and_from (fitting Name (name_length w)) (eqb (version_length w) 0)
    (ap (fitting Name) (head_name (length n) 0 l z) ∙ (and_parts (fitting Name (length n)) (spelled Name n) hn).0)
    (eq-eqb (version_length w) 0 (head_version (length n) 0 l z)))

pub name_accepted : (n : List ℕ) → allowed Name n ≡ true → (name_refusal (name_encoded n) ≡ None) × (name_in (name_encoded n) ≡ n)
name_accepted n hn =
    let w = head_word (length n) 0 in
    let z : 0 ≤ 16 = omega arith in
    let e = head_name (length n) 0 (allowed_short Name n hn) z in
    let s = ap (λ (t : List ℕ). t) (sym (append-nil (text_words n))) in (
      refusal_on name_head 0 w (text_words n) (lone_fine n hn)
          ∙ ap₂ (λ (m : ℕ) (t : List ℕ). refusal (text (Spelled Name) m false nothing) (0 + 1) t) e s
          ∙ (named_run Name n nothing (0 + 1) [] hn).run,
      ap₂ (λ (m : ℕ) (t : List ℕ). text_in (text (Spelled Name) m false nothing) t) e s ∙ (named_run Name n nothing (0 + 1) [] hn).spelt,
    )
