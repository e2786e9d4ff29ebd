-- Every package within the rules is accepted in its encoding, and read back as it was.
use Rattle.std.proofs.Common.{◌≡◌, ℕ, suc, ◌+◌, ◌*◌, ◌^◌, ◌<◌, ◌≤◌, Bool, true, false, cond, eqb, List, [], ◌∷◌, ◌++◌, length, None, sym, refl, ap, ◌∙◌, subst, ap₂, append_assoc, add-zero, arith, length-append}
use Rattle.std.specs.List.{flat_map, AllByRecursion}
use Rattle.std.proofs.lemmas.Bool.{and_parts, ne_eqb}
use Rattle.std.proofs.lemmas.Bool.Decides.{nat_tests}
use Rattle.base.specs.declared.files.FileKind.{FileKind}
use Rattle.base.specs.declared.texts.TextKind.{TextKind}
use Rattle.base.specs.declared.texts.TextKind.TheVariants.{Name, Version}
use Rattle.base.specs.Texts.{all, fitting, may_begin, may_follow, spelled}
use Rattle.package.specs.declared.rules.TextRule.TheVariants.{Free}
use Rattle.package.specs.Words.{is_end, content_length, path, file_kind}
use Rattle.package.specs.Checks.{Due, text, item, nothing, contents, next, refusal}
use Rattle.package.specs.Packages.{Carried, Fits, Rising, text_words, file_words, end_word, text_in, files_in}
use Rattle.package.proofs.Tests.{refusal_on}
use Rattle.encoding.proofs.Made.{file_word, file_length, file_path, file_back, file_is, file_no_end, file_passes, end_passes, end_is, end_back}
use Rattle.encoding.proofs.Ran.{Ran}
use Rattle.encoding.proofs.Encodes.{run_text, some_words}

begin_low : (kind : TextKind) (b : ℕ) → may_begin kind b ≡ true → b < 256
begin_low Name b h = grind (arith, nat_tests)
begin_low Version b h = grind (arith, nat_tests)

follow_low : (kind : TextKind) (b : ℕ) → may_follow kind b ≡ true → b < 256
follow_low Name b h = grind (arith, nat_tests)
follow_low Version b h = grind (arith, nat_tests)

all_low : (kind : TextKind) (bs : List ℕ) → all (may_follow kind) bs ≡ true → AllByRecursion (λ b. b < 256) bs
all_low kind [] h = tt
all_low kind (b ∷ bs) h =
    let p = and_parts (may_follow kind b) (all (may_follow kind) bs) h in (follow_low kind b p.0, all_low kind bs p.1)

pub spelled_low : (kind : TextKind) (bs : List ℕ) → spelled kind bs ≡ true → AllByRecursion (λ b. b < 256) bs
spelled_low kind [] h = tt
spelled_low kind (b ∷ bs) h =
    let p = and_parts (may_begin kind b) (all (may_follow kind) bs) h in (begin_low kind b p.0, all_low kind bs p.1)

pub fitting_bounds : (kind : TextKind) (n : ℕ) → fitting kind n ≡ true → (1 ≤ n) × (n ≤ 16)
fitting_bounds Name n h = (grind (arith, nat_tests), grind (arith, nat_tests))
fitting_bounds Version n h = (grind (arith, nat_tests), grind (arith, nat_tests))

-- a content, of no words or some, before an item
content_run : (bs : List ℕ) (count floor place : ℕ) (rest : List ℕ) → AllByRecursion (λ b. b < 256) bs
    → Ran (contents (length (text_words bs)) (item count floor)) (item count floor) place (text_words bs ++ rest) rest bs (length (text_words bs))
content_run [] count floor place rest u = record {
  run = ap (λ (p : ℕ). refusal (item count floor) p rest) (sym (add-zero place));
  spelt = refl;
  left = refl;
  files = refl;
}
content_run (b ∷ bs) count floor place rest u =
    let n : 1 ≤ length (text_words (b ∷ bs)) = some_words b bs in
    let e : eqb (length (text_words (b ∷ bs))) 0 ≡ false = ne_eqb (length (text_words (b ∷ bs))) 0 (λ z. omega arith) in
    subst (λ (d : Due). Ran d (item count floor) place (text_words (b ∷ bs) ++ rest) rest (b ∷ bs) (length (text_words (b ∷ bs))))
    (sym (ap (λ (t : Bool). cond t (item count floor) (text Free (3 * length (text_words (b ∷ bs))) false (item count floor))) e))
    (run_text (b ∷ bs) Free (3 * length (text_words (b ∷ bs))) false (item count floor) place rest (omega arith) refl refl u)

-- the words from the first file on
abbrev pub tail : ℕ → List Carried → List ℕ
tail place fs = flat_map file_words fs ++ end_word (place + length (flat_map file_words fs)) ∷ []

pub tail_step : (place : ℕ) (f : Carried) (fs : List Carried)
    → tail place (f ∷ fs) ≡ file_word f.kind (length (text_words f.content)) f.path ∷ (text_words f.content ++ tail (place + 1 + length (text_words f.content)) fs)
tail_step place f fs =
    let w = file_word f.kind (length (text_words f.content)) f.path in
    let tw = text_words f.content in
    let jf = flat_map file_words fs in
    let l = length-append tw jf in
    let n : place + suc (length (tw ++ jf)) ≡ place + 1 + length tw + length jf = omega arith in
    ap (λ (m : ℕ). w ∷ ((tw ++ jf) ++ end_word m ∷ [])) n ∙ ap (λ (t : List ℕ). w ∷ t) (append_assoc tw jf (end_word (place + 1 + length tw + length jf) ∷ []))

same_carried : (f : Carried) (k : FileKind) (p : ℕ) (c : List ℕ) → k ≡ f.kind → p ≡ f.path → c ≡ f.content → record { kind = k; path = p; content = c } ≡ f
same_carried f k p c ek ep ec = λ i. record { kind = ek i; path = ep i; content = ec i }

pub run_files : (fs : List Carried) (count floor place : ℕ) → count + length fs ≤ 24 → Rising floor fs → AllByRecursion Fits fs → place + length (flat_map file_words fs) < 2 ^ 28
    → (refusal (item count floor) place (tail place fs) ≡ None) × (files_in (item count floor) (tail place fs) ≡ fs)
run_files [] count floor place few rise fit low =
    let e : place + 0 ≡ place = omega arith in
    let w = end_word (place + 0) in
    let q : is_end w ≡ true = end_is (place + 0) low in
    let c = end_back (place + 0) low ∙ e in (
      refusal_on (item count floor) place w [] (end_passes count floor place w q c) ∙ ap (λ (b : Bool). refusal (cond b nothing (contents (content_length w) (item (count + 1) (path w + 1)))) (place + 1) []) q,
      ap (λ (b : Bool). cond b [] (record { kind = file_kind w; path = path w; content = text_in (next (item count floor) w) [] } ∷ files_in (next (item count floor) w) [])) q,
    )
run_files (f ∷ fs) count floor place few rise fit low =
    let n = length (text_words f.content) in
    let k = f.kind in
    let p = f.path in
    let short : n ≤ 32 = fit.0.short in
    let lowp : p < 256 = fit.0.low in
    let w = file_word k n p in
    let el : content_length w ≡ n = file_length n p short lowp k in
    let ep : path w ≡ p = file_path n p short lowp k in
    let ee : is_end w ≡ false = file_no_end n p short lowp k in
    let ok = file_passes count floor place w (file_is n p short lowp k) ee (omega arith) (let a = el in omega arith) (let a = ep in let b = rise.0 in omega arith) in
    let rest = tail (place + 1 + n) fs in
    let nx : next (item count floor) w ≡ contents n (item (count + 1) (p + 1)) =
    ap (λ (b : Bool). cond b nothing (contents (content_length w) (item (count + 1) (path w + 1)))) ee ∙ ap₂ (λ (m q : ℕ). contents m (item (count + 1) (q + 1))) el ep in
    let r = content_run f.content (count + 1) (p + 1) (place + 1) rest fit.0.bytes in
    let bound = length-append (text_words f.content) (flat_map file_words fs) in
    let ih = run_files fs (count + 1) (p + 1) (place + 1 + n) (omega arith) rise.1 fit.1 (omega arith) in (
      ap (refusal (item count floor) place) (tail_step place f fs) ∙ refusal_on (item count floor) place w (text_words f.content ++ rest) ok ∙ ap (λ (d : Due). refusal d (place + 1) (text_words f.content ++ rest)) nx ∙ r.run ∙ ih.0,
      ap (files_in (item count floor)) (tail_step place f fs)
          ∙ ap (λ (b : Bool). cond b [] (record { kind = file_kind w; path = path w; content = text_in (next (item count floor) w) (text_words f.content ++ rest) } ∷ files_in (next (item count floor) w) (text_words f.content ++ rest))) ee
          ∙ ap₂ (λ (x : Carried) (xs : List Carried). x ∷ xs)
          (same_carried f (file_kind w) (path w) (text_in (next (item count floor) w) (text_words f.content ++ rest)) (file_back n p short lowp k) ep (ap (λ (d : Due). text_in d (text_words f.content ++ rest)) nx ∙ r.spelt))
          (ap (λ (d : Due). files_in d (text_words f.content ++ rest)) nx ∙ r.files ∙ ih.1),
    )
