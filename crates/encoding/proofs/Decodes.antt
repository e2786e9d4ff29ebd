-- Words that pass the checks are the encoding of what stands in them: texts and files.
use Rattle.std.proofs.Common.{◌≡◌, ℕ, zero, suc, ◌+◌, ◌-◌, ◌*◌, ◌<◌, ◌≤◌, min, Bool, true, false, cond, ◌&&◌, ◌||◌, eqb, ltb, leb, List, [], ◌∷◌, ◌++◌, length, None, sym, refl, ap, ◌∙◌, subst, ap₂, append-nil, add-zero, arith, length-append}
use Rattle.std.specs.List.{AllByRecursion}
use Rattle.std.proofs.ByRecursion.{All-append, All-take}
use Rattle.std.proofs.lemmas.List.{length-take}
use Rattle.std.proofs.lemmas.Bool.{and_parts, eqb-true, eqb-false, leb-true, leb-false, ltb-true, both_ways}
use Rattle.base.specs.declared.reasons.Reason.TheVariants.{EndsEarly, WrongWord, OutsideLimits, PathNotRising, WrongEndCount}
use Rattle.base.specs.Refusals.{word_refusal}
use Rattle.package.specs.declared.rules.TextRule.{TextRule}
use Rattle.package.specs.declared.rules.TextRule.TheVariants.{Spelled, Free}
use Rattle.package.specs.Words.{three, bytes, byte_count, is_text, is_file, is_end, end_count, file_kind, content_length, path}
use Rattle.package.specs.Checks.{Due, text, item, nothing, must, contents, item_fault, right_count, right_bytes, refusal}
use Rattle.package.specs.Packages.{Carried, Fits, Rising, text_words, end_word, text_in, behind_text, files_in}
use Rattle.package.proofs.Tests.{some_none, must_none, refusal_none}
use Rattle.package.proofs.TextSound.{text_none, right_join}
use Rattle.encoding.proofs.Made.{word_text, word_front, three_low, end_made, file_made, file_word}
use Rattle.encoding.proofs.Encodes.{Sized}
use Rattle.encoding.proofs.Accepted.{tail, tail_step}

-- the lengths that a text may have: some bytes, or whole words
abbrev Room : TextRule → ℕ → Type 0
Room (Spelled kind) left = 1 ≤ left
Room Free left = (k : ℕ) × (left ≡ 3 * suc k)

pub record Decoded (rule : TextRule) (left : ℕ) (begun : Bool) (after : Due) (place : ℕ) (ws bs rest : List ℕ) (files : List Carried) : Type 0 where
  pub words : text_words bs ++ rest ≡ ws
  pub sized : Sized rule bs left
  pub right : right_bytes rule begun bs ≡ true
  pub low : AllByRecursion (λ b. b < 256) bs
  pub run : refusal after (place + length (text_words bs)) rest ≡ None
  pub same : files ≡ files_in after rest
  pub shorter : length rest < length ws

-- a count that passes, and what it says of the bytes of a word
count_last : (rule : TextRule) (left n : ℕ) → Room rule left → left ≤ 3 → right_count rule left n ≡ true → (1 ≤ n) × (n ≤ 3)
count_last (Spelled kind) left n r l h = let e = eqb-true n (min left 3) h in (omega arith, omega arith)
count_last Free left n r l h =
    let p = and_parts (leb (cond (leb left 3) 1 3) n) (leb n 3) h in
    (go (leb left 3) (leb-true (cond (leb left 3) 1 3) n p.0), leb-true n 3 p.1)
  where
    go : (b : Bool) → cond b 1 3 ≤ n → 1 ≤ n
    go true i = i
    go false i = omega arith

count_more : (rule : TextRule) (left n : ℕ) → 3 < left → leb left 3 ≡ false → right_count rule left n ≡ true → n ≡ 3
count_more (Spelled kind) left n l f h = let e = eqb-true n (min left 3) h in omega arith
count_more Free left n l f h =
    let p = and_parts (leb (cond (leb left 3) 1 3) n) (leb n 3) h in
    let a = leb-true (cond (leb left 3) 1 3) n p.0 in
    let b = leb-true n 3 p.1 in
    let c = go (leb left 3) f a in
    omega arith
  where
    go : (b : Bool) → b ≡ false → cond b 1 3 ≤ n → 3 ≤ n
    go true e i = absurd (both_ways true e refl)
    go false e i = i

carried_length : (w : ℕ) → byte_count w ≤ 3 → length (bytes w) ≡ byte_count w
carried_length w h = let l = length-take (byte_count w) (three w) in omega arith

sized_last : (rule : TextRule) (left w : ℕ) → Room rule left → left ≤ 3 → right_count rule left (byte_count w) ≡ true → length (text_words (bytes w)) ≡ 1 → length (bytes w) ≡ byte_count w → Sized rule (bytes w) left
sized_last (Spelled kind) left w r l h e f = let c = eqb-true (byte_count w) (min left 3) h in omega arith
sized_last Free left w r l h e f = let k = r.1 in omega arith

room_more : (rule : TextRule) (left : ℕ) → Room rule left → 3 < left → Room rule (left - 3)
room_more (Spelled kind) left r l = omega arith
room_more Free left (zero, e) l = absurd (omega arith)
room_more Free left (suc k, e) l = (k, omega arith)

sized_more : (rule : TextRule) (left w : ℕ) (bs : List ℕ) → 3 < left → length (bytes w) ≡ 3 → length (text_words (bytes w ++ bs)) ≡ suc (length (text_words bs)) → Sized rule bs (left - 3) → Sized rule (bytes w ++ bs) left
sized_more (Spelled kind) left w bs l e f s = let a = length-append (bytes w) bs in omega arith
sized_more Free left w bs l e f s = omega arith

right_more : (rule : TextRule) (begun : Bool) (xs ys : List ℕ) → right_bytes rule begun xs ≡ true → right_bytes rule true ys ≡ true → right_bytes rule begun (xs ++ ys) ≡ true
right_more (Spelled kind) begun xs ys h k = right_join kind begun xs ys h k
right_more Free begun xs ys h k = refl

pub text_decodes : (ws : List ℕ) (rule : TextRule) (left : ℕ) (begun : Bool) (after : Due) (place : ℕ) → Room rule left → refusal (text rule left begun after) place ws ≡ None
    → Decoded rule left begun after place ws (text_in (text rule left begun after) ws) (behind_text (text rule left begun after) ws) (files_in (text rule left begun after) ws)
text_decodes [] rule left begun after place r h = some_none (word_refusal EndsEarly place) h
text_decodes (w ∷ ws) rule left begun after place r h =
    let p = refusal_none (text rule left begun after) place w ws h in
    let q = text_none rule left begun w p.0 in
    go (leb left 3) refl q.0 q.1 q.2 p.1 (text_decodes ws rule (left - 3) true after (place + 1))
  where
    go : (b : Bool) → leb left 3 ≡ b → is_text w ≡ true → right_count rule left (byte_count w) ≡ true → right_bytes rule begun (bytes w) ≡ true
        → refusal (cond b after (text rule (left - 3) true after)) (place + 1) ws ≡ None
        → (Room rule (left - 3) → refusal (text rule (left - 3) true after) (place + 1) ws ≡ None
        → Decoded rule (left - 3) true after (place + 1) ws (text_in (text rule (left - 3) true after) ws) (behind_text (text rule (left - 3) true after) ws) (files_in (text rule (left - 3) true after) ws))
        → Decoded rule left begun after place (w ∷ ws) (bytes w ++ cond b [] (text_in (text rule (left - 3) true after) ws)) (cond b ws (behind_text (text rule (left - 3) true after) ws)) (files_in (cond b after (text rule (left - 3) true after)) ws)
    go true e t c s f ih =
        let l = leb-true left 3 e in
        let n = count_last rule left (byte_count w) r l c in
        let one : text_words (bytes w) ≡ w ∷ [] = word_text w t n.0 n.1 in
        let z = append-nil (bytes w) in
        let len : length (text_words (bytes w)) ≡ 1 = ap length one in
        record {
          words = ap (λ (x : List ℕ). text_words x ++ ws) z ∙ ap (λ (x : List ℕ). x ++ ws) one;
          sized = subst (λ (x : List ℕ). Sized rule x left) (sym z) (sized_last rule left w r l c len (carried_length w n.1));
          right = ap (right_bytes rule begun) z ∙ s;
          low = subst (λ (x : List ℕ). AllByRecursion (λ b. b < 256) x) (sym z) (All-take (λ b. b < 256) (byte_count w) (three w) (three_low w));
          run = ap (λ (m : ℕ). refusal after (place + m) ws) (ap (λ (x : List ℕ). length (text_words x)) z ∙ len) ∙ f;
          same = refl;
          shorter = omega arith;
        }
    go false e t c s f ih =
        let l = leb-false left 3 e in
        let n = count_more rule left (byte_count w) l e c in
        let i = ih (room_more rule left r l) f in
        let bs = text_in (text rule (left - 3) true after) ws in
        let front : text_words (bytes w ++ bs) ≡ w ∷ text_words bs = word_front w bs t n in
        let k : length (bytes w) ≡ 3 = carried_length w (let m = n in omega arith) ∙ n in
        let len : length (text_words (bytes w ++ bs)) ≡ suc (length (text_words bs)) = ap length front in
        let sh = i.shorter in
        let q : place + length (text_words (bytes w ++ bs)) ≡ place + 1 + length (text_words bs) = omega arith in
        record {
          words = ap (λ (x : List ℕ). x ++ behind_text (text rule (left - 3) true after) ws) front ∙ ap (λ (x : List ℕ). w ∷ x) i.words;
          sized = sized_more rule left w bs l k len i.sized;
          right = right_more rule begun (bytes w) bs s i.right;
          low = All-append (λ b. b < 256) (bytes w) bs (All-take (λ b. b < 256) (byte_count w) (three w) (three_low w)) i.low;
          run = ap (λ (m : ℕ). refusal after m (behind_text (text rule (left - 3) true after) ws)) q ∙ i.run;
          same = i.same;
          shorter = omega arith;
        }

-- the content of a file, of no words or some
pub record Held (words count floor place : ℕ) (ws bs rest : List ℕ) (files : List Carried) : Type 0 where
  pub split : text_words bs ++ rest ≡ ws
  pub long : length (text_words bs) ≡ words
  pub low : AllByRecursion (λ b. b < 256) bs
  pub run : refusal (item count floor) (place + words) rest ≡ None
  pub same : files ≡ files_in (item count floor) rest
  pub shorter : length rest ≤ length ws

pub content_decodes : (n count floor place : ℕ) (ws : List ℕ) → refusal (contents n (item count floor)) place ws ≡ None
    → Held n count floor place ws (text_in (contents n (item count floor)) ws) (behind_text (contents n (item count floor)) ws) (files_in (contents n (item count floor)) ws)
content_decodes n count floor place ws = go (eqb n 0) refl
  where
    go : (b : Bool) → eqb n 0 ≡ b → refusal (cond b (item count floor) (text Free (3 * n) false (item count floor))) place ws ≡ None
        → Held n count floor place ws (text_in (cond b (item count floor) (text Free (3 * n) false (item count floor))) ws) (behind_text (cond b (item count floor) (text Free (3 * n) false (item count floor))) ws) (files_in (cond b (item count floor) (text Free (3 * n) false (item count floor))) ws)
    go true e h =
        let z = eqb-true n 0 e in
        let q : place + n ≡ place = omega arith in
        record { split = refl; long = sym z; low = tt; run = ap (λ (p : ℕ). refusal (item count floor) p ws) q ∙ h; same = refl; shorter = omega arith }
    go false e h =
        let d = text_decodes ws Free (3 * n) false (item count floor) place (room n (eqb-false n 0 e)) h in
        let s = d.sized in
        let sh = d.shorter in
        let l : length (text_words (text_in (text Free (3 * n) false (item count floor)) ws)) ≡ n = omega arith in
        record { split = d.words; long = l; low = d.low; run = ap (λ (m : ℕ). refusal (item count floor) (place + m) (behind_text (text Free (3 * n) false (item count floor)) ws)) (sym l) ∙ d.run; same = d.same; shorter = omega arith }
      where
        room : (m : ℕ) → (m ≡ 0 → ⊥) → (k : ℕ) × (3 * m ≡ 3 * suc k)
        room zero x = absurd (x refl)
        room (suc k) x = (k, refl)

-- the files from a place on
pub record Filed (count floor place : ℕ) (ws : List ℕ) (fs : List Carried) : Type 0 where
  pub words : tail place fs ≡ ws
  pub few : count + length fs ≤ 24
  pub rising : Rising floor fs
  pub fits : AllByRecursion Fits fs

item_none : (count floor place w : ℕ) → item_fault count floor place w ≡ None
    → ((is_file w || is_end w) ≡ true) × (cond (is_end w) (must (eqb (end_count w) place) WrongEndCount None) (must (ltb count 24 && leb (content_length w) 32) OutsideLimits (must (leb floor (path w)) PathNotRising None)) ≡ None)
item_none count floor place w h = must_none (is_file w || is_end w) WrongWord _ h

file_none : (count floor w : ℕ) → must (ltb count 24 && leb (content_length w) 32) OutsideLimits (must (leb floor (path w)) PathNotRising None) ≡ None
    → (count < 24) × (content_length w ≤ 32) × (floor ≤ path w)
file_none count floor w h =
    let p = must_none (ltb count 24 && leb (content_length w) 32) OutsideLimits _ h in
    let q = and_parts (ltb count 24) (leb (content_length w) 32) p.0 in
    let r = must_none (leb floor (path w)) PathNotRising None p.1 in
    (ltb-true count 24 q.0, leb-true (content_length w) 32 q.1, leb-true floor (path w) r.0)

file_not_end : (w : ℕ) → (is_file w || is_end w) ≡ true → is_end w ≡ false → is_file w ≡ true
file_not_end w h e = go (is_file w) (is_end w) h e
  where
    go : (x y : Bool) → (x || y) ≡ true → y ≡ false → x ≡ true
    go true y i f = refl
    go false y i f = absurd (both_ways y f i)

pub nothing_left : (place : ℕ) (ws : List ℕ) → refusal nothing place ws ≡ None → ws ≡ []
nothing_left place [] h = refl
nothing_left place (w ∷ ws) h = some_none (word_refusal WrongWord place) h

pub files_decode : (m : ℕ) (ws : List ℕ) (count floor place : ℕ) → length ws ≤ m → count ≤ 24 → refusal (item count floor) place ws ≡ None
    → Filed count floor place ws (files_in (item count floor) ws)
files_decode m [] count floor place l c h = some_none (word_refusal EndsEarly place) h
files_decode zero (w ∷ ws) count floor place l c h = absurd (omega arith)
files_decode (suc m) (w ∷ ws) count floor place l c h =
    let p = refusal_none (item count floor) place w ws h in
    let q = item_none count floor place w p.0 in
    go (is_end w) refl q.0 q.1 p.1
    (λ rest i. files_decode m rest (count + 1) (path w + 1) (place + 1 + content_length w) i)
  where
    go : (b : Bool) → is_end w ≡ b → (is_file w || is_end w) ≡ true
        → cond b (must (eqb (end_count w) place) WrongEndCount None) (must (ltb count 24 && leb (content_length w) 32) OutsideLimits (must (leb floor (path w)) PathNotRising None)) ≡ None
        → refusal (cond b nothing (contents (content_length w) (item (count + 1) (path w + 1)))) (place + 1) ws ≡ None
        → ((rest : List ℕ) → length rest ≤ m → count + 1 ≤ 24 → refusal (item (count + 1) (path w + 1)) (place + 1 + content_length w) rest ≡ None
        → Filed (count + 1) (path w + 1) (place + 1 + content_length w) rest (files_in (item (count + 1) (path w + 1)) rest))
        → Filed count floor place (w ∷ ws) (cond b [] (record { kind = file_kind w; path = path w; content = text_in (cond b nothing (contents (content_length w) (item (count + 1) (path w + 1)))) ws } ∷ files_in (cond b nothing (contents (content_length w) (item (count + 1) (path w + 1)))) ws))
    go true e f x r ih =
        let n = eqb-true (end_count w) place (must_none (eqb (end_count w) place) WrongEndCount None x).0 in
        let z = nothing_left (place + 1) ws r in
        record {
          words = ap (λ (k : ℕ). end_word k ∷ []) (add-zero place) ∙ ap₂ (λ (y : ℕ) (ys : List ℕ). y ∷ ys) (end_made w place e n) (sym z);
          few = omega arith;
          rising = tt;
          fits = tt;
        }
    go false e f x r ih =
        let n = file_none count floor w x in
        let file = file_not_end w f e in
        let d = content_decodes (content_length w) (count + 1) (path w + 1) (place + 1) ws r in
        let due = contents (content_length w) (item (count + 1) (path w + 1)) in
        let rest = behind_text due ws in
        let sh = d.shorter in
        let i = ih rest (omega arith) (let a = n.0 in omega arith) d.run in
        let fs = files_in (item (count + 1) (path w + 1)) rest in
        let fw = i.few in
        let k : Carried = record { kind = file_kind w; path = path w; content = text_in due ws } in
        filed_cons k (files_in due ws) fs d.same
        (tail_step place k fs
        ∙ ap (λ (y : ℕ). file_word (file_kind w) y (path w) ∷ (text_words (text_in due ws) ++ tail (place + 1 + y) fs)) d.long
        ∙ ap₂ (λ (y : ℕ) (ys : List ℕ). y ∷ (text_words (text_in due ws) ++ ys)) (file_made w file) i.words
        ∙ ap (λ (ys : List ℕ). w ∷ ys) d.split)
        (omega arith) n.2 i.rising
        (record { low = omega arith; bytes = d.low; short = let a = d.long in let b = n.1 in omega arith }) i.fits
      where
        filed_cons : (y : Carried) (ys zs : List Carried) → ys ≡ zs → tail place (y ∷ zs) ≡ w ∷ ws → count + suc (length zs) ≤ 24 → floor ≤ y.path → Rising (y.path + 1) zs → Fits y → AllByRecursion Fits zs → Filed count floor place (w ∷ ws) (y ∷ ys)
        filed_cons y ys zs g ws' few low rise fit fits =
            subst (λ (t : List Carried). Filed count floor place (w ∷ ws) (y ∷ t)) (sym g) (record { words = ws'; few = few; rising = (low, rise); fits = (fit, fits) })
