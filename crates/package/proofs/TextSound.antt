-- A text without a fault: the checks go on behind it, and its bytes are spelled right.
use Rattle.std.proofs.Common.{◌≡◌, ℕ, zero, suc, ◌+◌, ◌-◌, ◌*◌, ◌≤◌, min, Bool, true, false, cond, ◌&&◌, eqb, leb, List, [], ◌∷◌, ◌++◌, length, take, drop, Some, None, Option, sym, refl, ap, ◌∙◌, append-nil, arith, length-append}
use Rattle.std.specs.List.{flat_map}
use Rattle.std.proofs.lemmas.List.{length-take}
use Rattle.std.proofs.lemmas.Bool.{leb-true, leb-false, eqb-true, eqb-false, and_from, and_parts, both_ways}
use Rattle.base.specs.declared.reasons.Reason.{Reason}
use Rattle.base.specs.declared.reasons.Reason.TheVariants.{WrongWord, OutsideLimits, EndsEarly}
use Rattle.base.specs.declared.reasons.Refusal.{Refusal}
use Rattle.base.specs.declared.texts.TextKind.{TextKind}
use Rattle.base.specs.Refusals.{word_refusal}
use Rattle.base.specs.Texts.{all, may_begin, may_follow}
use Rattle.package.specs.declared.rules.TextRule.{TextRule}
use Rattle.package.specs.declared.rules.TextRule.TheVariants.{Spelled, Free}
use Rattle.package.specs.Words.{three, bytes, byte_count, is_text}
use Rattle.package.specs.Checks.{Due, text, contents, or_else, text_fault, right_count, right_bytes, refusal}
use Rattle.package.specs.Items.{text_refusal, content_refusal, words_for}
use Rattle.package.specs.Packages.{text_in, behind_text, files_in}
use Rattle.package.proofs.Tests.{some_none, must_none, or_else_none}

-- a first answer, else a second
abbrev pub or_run : Option Refusal → Option Refusal → Option Refusal
or_run (Some refused) others = Some refused
or_run None others = others

pub step_run : (o : Option Reason) (place : ℕ) (x y z : Option Refusal) → x ≡ or_run y z → or_else o place x ≡ or_run (or_else o place y) z
step_run (Some reason) place x y z e = refl
step_run None place x y z e = e

one_word : (left : ℕ) → leb left 3 ≡ true → words_for left ≡ 1
one_word left e = let h = leb-true left 3 e in omega arith

more_words : (left : ℕ) → leb left 3 ≡ false → words_for left ≡ suc (words_for (left - 3))
more_words left e = let h = leb-false left 3 e in omega arith

-- the checks of a text, and then those of what is due behind it
pub text_run : (ws : List ℕ) (rule : TextRule) (left : ℕ) (begun : Bool) (after : Due) (place : ℕ)
    → refusal (text rule left begun after) place ws ≡ or_run (text_refusal rule left begun place ws) (refusal after (place + words_for left) (drop (words_for left) ws))
text_run [] rule left begun after place = refl
text_run (w ∷ ws) rule left begun after place =
    step_run (text_fault rule left begun w) place (refusal (cond (leb left 3) after (text rule (left - 3) true after)) (place + 1) ws)
    (cond (leb left 3) None (text_refusal rule (left - 3) true (place + 1) ws))
    (refusal after (place + words_for left) (drop (words_for left) (w ∷ ws)))
    (go (leb left 3) refl (text_run ws rule (left - 3) true after (place + 1)))
  where
    go : (b : Bool) → leb left 3 ≡ b
        → refusal (text rule (left - 3) true after) (place + 1) ws ≡ or_run (text_refusal rule (left - 3) true (place + 1) ws) (refusal after (place + 1 + words_for (left - 3)) (drop (words_for (left - 3)) ws))
        → refusal (cond b after (text rule (left - 3) true after)) (place + 1) ws
        ≡ or_run (cond b None (text_refusal rule (left - 3) true (place + 1) ws)) (refusal after (place + words_for left) (drop (words_for left) (w ∷ ws)))
    go true e ih = sym (ap (λ (n : ℕ). refusal after (place + n) (drop n (w ∷ ws))) (one_word left e))
    go false e ih =
        let f : place + 1 + words_for (left - 3) ≡ place + suc (words_for (left - 3)) = omega arith in
        ih ∙ ap (λ (n : ℕ). or_run (text_refusal rule (left - 3) true (place + 1) ws) (refusal after n (drop (words_for (left - 3)) ws))) f
        ∙ sym (ap (λ (n : ℕ). or_run (text_refusal rule (left - 3) true (place + 1) ws) (refusal after (place + n) (drop n (w ∷ ws)))) (more_words left e))

positive : (m : ℕ) → (m ≡ 0 → ⊥) → words_for (3 * m) ≡ m
positive zero z = absurd (z refl)
positive (suc m) z = omega arith

pub content_run : (n : ℕ) (after : Due) (place : ℕ) (ws : List ℕ)
    → refusal (contents n after) place ws ≡ or_run (content_refusal n place ws) (refusal after (place + n) (drop n ws))
content_run n after place ws = go (eqb n 0) refl
  where
    go : (b : Bool) → eqb n 0 ≡ b
        → refusal (cond b after (text Free (3 * n) false after)) place ws ≡ or_run (cond b None (text_refusal Free (3 * n) false place ws)) (refusal after (place + n) (drop n ws))
    go true e = let z = eqb-true n 0 e in let f : place ≡ place + n = omega arith in ap (λ (p : ℕ). refusal after p ws) f ∙ ap (λ (m : ℕ). refusal after (place + n) (drop m ws)) (sym z)
    go false e =
        let z = eqb-false n 0 e in
        let f : words_for (3 * n) ≡ n = positive n z in
        text_run ws Free (3 * n) false after place ∙ ap (λ (m : ℕ). or_run (text_refusal Free (3 * n) false place ws) (refusal after (place + m) (drop m ws))) f

-- the parts of a step without a fault
pub text_none : (rule : TextRule) (left : ℕ) (begun : Bool) (w : ℕ) → text_fault rule left begun w ≡ None
    → (is_text w ≡ true) × (right_count rule left (byte_count w) ≡ true) × (right_bytes rule begun (bytes w) ≡ true)
text_none rule left begun w h =
    let p = must_none (is_text w) WrongWord _ h in
    let q = must_none (right_count rule left (byte_count w) && right_bytes rule begun (bytes w)) OutsideLimits None p.1 in
    let r = and_parts (right_count rule left (byte_count w)) (right_bytes rule begun (bytes w)) q.0 in
    (p.0, r.0, r.1)

pub right_join : (kind : TextKind) (begun : Bool) (xs ys : List ℕ) → right_bytes (Spelled kind) begun xs ≡ true → right_bytes (Spelled kind) true ys ≡ true → right_bytes (Spelled kind) begun (xs ++ ys) ≡ true
right_join kind false [] ys h k = absurd (both_ways false refl h)
right_join kind false (x ∷ xs) ys h k =
    let p = and_parts (may_begin kind x) (all (may_follow kind) xs) h in
    and_from (may_begin kind x) (all (may_follow kind) (xs ++ ys)) p.0 (right_join kind true xs ys p.1 k)
right_join kind true [] ys h k = k
right_join kind true (x ∷ xs) ys h k =
    let p = and_parts (may_follow kind x) (all (may_follow kind) xs) h in
    and_from (may_follow kind x) (all (may_follow kind) (xs ++ ys)) p.0 (right_join kind true xs ys p.1 k)

-- what the words of a text without a fault hold
pub record Sound (rule : TextRule) (left : ℕ) (begun : Bool) (after : Due) (ws : List ℕ) : Type 0 where
  pub enough : words_for left ≤ length ws
  pub files : files_in (text rule left begun after) ws ≡ files_in after (drop (words_for left) ws)
  pub spelt : text_in (text rule left begun after) ws ≡ flat_map bytes (take (words_for left) ws)
  pub behind : behind_text (text rule left begun after) ws ≡ drop (words_for left) ws

pub text_sound : (ws : List ℕ) (rule : TextRule) (left : ℕ) (begun : Bool) (after : Due) (place : ℕ) → text_refusal rule left begun place ws ≡ None → Sound rule left begun after ws
text_sound [] rule left begun after place h = some_none (word_refusal EndsEarly place) h
text_sound (w ∷ ws) rule left begun after place h =
    go (leb left 3) refl (or_else_none (text_fault rule left begun w) place (cond (leb left 3) None (text_refusal rule (left - 3) true (place + 1) ws)) h).1
    (text_sound ws rule (left - 3) true after (place + 1))
  where
    go : (b : Bool) → leb left 3 ≡ b → cond b None (text_refusal rule (left - 3) true (place + 1) ws) ≡ None
        → (text_refusal rule (left - 3) true (place + 1) ws ≡ None → Sound rule (left - 3) true after ws)
        → Sound rule left begun after (w ∷ ws)
    go true e n ih =
        let k = one_word left e in
        record {
          enough = omega arith;
          files = ap (λ (b : Bool). files_in (cond b after (text rule (left - 3) true after)) ws) e ∙ sym (ap (λ (m : ℕ). files_in after (drop m (w ∷ ws))) k);
          spelt = ap (λ (b : Bool). bytes w ++ cond b [] (text_in (text rule (left - 3) true after) ws)) e ∙ sym (ap (λ (m : ℕ). flat_map bytes (take m (w ∷ ws))) k);
          behind = ap (λ (b : Bool). cond b ws (behind_text (text rule (left - 3) true after) ws)) e ∙ sym (ap (λ (m : ℕ). drop m (w ∷ ws)) k);
        }
    go false e n ih =
        let k = more_words left e in
        let s = ih n in
        let l = s.enough in
        record {
          enough = omega arith;
          files = ap (λ (b : Bool). files_in (cond b after (text rule (left - 3) true after)) ws) e ∙ s.files ∙ sym (ap (λ (m : ℕ). files_in after (drop m (w ∷ ws))) k);
          spelt = ap (λ (b : Bool). bytes w ++ cond b [] (text_in (text rule (left - 3) true after) ws)) e ∙ ap (λ (t : List ℕ). bytes w ++ t) s.spelt ∙ sym (ap (λ (m : ℕ). flat_map bytes (take m (w ∷ ws))) k);
          behind = ap (λ (b : Bool). cond b ws (behind_text (text rule (left - 3) true after) ws)) e ∙ s.behind ∙ sym (ap (λ (m : ℕ). drop m (w ∷ ws)) k);
        }

-- and the bytes of a name or a version are as many as its head says, and spelled right
pub text_spelled : (ws : List ℕ) (kind : TextKind) (left : ℕ) (begun : Bool) (place : ℕ) → text_refusal (Spelled kind) left begun place ws ≡ None
    → (length (flat_map bytes (take (words_for left) ws)) ≡ left) × (right_bytes (Spelled kind) begun (flat_map bytes (take (words_for left) ws)) ≡ true)
text_spelled [] kind left begun place h = some_none (word_refusal EndsEarly place) h
text_spelled (w ∷ ws) kind left begun place h =
    let p = or_else_none (text_fault (Spelled kind) left begun w) place (cond (leb left 3) None (text_refusal (Spelled kind) (left - 3) true (place + 1) ws)) h in
    let q = text_none (Spelled kind) left begun w p.0 in
    let n = eqb-true (byte_count w) (min left 3) q.1 in
    go (leb left 3) refl p.1 n q.2 (text_spelled ws kind (left - 3) true (place + 1))
  where
    count : (m : ℕ) → m ≡ min left 3 → length (take m (three w)) ≡ min left 3
    count m e = let l = length-take m (three w) in omega arith

    go : (b : Bool) → leb left 3 ≡ b → cond b None (text_refusal (Spelled kind) (left - 3) true (place + 1) ws) ≡ None
        → byte_count w ≡ min left 3 → right_bytes (Spelled kind) begun (bytes w) ≡ true
        → (text_refusal (Spelled kind) (left - 3) true (place + 1) ws ≡ None → (length (flat_map bytes (take (words_for (left - 3)) ws)) ≡ left - 3) × (right_bytes (Spelled kind) true (flat_map bytes (take (words_for (left - 3)) ws)) ≡ true))
        → (length (flat_map bytes (take (words_for left) (w ∷ ws))) ≡ left) × (right_bytes (Spelled kind) begun (flat_map bytes (take (words_for left) (w ∷ ws))) ≡ true)
    go true e x n r ih =
        let k : flat_map bytes (take (words_for left) (w ∷ ws)) ≡ bytes w = ap (λ (m : ℕ). flat_map bytes (take m (w ∷ ws))) (one_word left e) ∙ append-nil (bytes w) in
        let c = count (byte_count w) n in
        let l = leb-true left 3 e in
        let j = ap length k in
        (omega arith, ap (right_bytes (Spelled kind) begun) k ∙ r)
    go false e x n r ih =
        let k : flat_map bytes (take (words_for left) (w ∷ ws)) ≡ bytes w ++ flat_map bytes (take (words_for (left - 3)) ws) = ap (λ (m : ℕ). flat_map bytes (take m (w ∷ ws))) (more_words left e) in
        let c = count (byte_count w) n in
        let l = leb-false left 3 e in
        let i = ih x in
        let i0 = i.0 in
        let j = ap length k in
        let a = length-append (bytes w) (flat_map bytes (take (words_for (left - 3)) ws)) in
        (omega arith, ap (right_bytes (Spelled kind) begun) k ∙ right_join kind begun (bytes w) (flat_map bytes (take (words_for (left - 3)) ws)) r i.1)
