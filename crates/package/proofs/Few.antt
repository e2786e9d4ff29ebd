-- Words without a fault hold at most 24 files.
use Rattle.std.proofs.Common.{◌≡◌, ℕ, zero, suc, ◌+◌, ◌<◌, ◌≤◌, Bool, true, false, cond, ◌&&◌, ◌||◌, eqb, ltb, leb, List, [], ◌∷◌, length, take, drop, None, refl, sym, ap, ◌∙◌, le_refl, arith, length-drop}
use Rattle.std.proofs.lemmas.Bool.{and_parts, ltb-true}
use Rattle.base.specs.declared.reasons.Reason.TheVariants.{WrongWord, OutsideLimits, PathNotRising, WrongEndCount}
use Rattle.package.specs.Accepted.{accepts, files_place}
use Rattle.package.specs.Checks.{item, nothing, contents, must, item_fault, refusal}
use Rattle.package.specs.Items.{content_refusal}
use Rattle.package.specs.Wares.{wares}
use Rattle.package.specs.Words.{content_length, end_count, file_kind, path, is_file, is_end}
use Rattle.package.proofs.Handing.{passed_over}
use Rattle.package.proofs.Placed.{files_sound, or_run_right}
use Rattle.package.proofs.Tests.{must_none, refusal_none}
use Rattle.package.proofs.TextSound.{content_run}

-- a word that is no end, and no fault, is one of the first 24 files
below : (count floor place w : ℕ) → is_end w ≡ false → item_fault count floor place w ≡ None → count < 24
below count floor place w e h =
    let a = must_none (is_file w || is_end w) WrongWord _ h in
    let y : must (ltb count 24 && leb (content_length w) 32) OutsideLimits (must (leb floor (path w)) PathNotRising None) ≡ None =
    sym (ap (λ (b : Bool). cond b (must (eqb (end_count w) place) WrongEndCount None) (must (ltb count 24 && leb (content_length w) 32) OutsideLimits (must (leb floor (path w)) PathNotRising None))) e) ∙ a.1 in
    ltb-true count 24 (and_parts (ltb count 24) _ (must_none _ OutsideLimits _ y).0).0

few : (m : ℕ) (ws : List ℕ) (count floor place : ℕ) → length ws ≤ m → count ≤ 24 → refusal (item count floor) place ws ≡ None → length (wares 0 ws) + count ≤ 24
few m [] count floor place l c h = omega arith
few zero (w ∷ ws) count floor place l c h = absurd (omega arith)
few (suc m) (w ∷ ws) count floor place l c h =
    let r = refusal_none (item count floor) place w ws h in
    go (is_end w) refl r.1 (below count floor place w) r.0
    (λ fits below₁ run. few m (drop (content_length w) ws) (count + 1) (path w + 1) (place + 1 + content_length w) fits below₁ run)
  where
    n : ℕ
    n = content_length w

    go : (b : Bool) → is_end w ≡ b → refusal (cond b nothing (contents n (item (count + 1) (path w + 1)))) (place + 1) ws ≡ None
        → (is_end w ≡ false → item_fault count floor place w ≡ None → count < 24) → item_fault count floor place w ≡ None
        → (length (drop n ws) ≤ m → count + 1 ≤ 24 → refusal (item (count + 1) (path w + 1)) (place + 1 + n) (drop n ws) ≡ None → length (wares 0 (drop n ws)) + (count + 1) ≤ 24)
        → length (cond b [] (record { kind = file_kind w; path = path w; words = take n ws } ∷ wares n ws)) + count ≤ 24
    go true e k low f ih = omega arith
    go false e k low f ih =
        let k₁ : refusal (item (count + 1) (path w + 1)) (place + 1 + n) (drop n ws) ≡ None = or_run_right (content_refusal n (place + 1) ws) _ (sym (content_run n (item (count + 1) (path w + 1)) (place + 1) ws) ∙ k) in
        let d = length-drop n ws in
        let b = low e f in
        let rest = ih (omega arith) (omega arith) k₁ in
        let p = ap length (passed_over n ws) in
        omega arith

pub files_few : (words : List ℕ) (first : ℕ) → accepts words ≡ true → first ≡ files_place words → length (wares 0 (drop first words)) ≤ 24
files_few words first a at =
    let ws = drop first words in
    let l = few (length ws) ws 0 0 first (le_refl (length ws)) (omega arith) (files_sound words first a at) in
    omega arith
