-- Taking a list of words apart at a place.
use Rattle.std.proofs.Common.{◌≡◌, ℕ, ◌<◌, ◌≤◌, List, [], ◌∷◌, length, get_or, drop, Some, None, sym, refl, ap, ◌∙◌, le_refl, le_of_suc-le-suc, not-suc-le-zero, arith, length-drop}
use Rattle.std.specs.List.{between}
use Rattle.std.proofs.lemmas.List.{drop-drop, drop_more, drop_all}
use Rattle.std.proofs.lemmas.Slice.{first_rest, between_to_end}
use Rattle.base.specs.declared.reasons.Reason.TheVariants.{WrongWord}
use Rattle.base.specs.Refusals.{word_refusal}
use Rattle.package.specs.Checks.{nothing, refusal}
use Rattle.package.specs.Items.{Apart}

pub none_left : (words : List ℕ) (place : ℕ) (rem : List ℕ) → rem ≡ drop place words → length rem < 1 → drop place words ≡ []
none_left words place [] e h = sym e
none_left words place (w ∷ ws) e h = absurd (not-suc-le-zero (le_of_suc-le-suc h))

pub apart_at : (words : List ℕ) (place : ℕ) (rem : List ℕ) → rem ≡ drop place words → 0 < length rem → Apart words place (get_or rem 0 0) (between 1 (length rem) rem)
apart_at words place rem e h =
    let tail = between_to_end rem 1 (length rem) (le_refl (length rem)) in
    let m = length-drop place words in
    let n = length-drop 1 rem in
    let l = ap length e in
    let k = ap length tail in
    record {
      here = sym e ∙ first_rest rem 0 h;
      behind = sym (tail ∙ ap (drop 1) e ∙ drop-drop 1 place words);
      size = omega arith;
    }

-- where no word is due, a word is a fault, and the input's end is none
pub more_left : (words : List ℕ) (place : ℕ) → place < length words → Some (word_refusal WrongWord place) ≡ refusal nothing place (drop place words)
more_left words place h = rw (drop_more words place 0 h) refl

pub all_read : (words : List ℕ) (place : ℕ) → length words ≤ place → None ≡ refusal nothing place (drop place words)
all_read words place h = rw (drop_all place words h) refl
