-- A text word by word.
use Rattle.std.proofs.Common.{◌≡◌, ℕ, ◌+◌, ◌-◌, ◌<◌, ◌≤◌, Bool, true, cond, leb, List, length, get_or, drop, IfOk, Some, None, Ok, Err, Result, sym, refl, ◌∙◌, arith}
use Rattle.std.proofs.lemmas.List.{drop_more, drop_all}
use Rattle.std.proofs.lemmas.Bool.{le-leb, lt-leb}
use Rattle.base.specs.declared.reasons.Reason.{Reason}
use Rattle.base.specs.declared.reasons.Reason.TheVariants.{EndsEarly}
use Rattle.base.specs.declared.reasons.Refusal.{Refusal}
use Rattle.base.specs.Refusals.{word_refusal}
use Rattle.package.specs.declared.rules.TextRule.{TextRule}
use Rattle.package.specs.Checks.{text_fault, or_else}
use Rattle.package.specs.Items.{text_refusal, words_for}

module _ (rule : TextRule) (left : ℕ) (begun : Bool) (place : ℕ) (ws : List ℕ) where
  pub text_ends : length ws ≤ place → Some (word_refusal EndsEarly place) ≡ text_refusal rule left begun place (drop place ws)
  text_ends h = rw (drop_all place ws h) refl

  step : place < length ws
      → text_refusal rule left begun place (drop place ws)
      ≡ or_else (text_fault rule left begun (get_or ws place 0)) place (cond (leb left 3) None (text_refusal rule (left - 3) true (place + 1) (drop (place + 1) ws)))
  step h = rw (drop_more ws place 0 h) refl

  pub text_bad : (reason : Reason) → place < length ws → Some reason ≡ text_fault rule left begun (get_or ws place 0)
      → Some (word_refusal reason place) ≡ text_refusal rule left begun place (drop place ws)
  text_bad reason h e = sym (step h ∙ rw (← e) refl)

  pub text_last : place < length ws → None ≡ text_fault rule left begun (get_or ws place 0) → left ≤ 3
      → None ≡ text_refusal rule left begun place (drop place ws)
  text_last h e l = sym (step h ∙ rw (← e, le-leb left 3 l) refl)

  pub text_on : place < length ws → None ≡ text_fault rule left begun (get_or ws place 0) → 3 < left
      → text_refusal rule (left - 3) true (place + 1) (drop (place + 1) ws) ≡ text_refusal rule left begun place (drop place ws)
  text_on h e l = sym (step h ∙ rw (← e, lt-leb left 3 l) refl)

pub behind_on : (place left n : ℕ) (r : Result ℕ Refusal) → 3 < left
    → IfOk r (λ p. (p ≡ place + 1 + words_for (left - 3)) × (p ≤ n))
    → IfOk r (λ p. (p ≡ place + words_for left) × (p ≤ n))
behind_on place left n (Ok p) l h = (let e = h.0 in omega arith, h.1)
behind_on place left n (Err refused) l h = tt
