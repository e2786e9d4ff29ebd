-- A text that the checks have run over: what is due behind it, the words left, and its bytes.
use Rattle.std.proofs.Common.{◌≡◌, ℕ, suc, ◌+◌, ◌-◌, Bool, true, false, cond, leb, List, [], ◌∷◌, ◌++◌, None, ap, ◌∙◌, append-nil, arith}
use Rattle.package.specs.declared.rules.TextRule.{TextRule}
use Rattle.package.specs.Words.{bytes}
use Rattle.package.specs.Checks.{Due, text, text_fault, refusal}
use Rattle.package.specs.Packages.{text_in, behind_text, files_in}
use Rattle.package.proofs.Tests.{refusal_on}

pub record Ran (due after : Due) (place : ℕ) (ws rest bs : List ℕ) (n : ℕ) : Type 0 where
  pub run : refusal due place ws ≡ refusal after (place + n) rest
  pub spelt : text_in due ws ≡ bs
  pub left : behind_text due ws ≡ rest
  pub files : files_in due ws ≡ files_in after rest

module _ (rule : TextRule) (left : ℕ) (begun : Bool) (after : Due) (place w : ℕ) (ok : text_fault rule left begun w ≡ None) where
  pub ran_last : (rest : List ℕ) → leb left 3 ≡ true → Ran (text rule left begun after) after place (w ∷ rest) rest (bytes w) 1
  ran_last rest l = record {
    run = refusal_on (text rule left begun after) place w rest ok ∙ ap (λ (b : Bool). refusal (cond b after (text rule (left - 3) true after)) (place + 1) rest) l;
    spelt = ap (λ (b : Bool). bytes w ++ cond b [] (text_in (text rule (left - 3) true after) rest)) l ∙ append-nil (bytes w);
    left = ap (λ (b : Bool). cond b rest (behind_text (text rule (left - 3) true after) rest)) l;
    files = ap (λ (b : Bool). files_in (cond b after (text rule (left - 3) true after)) rest) l;
  }

  pub ran_more : (ws rest bs : List ℕ) (n : ℕ) → leb left 3 ≡ false → Ran (text rule (left - 3) true after) after (place + 1) ws rest bs n
      → Ran (text rule left begun after) after place (w ∷ ws) rest (bytes w ++ bs) (suc n)
  ran_more ws rest bs n l r =
      let e : place + 1 + n ≡ place + suc n = omega arith in
      record {
        run = refusal_on (text rule left begun after) place w ws ok ∙ ap (λ (b : Bool). refusal (cond b after (text rule (left - 3) true after)) (place + 1) ws) l ∙ r.run ∙ ap (λ (p : ℕ). refusal after p rest) e;
        spelt = ap (λ (b : Bool). bytes w ++ cond b [] (text_in (text rule (left - 3) true after) ws)) l ∙ ap (λ (t : List ℕ). bytes w ++ t) r.spelt;
        left = ap (λ (b : Bool). cond b ws (behind_text (text rule (left - 3) true after) ws)) l ∙ r.left;
        files = ap (λ (b : Bool). files_in (cond b after (text rule (left - 3) true after)) ws) l ∙ r.files;
      }
