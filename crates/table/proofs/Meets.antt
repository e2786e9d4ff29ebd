-- What the law of a total order says of keys that meet.
use Rattle.std.proofs.Common.{◌≡◌, Bool, true, false, not, ◌&&◌, sym, ◌∙◌, ap₂, ⊎_elim}
use mathlib.Core.Bool.{and_comm}
use Rattle.std.proofs.lemmas.Bool.{both_ways, not-true, and_parts, cases_Bool}
use Rattle.std.proofs.lemmas.Bool.Decides.{same_from_decides}
use Rattle.table.specs.Order.{Total, meets}

module _ {K : Type 0} {below : K → K → Bool} {same : K → K → Type 0} (total : Total below same) where
  pub meets_parts : (a b : K) → meets below a b ≡ true → (below a b ≡ false) × (below b a ≡ false)
  meets_parts a b h =
      let p = and_parts (not (below a b)) (not (below b a)) h in
      (not-true (below a b) p.0, not-true (below b a) p.1)

  pub meets_from : (a b : K) → below a b ≡ false → below b a ≡ false → meets below a b ≡ true
  meets_from a b p q = rw (p, q)

  -- keys that meet are the same key
  pub meets_same : (a b : K) → meets below a b ≡ true → same a b
  meets_same a b h = let p = meets_parts a b h in total.one a b p.0 p.1

  -- the same key meets itself
  pub same_meets : (a b : K) → same a b → meets below a b ≡ true
  same_meets a b s = meets_from a b (total.like a b b s ∙ total.never b) (sym (total.like a b a s) ∙ total.never a)

  pub self_meets : (a : K) → meets below a a ≡ true
  self_meets a = meets_from a a (total.never a) (total.never a)

  pub meets_sym : (a b : K) → meets below a b ≡ meets below b a
  meets_sym a b = and_comm (not (below a b)) (not (below b a))

  pub below_apart : (a b : K) → below a b ≡ true → meets below a b ≡ false
  below_apart a b h = rw h

  -- keys that meet lie alike to any other key
  pub meets_below : (a b c : K) → meets below a b ≡ true → below a c ≡ below b c
  meets_below a b c h = total.like a b c (meets_same a b h)

  carried : (a b c : K) → meets below a b ≡ true → below c a ≡ true → below c b ≡ true
  carried a b c h p =
      ⊎_elim (λ q. q)
      (λ q. ⊎_elim (λ r. absurd (both_ways (below b a) (meets_parts a b h).1 (total.trans b c a r p)))
      (λ r. absurd (both_ways (below b a) (meets_parts a b h).1 (total.like b c a (total.one b c r q) ∙ p)))
      (cases_Bool (below b c)))
      (cases_Bool (below c b))

  pub meets_above : (a b c : K) → meets below a b ≡ true → below c a ≡ below c b
  meets_above a b c h =
      same_from_decides {P = below c b ≡ true} (below c a) (below c b)
      (carried a b c h, carried b a c (meets_sym b a ∙ h)) (λ p. p, λ p. p)

  pub meets_meets : (a b c : K) → meets below a b ≡ true → meets below a c ≡ meets below b c
  meets_meets a b c h = ap₂ (λ x y. not x && not y) (meets_below a b c h) (meets_above a b c h)

  -- of two keys that do not meet, one that is not below is above
  pub other_below : (a b : K) → below a b ≡ false → (meets below a b ≡ true → ⊥) → below b a ≡ true
  other_below a b p no-meet = ⊎_elim (λ q. q) (λ q. absurd (no-meet (meets_from a b p q))) (cases_Bool (below b a))
