-- Checks taken apart and put together.
use Rattle.std.proofs.Common.{◌≡◌, ℕ, ◌+◌, Bool, true, false, List, ◌∷◌, Some, None, Option, refl, ap, arith}
use Rattle.base.specs.declared.reasons.Reason.{Reason}
use Rattle.base.specs.declared.reasons.Refusal.{Refusal}
use Rattle.base.specs.Refusals.{word_refusal}
use Rattle.package.specs.Checks.{Due, must, or_else, fault, next, refusal}

pub some_none : {X Y : Type 0} (x : X) → Some x ≡ None → Y
some_none x e = let z : ◌≡◌ {A = ℕ} 0 1 = cc in absurd (omega arith)

-- a check that finds nothing passed each test
pub must_none : (test : Bool) (reason : Reason) (others : Option Reason) → must test reason others ≡ None → (test ≡ true) × (others ≡ None)
must_none true reason others h = (refl, h)
must_none false reason others h = some_none reason h

pub must_pass : (test : Bool) (reason : Reason) (others : Option Reason) → test ≡ true → others ≡ None → must test reason others ≡ None
must_pass test reason others e h = rw e h

pub or_else_none : (o : Option Reason) (place : ℕ) (others : Option Refusal) → or_else o place others ≡ None → (o ≡ None) × (others ≡ None)
or_else_none (Some reason) place others h = some_none (word_refusal reason place) h
or_else_none None place others h = (refl, h)

-- one word on
pub refusal_on : (due : Due) (place w : ℕ) (ws : List ℕ) → fault due place w ≡ None → refusal due place (w ∷ ws) ≡ refusal (next due w) (place + 1) ws
refusal_on due place w ws e = ap (λ (o : Option Reason). or_else o place (refusal (next due w) (place + 1) ws)) e

pub refusal_none : (due : Due) (place w : ℕ) (ws : List ℕ) → refusal due place (w ∷ ws) ≡ None → (fault due place w ≡ None) × (refusal (next due w) (place + 1) ws ≡ None)
refusal_none due place w ws h = or_else_none (fault due place w) place (refusal (next due w) (place + 1) ws) h
