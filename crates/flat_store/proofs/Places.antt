-- Places that name slots: what a place is, and a slot that goes from one place to another.
use Rattle.std.proofs.Common.{◌≡◌, ℕ, ◌-◌, ◌<◌, ◌≤◌, Bool, true, false, ltb, ◌⊎◌, List, get_or, Option, Some, None, is_some, sym, refl, ap, ◌∙◌, subst, inl, inr, arith}
use Rattle.std.proofs.lemmas.Bool.{cases_eq, cond-true, cond-false, lt-ltb, le-ltb, both_ways, false≢true}
use Rattle.store.specs.Files.{key_count}
use Rattle.flat_store.specs.Images.{blank, extent_at, slot_of, live, slot_at, Apart}
use Rattle.flat_store.specs.declared.cells.Entry.{Entry}
use Rattle.flat_store.specs.declared.cells.Extent.{Extent}
use Rattle.flat_store.specs.declared.cells.Slot.{Slot}

-- what is there
pub some_of : (o : Option Extent) → is_some o ≡ true → (e : Extent) × (o ≡ Some e)
some_of None h = absurd (false≢true h)
some_of (Some e) h = (e, refl)

module _ (dir : List Entry) (ss : List Slot) (free : ℕ) where
  pub live_key : (k : ℕ) → k < key_count → live dir free k ≡ is_some (extent_at dir k)
  live_key k h = cond-true _ _ _ (lt-ltb k key_count h)

  pub live_free : (x : ℕ) → key_count ≤ x → live dir free x ≡ ltb (x - key_count) free
  live_free x h = cond-false _ _ _ (le-ltb x key_count h)

  pub slot_key : (k : ℕ) → k < key_count → slot_at dir ss k ≡ slot_of (extent_at dir k)
  slot_key k h = cond-true _ _ _ (lt-ltb k key_count h)

  pub slot_free : (x : ℕ) → key_count ≤ x → slot_at dir ss x ≡ (get_or ss (x - key_count) blank).spare
  slot_free x h = cond-false _ _ _ (le-ltb x key_count h)

-- The slot that x names is named by y in its stead, and all else stays.
module _
    (on on' : ℕ → Bool) (at at' : ℕ → ℕ) (n x y : ℕ) (apart : Apart on at n)
    (was : on x ≡ true) (gone : on' x ≡ false) (there : at' y ≡ at x)
    (others : (z : ℕ) → (z ≡ x → ⊥) → (z ≡ y → ⊥) → (on' z ≡ on z) × (at' z ≡ at z))
  where
    abbrev From : ℕ → Type 0
    From z = (w : ℕ) × (on w ≡ true) × (at' z ≡ at w) × (((z ≡ y) × (w ≡ x)) ⊎ ((z ≡ x → ⊥) × (z ≡ y → ⊥) × (w ≡ z)))

    from : (z : ℕ) → on' z ≡ true → From z
    from z h =
        elim (cases_eq z y) [
          | inl e ↦ (x, was, ap at' e ∙ there, inl (e, refl))
          | inr b ↦ elim (cases_eq z x) [
            | inl e ↦ absurd (both_ways (on' z) (ap on' e ∙ gone) h)
            | inr a ↦ (z, sym (others z a b).0 ∙ h, (others z a b).1, inr (a, b, refl))
          ]
        ]

    pub renamed : Apart on' at' n
    renamed = (
      (λ z h. let f = from z h in subst (λ (s : ℕ). s < n) (sym f.2) (apart.0 f.0 f.1)),
      (λ z v h g e.
          let f = from z h in
          let k = from v g in
          let same = apart.1 f.0 k.0 f.1 k.1 (sym f.2 ∙ e ∙ k.2) in
          let a = f.3 in
          let b = k.3 in
          omega arith),
    )

pub unchanged : (on on' : ℕ → Bool) (at at' : ℕ → ℕ) (n : ℕ) → Apart on at n → ((z : ℕ) → on' z ≡ on z) → ((z : ℕ) → at' z ≡ at z) → Apart on' at' n
unchanged on on' at at' n apart same_on same_at = (
  (λ z h. subst (λ (s : ℕ). s < n) (sym (same_at z)) (apart.0 z (sym (same_on z) ∙ h))),
  (λ z v h g e. apart.1 z v (sym (same_on z) ∙ h) (sym (same_on v) ∙ g) (sym (same_at z) ∙ e ∙ same_at v)),
)
