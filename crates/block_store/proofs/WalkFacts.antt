-- A block goes from the front of one chain to the front of another, and all else stays.
use Rattle.std.proofs.Common.{◌≡◌, ℕ, zero, suc, ◌+◌, ◌<◌, ◌⊎◌, List, ◌++◌, sym, refl, ap, ◌∙◌, subst, inl, inr, arith}
use Rattle.std.proofs.lemmas.Bool.{cases_eq}
use Rattle.block_store.specs.Walks.{chain_count, walk, content, Within, Apart}

-- a write to a block that a walk does not meet
pub walk_same : (nx nx' : ℕ → ℕ) (b : ℕ) → ((p : ℕ) → (p ≡ b → ⊥) → nx' p ≡ nx p) → (i p : ℕ) → ((m : ℕ) → m < i → walk nx m p ≡ b → ⊥) → walk nx' i p ≡ walk nx i p
walk_same nx nx' b o zero p h = refl
walk_same nx nx' b o (suc i) p h =
    ap (walk nx' i) (o p (h 0 (omega arith))) ∙ walk_same nx nx' b o i (nx p) (λ m l e. h (suc m) (omega arith) e)

pub content_same : (nx nx' : ℕ → ℕ) (wd wd' : ℕ → List ℕ) (b : ℕ) → ((p : ℕ) → (p ≡ b → ⊥) → nx' p ≡ nx p) → ((p : ℕ) → (p ≡ b → ⊥) → wd' p ≡ wd p) → (c p : ℕ) → ((m : ℕ) → m < c → walk nx m p ≡ b → ⊥) → content nx' wd' c p ≡ content nx wd c p
content_same nx nx' wd wd' b o w zero p h = refl
content_same nx nx' wd wd' b o w (suc c) p h =
    ap (λ x. x ++ content nx' wd' c (nx' p)) (w p (h 0 (omega arith)))
    ∙ ap (λ q. wd p ++ content nx' wd' c q) (o p (h 0 (omega arith)))
    ∙ ap (λ x. wd p ++ x) (content_same nx nx' wd wd' b o w c (nx p) (λ m l e. h (suc m) (omega arith) e))

-- from where a place of the new chains comes: f gives its first block to t
abbrev Source : ℕ → ℕ → ℕ → ℕ → ℕ → ℕ → Type 0
Source f t k i j m =
    ((k ≡ f) × (j ≡ f) × (m ≡ i + 1))
    ⊎ (((k ≡ t) × (i ≡ 0) × (j ≡ f) × (m ≡ 0))
    ⊎ (((k ≡ t) × (j ≡ t) × (i ≡ m + 1))
    ⊎ ((k ≡ f → ⊥) × (k ≡ t → ⊥) × (j ≡ k) × (m ≡ i))))

one_source : (f t k i k' i' j m : ℕ) → (f ≡ t → ⊥) → Source f t k i j m → Source f t k' i' j m → (k ≡ k') × (i ≡ i')
one_source f t k i k' i' j m ne a b = (omega arith, omega arith)

module _
    (nx nx' hd hd' n n' : ℕ → ℕ) (N f t : ℕ)
    (within : Within nx hd n N) (apart : Apart nx hd n)
    (fl : f < chain_count) (tl : t < chain_count) (ne : f ≡ t → ⊥) (some : 0 < n f)
    (nx-b : nx' (hd f) ≡ hd t) (nx-o : (p : ℕ) → (p ≡ hd f → ⊥) → nx' p ≡ nx p)
    (hd-f : hd' f ≡ nx (hd f)) (hd-t : hd' t ≡ hd f) (hd-o : (k : ℕ) → k < chain_count → (k ≡ f → ⊥) → (k ≡ t → ⊥) → hd' k ≡ hd k)
    (n-f : n' f + 1 ≡ n f) (n-t : n' t ≡ n t + 1) (n-o : (k : ℕ) → k < chain_count → (k ≡ f → ⊥) → (k ≡ t → ⊥) → n' k ≡ n k)
  where
    -- no other chain, and no later place of f, meets the block
    pub free_of : (k : ℕ) → k < chain_count → (k ≡ f → ⊥) → (m : ℕ) → m < n k → walk nx m (hd k) ≡ hd f → ⊥
    free_of k l d m h e = d (apart k f m 0 l fl h some e).0

    pub free_after : (m : ℕ) → m + 1 < n f → walk nx m (nx (hd f)) ≡ hd f → ⊥
    free_after m h e = let z = (apart f f (suc m) 0 fl fl (omega arith) some e).1 in omega arith

    abbrev From : ℕ → ℕ → Type 0
    From k i = (j : ℕ) × (m : ℕ) × (j < chain_count) × (m < n j) × (walk nx' i (hd' k) ≡ walk nx m (hd j)) × Source f t k i j m

    at_f : (i : ℕ) → i < n' f → From f i
    at_f i h = (
      f,
      suc i,
      fl,
      omega arith,
      ap (walk nx' i) hd-f ∙ walk_same nx nx' (hd f) nx-o i (nx (hd f)) (λ m l. free_after m (omega arith)),
      inl (refl, refl, omega arith),
    )

    at_t : (i : ℕ) → i < n' t → From t i
    at_t zero h = (f, 0, fl, some, hd-t, inr (inl (refl, refl, refl, refl)))
    at_t (suc i) h = (
      t,
      i,
      tl,
      omega arith,
      ap (λ p. walk nx' i (nx' p)) hd-t ∙ ap (walk nx' i) nx-b ∙ walk_same nx nx' (hd f) nx-o i (hd t) (λ m l. free_of t tl (λ e. ne (sym e)) m (omega arith)),
      inr (inr (inl (refl, refl, omega arith))),
    )

    at_o : (k i : ℕ) → k < chain_count → (k ≡ f → ⊥) → (k ≡ t → ⊥) → i < n' k → From k i
    at_o k i l a b h =
        let e = n-o k l a b in (
          k,
          i,
          l,
          omega arith,
          ap (walk nx' i) (hd-o k l a b) ∙ walk_same nx nx' (hd f) nx-o i (hd k) (λ m g. free_of k l a m (omega arith)),
          inr (inr (inr (a, b, refl, refl))),
        )

    from : (k i : ℕ) → k < chain_count → i < n' k → From k i
    from k i l h =
        elim (cases_eq k f) [
          | inl e ↦ subst (λ x. From x i) (sym e) (at_f i (subst (λ x. i < n' x) e h))
          | inr a ↦ elim (cases_eq k t) [
            | inl e ↦ subst (λ x. From x i) (sym e) (at_t i (subst (λ x. i < n' x) e h))
            | inr b ↦ at_o k i l a b h
          ]
        ]

    pub shift_within : Within nx' hd' n' N
    shift_within k i l h = let s = from k i l h in subst (λ (x : ℕ). x < N) (sym s.4) (within s.0 s.1 s.2 s.3)

    pub shift_apart : Apart nx' hd' n'
    shift_apart j k i m jl kl hi hm e =
        let a = from j i jl hi in
        let b = from k m kl hm in
        let q = apart a.0 b.0 a.1 b.1 a.2 b.2 a.3 b.3 (sym a.4 ∙ e ∙ b.4) in
        one_source f t j i k m b.0 b.1 ne (subst (λ (x : ℕ). Source f t j i x b.1) q.0 (subst (λ (y : ℕ). Source f t j i a.0 y) q.1 a.5)) b.5

pub walk_more : (nx : ℕ → ℕ) (i p : ℕ) → walk nx (suc i) p ≡ nx (walk nx i p)
walk_more nx zero p = refl
walk_more nx (suc i) p = walk_more nx i (nx p)
