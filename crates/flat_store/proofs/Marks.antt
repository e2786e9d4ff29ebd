-- Slots of which only the `spare` is written.
use Rattle.std.proofs.Common.{◌≡◌, ℕ, suc, ◌+◌, ◌-◌, ◌<◌, ◌≤◌, Bool, true, false, cond, ◌&&◌, eqb, ltb, leb, List, [], ◌∷◌, length, get_or, take, set, Option, Some, sum_by, count_by, sym, refl, ap, ◌∙◌, subst, inl, inr, arith}
use Rattle.std.proofs.lemmas.List.{get_or-set_same, get_or-set_other, set_past, get_or-take, length-take, length-set, take_all}
use Rattle.std.proofs.lemmas.List.Sums.{sum_by-cons, sum_by-set, sum_by_more, get_or-le-sum_by}
use Rattle.std.proofs.lemmas.Bool.{cases_eq, cases_lt, cases_order, eqb-true, eq-eqb, ne_eqb, ltb-true, and_parts}
use Rattle.store.specs.Files.{key_count, longest}
use Rattle.flat_store.specs.Images.{none, blank, extent_of, extent_at, words_at, slot_of, live, slot_at, Fits, extent_units, units, Kept}
use Rattle.flat_store.specs.Taking.{names, named, good_after, good, markable, marked, unnamed, Marks, Free}
use Rattle.flat_store.specs.declared.cells.Entry.{Entry}
use Rattle.flat_store.specs.declared.cells.Extent.{Extent}
use Rattle.flat_store.specs.declared.cells.Slot.{Slot}
use Rattle.flat_store.proofs.Images.{fits_same}
use Rattle.flat_store.proofs.Places.{some_of, live_key, live_free, slot_key, slot_free}

module _ (ss : List Slot) (i : ℕ) (s : Slot) where
  spare_here : i < length ss → (get_or (set ss i s) i blank).spare ≡ s.spare
  spare_here h = ap (λ x. x.spare) (get_or-set_same ss i s blank h)

  spare_other : (p : ℕ) → (p ≡ i → ⊥) → (get_or (set ss i s) p blank).spare ≡ (get_or ss p blank).spare
  spare_other p h = ap (λ x. x.spare) (get_or-set_other ss i p s blank h)

  spare_words : s.words ≡ words_at ss i → (p : ℕ) → words_at (set ss i s) p ≡ words_at ss p
  spare_words e p =
      elim (cases_eq p i) [
        | inl q ↦ elim (cases_lt i (length ss)) [
          | inl h ↦ ap (words_at (set ss i s)) q ∙ ap (λ x. x.words) (get_or-set_same ss i s blank h) ∙ e ∙ sym (ap (words_at ss) q)
          | inr h ↦ ap (λ xs. words_at xs p) (set_past ss i s h)
        ]
        | inr a ↦ ap (λ x. x.words) (get_or-set_other ss i p s blank a)
      ]

abbrev once : ℕ → Entry → ℕ
once p e = cond (names p (extent_of e)) 1 0

abbrev lack : Slot → ℕ
lack s = cond (unnamed s) 1 0

-- no entry was looked at
all_lack : (ss : List Slot) → ((p : ℕ) → p < length ss → (get_or ss p blank).spare ≡ 0) → count_by unnamed ss ≡ length ss
all_lack [] h = refl
all_lack (s ∷ ss) h =
    sum_by-cons lack s ss ∙ omega (arith, ap (λ (n : ℕ). cond {A = ℕ} (eqb n 0) 1 0) (h 0 (omega arith)), all_lack ss (λ p l. h (suc p) (omega arith)))

pub no_marks : (dir : List Entry) (ss : List Slot) → ((p : ℕ) → p < length ss → (get_or ss p blank).spare ≡ 0) → Marks dir ss 0
no_marks dir ss h = (h, omega (arith, all_lack ss h), (λ j l. absurd (omega arith)), λ j l. absurd (omega arith))

-- an entry before k that names p is counted
named_some : (dir : List Entry) (k j p : ℕ) (e : Extent) → j < k → k ≤ length dir → extent_at dir j ≡ Some e → e.slot ≡ p → 1 ≤ named p (take k dir)
named_some dir k j p e jl kl on q =
    let t : names p (extent_at dir j) ≡ true = ap (names p) on ∙ eq-eqb _ _ q in
    omega (arith, get_or-le-sum_by (once p) (take k dir) j none (omega (arith, length-take k dir)), ap (once p) (get_or-take k dir j none jl), ap (λ (b : Bool). cond {A = ℕ} b 1 0) t)

module _ (dir : List Entry) (ss : List Slot) (k : ℕ) (long : length dir ≡ key_count) (kl : k < key_count) (marks : Marks dir ss k) where
  named_more : (p : ℕ) → named p (take (k + 1) dir) ≡ named p (take k dir) + cond (names p (extent_at dir k)) 1 0
  named_more p = sum_by_more (once p) dir k none (omega arith)

  units_more : sum_by units (take (k + 1) dir) ≡ sum_by units (take k dir) + extent_units (extent_at dir k)
  units_more = sum_by_more units dir k none (omega arith)

  below : (P : ℕ → Type 0) → ((j : ℕ) → j < k → P j) → P k → (j : ℕ) → j < k + 1 → P j
  below P h here j l = elim (cases_eq j k) [ inl q ↦ subst P (sym q) here | inr a ↦ h j (omega arith) ]

  module _ (e : Extent) (on : extent_at dir k ≡ Some e) where
    -- what can be marked is good, and the other way round
    good_is : good dir (length ss) k ≡ markable ss e
    good_is = ap (good_after (take k dir) (length ss)) on ∙ go (ltb e.slot (length ss)) refl
      where
        go : (b : Bool) → ltb e.slot (length ss) ≡ b → leb e.len longest && (b && eqb (named e.slot (take k dir)) 0) ≡ leb e.len longest && (b && eqb (get_or ss e.slot blank).spare 0)
        go true h = ap (λ (n : ℕ). leb e.len longest && eqb n 0) (sym (marks.0 e.slot (ltb-true _ _ h)))
        go false h = refl

    -- an entry whose slot gets its mark
    module _ (ok : true ≡ markable ss e) (fits : Fits ss (Some e)) where
      abbrev mss : List Slot
      mss = marked ss e.slot

      there : (ltb e.slot (length ss) ≡ true) × (eqb (get_or ss e.slot blank).spare 0 ≡ true)
      there = and_parts _ _ (and_parts (leb e.len longest) _ (sym ok)).1

      in_range : e.slot < length ss
      in_range = ltb-true _ _ there.0

      was : (get_or ss e.slot blank).spare ≡ 0
      was = eqb-true _ _ there.1

      marked_long : length mss ≡ length ss
      marked_long = length-set ss e.slot _

      marked_words : (p : ℕ) → words_at mss p ≡ words_at ss p
      marked_words = spare_words ss e.slot _ refl

      marks_at : (p : ℕ) → p < length ss → (get_or mss p blank).spare ≡ named p (take (k + 1) dir)
      marks_at p h =
          elim (cases_eq p e.slot) [
            | inl q ↦ (
                let t : names p (extent_at dir k) ≡ true = ap (names p) on ∙ eq-eqb _ _ (sym q) in
                ap (λ (x : ℕ). (get_or mss x blank).spare) q ∙ spare_here ss e.slot _ in_range
                ∙ omega (arith, named_more p, marks.0 p h, ap (λ (b : Bool). cond {A = ℕ} b 1 0) t, ap (λ (x : ℕ). (get_or ss x blank).spare) q, was))
            | inr a ↦ (
                let t : names p (extent_at dir k) ≡ false = ap (names p) on ∙ ne_eqb _ _ (λ q. a (sym q)) in
                spare_other ss e.slot _ p a ∙ marks.0 p h ∙ omega (arith, named_more p, ap (λ (b : Bool). cond {A = ℕ} b 1 0) t))
          ]

      more_marks : Marks dir mss (k + 1)
      more_marks = (
        (λ p h. marks_at p (omega (arith, marked_long))),
        omega (arith, marks.1, units_more, marked_long, ap extent_units on, sum_by-set lack ss e.slot (record { spare = 1; words = words_at ss e.slot }) blank in_range, ap (λ (n : ℕ). cond {A = ℕ} (eqb n 0) 1 0) was),
        (λ j l. fits_same ss mss marked_words (extent_at dir j) (below (λ (i : ℕ). Fits ss (extent_at dir i)) marks.2 (subst (λ (o : Option Extent). Fits ss o) (sym on) fits) j l)),
        (λ j l. ap (λ (n : ℕ). good dir n j) marked_long ∙ below (λ (i : ℕ). good dir (length ss) i ≡ true) marks.3 (good_is ∙ sym ok) j l),
      )

      pub next_marks : (ss' : List Slot) → ss' ≡ mss → Marks dir ss' (k + 1) × ((p : ℕ) → words_at ss' p ≡ words_at ss p)
      next_marks ss' is = subst (λ (xs : List Slot). Marks dir xs (k + 1) × ((p : ℕ) → words_at xs p ≡ words_at ss p)) (sym is) (more_marks, marked_words)

-- the list of the free slots, after the first p
abbrev pub Listed : List Slot → List Slot → ℕ → ℕ → Type 0
Listed old ss p free =
    (free ≡ count_by unnamed (take p old))
    × (free ≤ p)
    × ((q : ℕ) → p ≤ q → (get_or ss q blank).spare ≡ (get_or old q blank).spare)
    × ((i : ℕ) → i < free → ((get_or ss i blank).spare < p) × Free old (get_or ss i blank).spare)
    × ((i j : ℕ) → i < j → j < free → (get_or ss i blank).spare < (get_or ss j blank).spare)
    × ((q : ℕ) → words_at ss q ≡ words_at old q)

module _ (old ss : List Slot) (p free : ℕ) (long : length ss ≡ length old) (pl : p < length old) (inv : Listed old ss p free) where
  lack_more : count_by unnamed (take (p + 1) old) ≡ count_by unnamed (take p old) + lack (get_or old p blank)
  lack_more = sum_by_more lack old p blank pl

  module _ (s : Slot) (zero_here : (get_or ss p blank).spare ≡ 0) (spare : s.spare ≡ p) (words : s.words ≡ words_at ss free) where
    abbrev lss : List Slot
    lss = set ss free s

    here : (get_or lss free blank).spare ≡ p
    here = spare_here ss free s (omega (arith, inv.1)) ∙ spare

    was_zero : (get_or old p blank).spare ≡ 0
    was_zero = sym (inv.2 p (omega arith)) ∙ zero_here

    at : (i : ℕ) → i < free + 1 → ((get_or lss i blank).spare < p + 1) × Free old (get_or lss i blank).spare
    at i l =
        elim (cases_eq i free) [
          | inl q ↦ (
              let h : (get_or lss i blank).spare ≡ p = ap (λ (x : ℕ). (get_or lss x blank).spare) q ∙ here in
              subst (λ (x : ℕ). (x < p + 1) × Free old x) (sym h) (omega arith, (pl, was_zero)))
          | inr a ↦ (
              let f = inv.3 i (omega arith) in
              subst (λ (x : ℕ). (x < p + 1) × Free old x) (sym (spare_other ss free s i a)) (omega (arith, f.0), f.1))
        ]

    rises : (i j : ℕ) → i < j → j < free + 1 → (get_or lss i blank).spare < (get_or lss j blank).spare
    rises i j h g =
        elim (cases_eq j free) [
          | inl q ↦ omega (arith, ap (λ (x : ℕ). (get_or lss x blank).spare) q, here, spare_other ss free s i (λ e. omega arith), (inv.3 i (omega arith)).0)
          | inr a ↦ omega (arith, spare_other ss free s i (λ e. omega arith), spare_other ss free s j a, inv.4 i j h (omega arith))
        ]

    pub list_more : Listed old lss (p + 1) (free + 1)
    list_more = (
      omega (arith, inv.0, lack_more, ap (λ (n : ℕ). cond {A = ℕ} (eqb n 0) 1 0) was_zero),
      omega (arith, inv.1),
      (λ q l. spare_other ss free s q (λ e. omega (arith, inv.1)) ∙ inv.2 q (omega arith)),
      at,
      rises,
      (λ q. spare_words ss free s words q ∙ inv.5 q),
    )

-- A whole image with its free slots listed is sound.
module _ (dir : List Entry) (ss old : List Slot) (free : ℕ) (long : length dir ≡ key_count) (same : length ss ≡ length old) (marks : Marks dir old key_count)
    (count : free ≡ count_by unnamed old) (free_at : (i : ℕ) → i < free → Free old (get_or ss i blank).spare)
    (rising : (i j : ℕ) → i < j → j < free → (get_or ss i blank).spare < (get_or ss j blank).spare) (words : (p : ℕ) → words_at ss p ≡ words_at old p) where
  all : take key_count dir ≡ dir
  all = take_all key_count dir (omega arith)

  -- what a good entry says
  fine : (k : ℕ) (e : Extent) → k < key_count → extent_at dir k ≡ Some e → (e.slot < length old) × (named e.slot (take k dir) ≡ 0)
  fine k e kl on =
      let a : good_after (take k dir) (length old) (Some e) ≡ true = sym (ap (good_after (take k dir) (length old)) on) ∙ marks.3 k kl in
      let b = and_parts _ _ (and_parts (leb e.len longest) _ a).1 in
      (ltb-true _ _ b.0, eqb-true _ _ b.1)

  two_keys : (j k : ℕ) (e f : Extent) → j < k → k < key_count → extent_at dir j ≡ Some e → extent_at dir k ≡ Some f → e.slot ≡ f.slot → ⊥
  two_keys j k e f l kl on on' q = let h = named_some dir k j f.slot e l (omega arith) on q in let z = (fine k f kl on').1 in omega arith

  key_free : (k i : ℕ) (e : Extent) → k < key_count → i < free → extent_at dir k ≡ Some e → e.slot ≡ (get_or ss i blank).spare → ⊥
  key_free k i e kl il on q =
      let f = free_at i il in
      let h = named_some dir key_count k (get_or ss i blank).spare e kl (omega arith) on q in
      let m = marks.0 (get_or ss i blank).spare f.0 in
      omega (arith, f.1)

  two_free : (i j : ℕ) → i < free → j < free → (get_or ss i blank).spare ≡ (get_or ss j blank).spare → i ≡ j
  two_free i j il jl e =
      elim (cases_order i j) [
        | inl q ↦ q
        | inr s ↦ elim s [ inl l ↦ (let r = rising i j l jl in absurd (omega arith)) | inr l ↦ (let r = rising j i l il in absurd (omega arith)) ]
      ]

  -- a live place is a key's, and has an entry, or one of the free list's
  key_on : (x : ℕ) → x < key_count → live dir free x ≡ true → (e : Extent) × (extent_at dir x ≡ Some e) × (slot_at dir ss x ≡ e.slot)
  key_on x h on = let s = some_of (extent_at dir x) (sym (live_key dir ss free x h) ∙ on) in (s.0, s.1, slot_key dir ss free x h ∙ ap slot_of s.1)

  free_on : (x : ℕ) → key_count ≤ x → live dir free x ≡ true → x - key_count < free
  free_on x h on = ltb-true _ _ (sym (live_free dir ss free x h) ∙ on)

  inside : (x : ℕ) → live dir free x ≡ true → slot_at dir ss x < length ss
  inside x on =
      elim (cases_lt x key_count) [
        | inl h ↦ (let s = key_on x h on in omega (arith, (fine x s.0 h s.1).0, s.2))
        | inr h ↦ omega (arith, slot_free dir ss free x h, (free_at (x - key_count) (free_on x h on)).0)
      ]

  apart : (x y : ℕ) → live dir free x ≡ true → live dir free y ≡ true → slot_at dir ss x ≡ slot_at dir ss y → x ≡ y
  apart x y on on' q =
      elim (cases_lt x key_count) [
        | inl h ↦ (
            let s = key_on x h on in
            elim (cases_lt y key_count) [
              | inl g ↦ (
                  let t = key_on y g on' in
                  let r : s.0.slot ≡ t.0.slot = sym s.2 ∙ q ∙ t.2 in
                  elim (cases_order x y) [
                    | inl e ↦ e
                    | inr o ↦ elim o [ inl l ↦ absurd (two_keys x y s.0 t.0 l g s.1 t.1 r) | inr l ↦ absurd (two_keys y x t.0 s.0 l h t.1 s.1 (sym r)) ]
                  ])
              | inr g ↦ absurd (key_free x (y - key_count) s.0 h (free_on y g on') s.1 (sym s.2 ∙ q ∙ slot_free dir ss free y g))
            ])
        | inr h ↦ elim (cases_lt y key_count) [
          | inl g ↦ (let t = key_on y g on' in absurd (key_free y (x - key_count) t.0 g (free_on x h on) t.1 (sym t.2 ∙ sym q ∙ slot_free dir ss free x h)))
          | inr g ↦ (
              let r = two_free (x - key_count) (y - key_count) (free_on x h on) (free_on y g on') (sym (slot_free dir ss free x h) ∙ q ∙ slot_free dir ss free y g) in
              omega arith)
        ]
      ]

  pub taken_kept : Kept dir ss free
  taken_kept = (
    long,
    omega (arith, marks.1, ap (sum_by units) all),
    (λ k kl. fits_same old ss words (extent_at dir k) (marks.2 k kl)),
    (inside, apart),
  )
