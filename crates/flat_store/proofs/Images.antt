-- The lists of a flat image: one entry or one slot changes.
use Rattle.std.proofs.Common.{◌≡◌, ℕ, zero, suc, ◌+◌, ◌-◌, ◌*◌, ◌<◌, ◌≤◌, Bool, true, false, cond, ltb, List, [], ◌∷◌, ◌++◌, map, length, get_or, take, drop, set, replicate, Option, is_some, Some, None, sum_by, sym, refl, ap, ◌∙◌, subst, inl, inr, arith}
use mathlib.Core.Path.{fun_ext}
use Rattle.std.proofs.lemmas.List.{get_or-set_same, get_or-set_other, map-set, set-set, get_or-replicate, length-replicate, length-set, length-map, length-take, set-get_or, take_at, take_all}
use Rattle.std.proofs.lemmas.List.Sums.{sum_by-cons, sum_by-set, get_or-le-sum_by}
use Rattle.std.proofs.lemmas.Bool.{cases_eq, cases_lt, cond-true, lt-ltb, le-ltb, ltb-true, ltb-false, both_ways, false≢true}
use Rattle.std.proofs.lemmas.Bool.Decides.{nat_tests}
use Rattle.std.proofs.lemmas.Option.{none-some, same_Some, some_pair_parts, cond_some}
use Rattle.store.specs.Files.{File, Files, key_count, longest, file_at, units_of, used, admits, moved, length_of, words_of}
use Rattle.store.proofs.Facts.{used_set, admits_yes, admits_full, moved_cleared}
use Rattle.flat_store.specs.Images.{none, blank, entry_at, extent_of, extent_at, words_at, extent_file, entry_file, image_files, slot_of, live, slot_at, Apart, Fits, extent_units, units, Kept, choice}
use Rattle.flat_store.specs.Rooms.{length_file, units_file, used_slots, room_all}
use Rattle.flat_store.specs.declared.cells.Entry.{Entry}
use Rattle.flat_store.specs.declared.cells.Extent.{Extent}
use Rattle.flat_store.specs.declared.cells.Slot.{Slot}
use Rattle.flat_store.proofs.Places.{live_key, live_free, slot_key, slot_free, renamed, unchanged}

fits_some : (ss : List Slot) (e : Extent) → (e.len ≤ longest) × (e.len ≤ length (words_at ss e.slot)) → Fits ss (Some e)
fits_some ss e h f q = subst (λ (x : Extent). (x.len ≤ longest) × (x.len ≤ length (words_at ss x.slot))) (same_Some e f q) h

pub fits_none : (ss : List Slot) → Fits ss None
fits_none ss e q = absurd (none-some e q)

one_unit : (o : Option Extent) → is_some o ≡ true → extent_units o ≡ 1
one_unit None h = absurd (false≢true h)
one_unit (Some e) h = refl

pub take_same : (p q ws : List ℕ) → p ≡ ws → take (length ws) (p ++ q) ≡ ws
take_same p q ws e = take_at p q (length ws) (ap length e) ∙ e

-- slots whose words are the same
module _ (ss ss' : List Slot) (words : (p : ℕ) → words_at ss' p ≡ words_at ss p) where
  pub fits_same : (o : Option Extent) → Fits ss o → Fits ss' o
  fits_same o fits e q = let f = fits e q in (f.0, subst (λ (ws : List ℕ). e.len ≤ length ws) (sym (words e.slot)) f.1)

  file_same : (o : Option Extent) → extent_file ss' o ≡ extent_file ss o
  file_same None = refl
  file_same (Some e) = ap (λ ws. Some (take e.len ws)) (words e.slot)

  pub files_same : (dir : List Entry) → image_files dir ss' ≡ image_files dir ss
  files_same dir = ap (λ g. map g dir) (fun_ext (λ e. file_same (extent_of e)))

-- the file of a key
file_of : (dir : List Entry) (ss : List Slot) (k : ℕ) → file_at (image_files dir ss) k ≡ extent_file ss (extent_at dir k)
file_of [] ss k = refl
file_of (e ∷ dir) ss zero = refl
file_of (e ∷ dir) ss (suc k) = file_of dir ss k

some_file : (ss : List Slot) (o : Option Extent) → is_some (extent_file ss o) ≡ is_some o
some_file ss None = refl
some_file ss (Some e) = refl

held_file : (dir : List Entry) (ss : List Slot) (k : ℕ) → is_some (file_at (image_files dir ss) k) ≡ is_some (extent_at dir k)
held_file dir ss k = ap is_some (file_of dir ss k) ∙ some_file ss (extent_at dir k)

held_in : (dir : List Entry) (k : ℕ) → is_some (extent_at dir k) ≡ true → k < length dir
held_in [] k h = absurd (false≢true h)
held_in (e ∷ dir) zero h = omega arith
held_in (e ∷ dir) (suc k) h = let l = held_in dir k h in omega arith

none_of : (o : Option Extent) → is_some o ≡ false → o ≡ None
none_of None h = refl
none_of (Some e) h = absurd (both_ways true h refl)

file_gone : (fs : Files) (k : ℕ) → file_at (set fs k None) k ≡ None
file_gone [] k = refl
file_gone (f ∷ fs) zero = refl
file_gone (f ∷ fs) (suc k) = file_gone fs k

-- one entry changes
module _ (dir : List Entry) (k : ℕ) (e : Entry) (long : length dir ≡ key_count) (kl : k < key_count) where
  entry_here : extent_at (set dir k e) k ≡ extent_of e
  entry_here = ap extent_of (get_or-set_same dir k e none (omega arith))

  entry_other : (j : ℕ) → (j ≡ k → ⊥) → extent_at (set dir k e) j ≡ extent_at dir j
  entry_other j h = ap extent_of (get_or-set_other dir k j e none h)

  entry_sum : sum_by units (set dir k e) + extent_units (extent_at dir k) ≡ sum_by units dir + units e
  entry_sum = sum_by-set units dir k e none (omega arith)

  entry_fits : (ss : List Slot) → ((j : ℕ) → j < key_count → Fits ss (extent_at dir j)) → Fits ss (extent_of e) → (j : ℕ) → j < key_count → Fits ss (extent_at (set dir k e) j)
  entry_fits ss fits new j jl =
      elim (cases_eq j k) [
        | inl q ↦ subst (λ (x : Option Extent). Fits ss x) (sym (ap (extent_at (set dir k e)) q ∙ entry_here)) new
        | inr a ↦ subst (λ (x : Option Extent). Fits ss x) (sym (entry_other j a)) (fits j jl)
      ]

held_le : (dir : List Entry) (k : ℕ) (e : Extent) → length dir ≡ key_count → k < key_count → extent_at dir k ≡ Some e → 1 ≤ sum_by units dir
held_le dir k e long kl h = omega (arith, get_or-le-sum_by units dir k none (omega arith), ap extent_units h)

-- an empty key gets the last slot of the free list
module _ (dir : List Entry) (ss : List Slot) (free left : ℕ) (k : ℕ) (kept : Kept dir ss free) (kl : k < key_count) (empty : extent_at dir k ≡ None) (more : left + 1 ≡ free) where
  abbrev got : Entry
  got = record { held = true; slot = (get_or ss left blank).spare; len = 0 }

  last : key_count + left - key_count ≡ left
  last = omega arith

  abbrev tdir : List Entry
  tdir = set dir k got

  took_kept : Kept tdir ss left
  took_kept = (
    length-set dir k got ∙ kept.0,
    omega (arith, kept.1, entry_sum dir k got kept.0 kl, ap extent_units empty),
    entry_fits dir k got kept.0 kl ss kept.2 (fits_some ss _ (omega arith, omega arith)),
    renamed (live dir free) (live tdir left) (slot_at dir ss) (slot_at tdir ss) (length ss) (key_count + left) k kept.3
        (live_free dir ss free (key_count + left) (omega arith) ∙ ap (λ (i : ℕ). ltb i free) last ∙ lt-ltb left free (omega arith))
        (live_free tdir ss left (key_count + left) (omega arith) ∙ ap (λ (i : ℕ). ltb i left) last ∙ le-ltb left left (omega arith))
        (slot_key tdir ss left k kl ∙ ap slot_of (entry_here dir k got kept.0 kl) ∙ sym (slot_free dir ss free (key_count + left) (omega arith) ∙ ap (λ (i : ℕ). (get_or ss i blank).spare) last))
        others,
  )
    where
      others : (z : ℕ) → (z ≡ key_count + left → ⊥) → (z ≡ k → ⊥) → (live tdir left z ≡ live dir free z) × (slot_at tdir ss z ≡ slot_at dir ss z)
      others z a b =
          elim (cases_lt z key_count) [
            | inl h ↦ (
                let e = entry_other dir k got kept.0 kl z b in
                (live_key tdir ss left z h ∙ ap is_some e ∙ sym (live_key dir ss free z h), slot_key tdir ss left z h ∙ ap slot_of e ∙ sym (slot_key dir ss free z h)))
            | inr h ↦ (
                let t : ltb (z - key_count) left ≡ ltb (z - key_count) free = grind (arith, nat_tests) in
                (live_free tdir ss left z h ∙ t ∙ sym (live_free dir ss free z h), slot_free tdir ss left z h ∙ sym (slot_free dir ss free z h)))
          ]

  took_files : image_files tdir ss ≡ set (image_files dir ss) k (Some [])
  took_files = map-set (entry_file ss) dir k got

-- the slot of a key goes to the end of the free list
module _ (dir : List Entry) (ss : List Slot) (free : ℕ) (k : ℕ) (e : Extent) (s : Slot) (kept : Kept dir ss free) (kl : k < key_count) (held : extent_at dir k ≡ Some e)
    (spare : s.spare ≡ e.slot) (words : s.words ≡ words_at ss free) where
  abbrev cdir : List Entry
  cdir = set dir k none

  abbrev css : List Slot
  css = set ss free s

  free_in : free < length ss
  free_in = omega (arith, kept.1, held_le dir k e kept.0 kl held)

  end : key_count + free - key_count ≡ free
  end = omega arith

  same_words : (p : ℕ) → words_at css p ≡ words_at ss p
  same_words p =
      elim (cases_eq p free) [
        | inl q ↦ ap (words_at css) q ∙ ap (λ x. x.words) (get_or-set_same ss free s blank free_in) ∙ words ∙ sym (ap (words_at ss) q)
        | inr a ↦ ap (λ x. x.words) (get_or-set_other ss free p s blank a)
      ]

  pub freed_files : image_files cdir css ≡ set (image_files dir ss) k None
  freed_files = files_same ss css same_words cdir ∙ map-set (entry_file ss) dir k none

  empty_here : extent_at cdir k ≡ None
  empty_here = entry_here dir k none kept.0 kl

  pub freed_kept : Kept cdir css (free + 1)
  freed_kept = (
    length-set dir k none ∙ kept.0,
    omega (arith, kept.1, entry_sum dir k none kept.0 kl, ap extent_units held, length-set ss free s),
    entry_fits dir k none kept.0 kl css (λ j jl. fits_same ss css same_words (extent_at dir j) (kept.2 j jl)) (fits_none css),
    subst (λ (n : ℕ). Apart (live cdir (free + 1)) (slot_at cdir css) n) (sym (length-set ss free s))
        (renamed (live dir free) (live cdir (free + 1)) (slot_at dir ss) (slot_at cdir css) (length ss) k (key_count + free) kept.3
        (live_key dir ss free k kl ∙ ap is_some held)
        (live_key cdir css (free + 1) k kl ∙ ap is_some empty_here)
        (slot_free cdir css (free + 1) (key_count + free) (omega arith) ∙ ap (λ (i : ℕ). (get_or css i blank).spare) end ∙ ap (λ x. x.spare) (get_or-set_same ss free s blank free_in) ∙ spare ∙ sym (slot_key dir ss free k kl ∙ ap slot_of held))
        others),
  )
    where
      others : (z : ℕ) → (z ≡ k → ⊥) → (z ≡ key_count + free → ⊥) → (live cdir (free + 1) z ≡ live dir free z) × (slot_at cdir css z ≡ slot_at dir ss z)
      others z a b =
          elim (cases_lt z key_count) [
            | inl h ↦ (
                let q = entry_other dir k none kept.0 kl z a in
                (live_key cdir css (free + 1) z h ∙ ap is_some q ∙ sym (live_key dir ss free z h), slot_key cdir css (free + 1) z h ∙ ap slot_of q ∙ sym (slot_key dir ss free z h)))
            | inr h ↦ (
                let t : ltb (z - key_count) (free + 1) ≡ ltb (z - key_count) free = grind (arith, nat_tests) in (
                  live_free cdir css (free + 1) z h ∙ t ∙ sym (live_free dir ss free z h),
                  slot_free cdir css (free + 1) z h ∙ ap (λ x. x.spare) (get_or-set_other ss free (z - key_count) s blank (λ q. b (omega arith))) ∙ sym (slot_free dir ss free z h),
                ))
          ]

-- a map whose function changes at no other place than k
map_frame : {X Y : Type 0} (g g' : X → Y) (xs : List X) (k : ℕ) (e d : X) → ((j : ℕ) → j < length xs → (j ≡ k → ⊥) → g' (get_or xs j d) ≡ g (get_or xs j d)) → map g' (set xs k e) ≡ set (map g xs) k (g' e)
map_frame g g' [] k e d h = refl
map_frame g g' (x ∷ xs) zero e d h = ap (λ ys. g' e ∷ ys) (map_all xs (λ j l. h (suc j) (omega arith) (λ q. omega arith)))
  where
    map_all : (ys : List _) → ((j : ℕ) → j < length ys → g' (get_or ys j d) ≡ g (get_or ys j d)) → map g' ys ≡ map g ys
    map_all [] h = refl
    map_all (y ∷ ys) h = ap (λ z. z ∷ map g' ys) (h 0 (omega arith)) ∙ ap (λ zs. g y ∷ zs) (map_all ys (λ j l. h (suc j) (omega arith)))
map_frame g g' (x ∷ xs) (suc k) e d h =
    ap (λ z. z ∷ map g' (set xs k e)) (h 0 (omega arith) (λ q. omega arith))
    ∙ ap (λ zs. g x ∷ zs) (map_frame g g' xs k e d (λ j l ne. h (suc j) (omega arith) (λ q. ne (omega arith))))

-- the slot of a key gets other words
module _ (dir : List Entry) (ss : List Slot) (free : ℕ) (k p : ℕ) (s : Slot) (ws : List ℕ) (kept : Kept dir ss free) (kl : k < key_count) (held : is_some (extent_at dir k) ≡ true) (at : slot_of (extent_at dir k) ≡ p)
    (spare : s.spare ≡ (get_or ss p blank).spare) (words : take (length ws) s.words ≡ ws) (short : length ws ≤ longest) where
  abbrev new : Entry
  new = record { held = true; slot = p; len = length ws }

  abbrev wdir : List Entry
  wdir = set dir k new

  abbrev wss : List Slot
  wss = set ss p s

  slot_in : p < length ss
  slot_in = subst (λ (x : ℕ). x < length ss) (slot_key dir ss free k kl ∙ at) (kept.3.0 k (live_key dir ss free k kl ∙ held))

  apart : (j : ℕ) → j < key_count → (j ≡ k → ⊥) → (f : Extent) → extent_at dir j ≡ Some f → f.slot ≡ p → ⊥
  apart j jl ne f on q =
      ne (kept.3.1 j k (live_key dir ss free j jl ∙ ap is_some on) (live_key dir ss free k kl ∙ held) (slot_key dir ss free j jl ∙ ap slot_of on ∙ q ∙ sym (slot_key dir ss free k kl ∙ at)))

  words_here : words_at wss p ≡ s.words
  words_here = ap (λ x. x.words) (get_or-set_same ss p s blank slot_in)

  words_other : (q : ℕ) → (q ≡ p → ⊥) → words_at wss q ≡ words_at ss q
  words_other q h = ap (λ x. x.words) (get_or-set_other ss p q s blank h)

  spare_same : (i : ℕ) → (get_or wss i blank).spare ≡ (get_or ss i blank).spare
  spare_same i =
      elim (cases_eq i p) [
        | inl q ↦ ap (λ (x : ℕ). (get_or wss x blank).spare) q ∙ ap (λ x. x.spare) (get_or-set_same ss p s blank slot_in) ∙ spare ∙ sym (ap (λ (x : ℕ). (get_or ss x blank).spare) q)
        | inr a ↦ ap (λ x. x.spare) (get_or-set_other ss p i s blank a)
      ]

  file_other : (j : ℕ) → j < key_count → (j ≡ k → ⊥) → extent_file wss (extent_at dir j) ≡ extent_file ss (extent_at dir j)
  file_other j jl ne = go (extent_at dir j) refl
    where
      go : (o : Option Extent) → extent_at dir j ≡ o → extent_file wss o ≡ extent_file ss o
      go None h = refl
      go (Some f) h = ap (λ xs. Some (take f.len xs)) (words_other f.slot (apart j jl ne f h))

  wrote_files : image_files wdir wss ≡ set (image_files dir ss) k (Some ws)
  wrote_files =
      map_frame (entry_file ss) (entry_file wss) dir k new none (λ j jl ne. file_other j (omega (arith, kept.0)) ne)
      ∙ ap (λ xs. set (image_files dir ss) k (Some (take (length ws) xs))) words_here
      ∙ ap (λ xs. set (image_files dir ss) k (Some xs)) words

  new_entry : (z : ℕ) → (is_some (extent_at wdir z) ≡ is_some (extent_at dir z)) × (slot_of (extent_at wdir z) ≡ slot_of (extent_at dir z))
  new_entry z =
      elim (cases_eq z k) [
        | inl q ↦ (
            let h = ap (extent_at wdir) q ∙ entry_here dir k new kept.0 kl in
            let g = ap (extent_at dir) q in
            (ap is_some h ∙ sym (ap is_some g ∙ held), ap slot_of h ∙ sym (ap slot_of g ∙ at)))
        | inr a ↦ (let h = entry_other dir k new kept.0 kl z a in (ap is_some h, ap slot_of h))
      ]

  long_enough : length ws ≤ length (words_at wss p)
  long_enough = omega (arith, ap length words, length-take (length ws) s.words, ap length words_here)

  other_fits : (j : ℕ) → j < key_count → (j ≡ k → ⊥) → Fits wss (extent_at dir j)
  other_fits j jl ne f on = let g = kept.2 j jl f on in (g.0, subst (λ (xs : List ℕ). f.len ≤ length xs) (sym (words_other f.slot (apart j jl ne f on))) g.1)

  all_fit : (j : ℕ) → j < key_count → Fits wss (extent_at wdir j)
  all_fit j jl =
      elim (cases_eq j k) [
        | inl q ↦ subst (λ (x : Option Extent). Fits wss x) (sym (ap (extent_at wdir) q ∙ entry_here dir k new kept.0 kl)) (fits_some wss _ (short, long_enough))
        | inr a ↦ subst (λ (x : Option Extent). Fits wss x) (sym (entry_other dir k new kept.0 kl j a)) (other_fits j jl a)
      ]

  wrote_kept : Kept wdir wss free
  wrote_kept = (
    length-set dir k new ∙ kept.0,
    omega (arith, kept.1, entry_sum dir k new kept.0 kl, one_unit (extent_at dir k) held, length-set ss p s),
    all_fit,
    subst (λ (n : ℕ). Apart (live wdir free) (slot_at wdir wss) n) (sym (length-set ss p s))
        (unchanged (live dir free) (live wdir free) (slot_at dir ss) (slot_at wdir wss) (length ss) kept.3
        (λ z. ap (λ (b : Bool). cond (ltb z key_count) b (ltb (z - key_count) free)) (new_entry z).0)
        (λ z. ap (λ (q : ℕ). cond (ltb z key_count) q (get_or wss (z - key_count) blank).spare) (new_entry z).1 ∙ ap (λ (q : ℕ). cond (ltb z key_count) (slot_of (extent_at dir z)) q) (spare_same (z - key_count)))),
  )

-- a slot that the free list names is there
pub free_slot : (dir : List Entry) (ss : List Slot) (free i : ℕ) → Kept dir ss free → i < free → (get_or ss i blank).spare < length ss
free_slot dir ss free i kept il =
    let e : key_count + i - key_count ≡ i = omega arith in
    let on = live_free dir ss free (key_count + i) (omega arith) ∙ ap (λ (x : ℕ). ltb x free) e ∙ lt-ltb i free il in
    subst (λ (x : ℕ). x < length ss) (slot_free dir ss free (key_count + i) (omega arith) ∙ ap (λ (x : ℕ). (get_or ss x blank).spare) e) (kept.3.0 (key_count + i) on)

-- no slot was chosen
pub none_chosen : (ss : List Slot) (free : ℕ) (o : Option Extent) → None ≡ choice ss free o → (o ≡ None) × (free ≡ 0)
none_chosen ss free (Some e) h = absurd (none-some _ h)
none_chosen ss free None h = (refl, go (ltb 0 free) refl)
  where
    go : (b : Bool) → ltb 0 free ≡ b → free ≡ 0
    go true e = absurd (none-some _ (h ∙ cond-true _ _ _ e))
    go false e = omega (arith, ltb-false 0 free e)

-- the words go to the slot that was chosen
module _ (dir : List Entry) (ss : List Slot) (free k p left : ℕ) (kept : Kept dir ss free) (kl : k < key_count) (chosen : Some (p, left) ≡ choice ss free (extent_at dir k)) where
  -- as if the key had held the slot before
  abbrev Held : Type 0
  Held =
      (m : List Entry)
      × Kept m ss left
      × (is_some (extent_at m k) ≡ true)
      × (slot_of (extent_at m k) ≡ p)
      × ((e : Entry) → set m k e ≡ set dir k e)
      × ((f : File) → set (image_files m ss) k f ≡ set (image_files dir ss) k f)

  had : Held
  had = go (extent_at dir k) refl (sym chosen)
    where
      go : (o : Option Extent) → extent_at dir k ≡ o → choice ss free o ≡ Some (p, left) → Held
      go (Some e) on is =
          let q = some_pair_parts _ _ _ _ is in
          (dir, subst (Kept dir ss) q.1 kept, ap is_some on, ap slot_of on ∙ q.0, (λ e. refl), (λ f. refl))
      go None off is =
          let c = cond_some _ _ _ is in
          let l : free - 1 ≡ left = ap (λ x. x.1) c.1 in
          let more : left + 1 ≡ free = omega (arith, ltb-true _ _ c.0) in
          let slot : (get_or ss left blank).spare ≡ p = ap (λ (i : ℕ). (get_or ss i blank).spare) (sym l) ∙ ap (λ x. x.0) c.1 in
          let here = entry_here dir k (got dir ss free left k kept kl off more) kept.0 kl in (
            tdir dir ss free left k kept kl off more,
            took_kept dir ss free left k kept kl off more,
            ap is_some here,
            ap slot_of here ∙ slot,
            (λ e. set-set dir k _ e),
            (λ f. ap (λ fs. set fs k f) (took_files dir ss free left k kept kl off more) ∙ set-set (image_files dir ss) k (Some []) f),
          )

  module _ (s : Slot) (ws : List ℕ) (spare : s.spare ≡ (get_or ss p blank).spare) (words : take (length ws) s.words ≡ ws) (short : length ws ≤ longest) where
    abbrev ldir : List Entry
    ldir = set dir k (record { held = true; slot = p; len = length ws })

    abbrev lss : List Slot
    lss = set ss p s

    pub laid_kept : Kept ldir lss left
    laid_kept = let h = had in subst (λ (d : List Entry). Kept d lss left) (h.4 _) (wrote_kept h.0 ss left k p s ws h.1 kl h.2 h.3 spare words short)

    pub laid_files : image_files ldir lss ≡ set (image_files dir ss) k (Some ws)
    laid_files = let h = had in sym (ap (λ d. image_files d lss) (h.4 _)) ∙ wrote_files h.0 ss left k p s ws h.1 kl h.2 h.3 spare words short ∙ h.5 (Some ws)

  -- so there was room
  pub chosen_admits : (ws : List ℕ) → length ws ≤ longest → true ≡ admits 32 (length ss) (image_files dir ss) k ws
  chosen_admits ws short =
      let s : Slot = record { spare = (get_or ss p blank).spare; words = ws } in
      let words = take_all (length ws) ws (omega arith) in
      admits_yes 32 (length ss) (image_files dir ss) k ws short kl (omega (arith, room_all (set ss p s) _ left (laid_kept s ws refl words short), ap (used 32) (laid_files s ws refl words short), length-set ss p s))

-- The slot of one key becomes that of another, which was cleared: fs are the files before that.
module _ (dir : List Entry) (ss : List Slot) (free : ℕ) (fs : Files) (from to : ℕ) (kept : Kept dir ss free) (tl : to < key_count) (ne : from ≡ to → ⊥)
    (some : is_some (file_at fs from) ≡ true) (cleared : image_files dir ss ≡ set fs to None) where
  abbrev file : Entry
  file = entry_at dir from

  held : is_some (extent_of file) ≡ true
  held = sym (held_file dir ss from) ∙ ap (λ gs. is_some (file_at gs from)) cleared ∙ ap is_some (get_or-set_other fs to from None None ne) ∙ some

  empty : extent_at dir to ≡ None
  empty = none_of (extent_at dir to) (sym (held_file dir ss to) ∙ ap (λ gs. is_some (file_at gs to)) cleared ∙ ap is_some (file_gone fs to))

  fl : from < key_count
  fl = omega (arith, held_in dir from held, kept.0)

  abbrev mid : List Entry
  mid = set dir to file

  abbrev rdir : List Entry
  rdir = set mid from none

  mid_long : length mid ≡ key_count
  mid_long = length-set dir to file ∙ kept.0

  to_is : extent_at rdir to ≡ extent_of file
  to_is = entry_other mid from none mid_long fl to (λ e. ne (sym e)) ∙ entry_here dir to file kept.0 tl

  other_is : (z : ℕ) → (z ≡ from → ⊥) → (z ≡ to → ⊥) → extent_at rdir z ≡ extent_at dir z
  other_is z a b = entry_other mid from none mid_long fl z a ∙ entry_other dir to file kept.0 tl z b

  pub renamed_kept : Kept rdir ss free
  renamed_kept = (
    length-set mid from none ∙ mid_long,
    omega (arith, kept.1, entry_sum mid from none mid_long fl, entry_sum dir to file kept.0 tl, ap extent_units empty, ap extent_units (entry_other dir to file kept.0 tl from ne)),
    entry_fits mid from none mid_long fl ss (entry_fits dir to file kept.0 tl ss kept.2 (kept.2 from fl)) (fits_none ss),
    renamed (live dir free) (live rdir free) (slot_at dir ss) (slot_at rdir ss) (length ss) from to kept.3
        (live_key dir ss free from fl ∙ held)
        (live_key rdir ss free from fl ∙ ap is_some (entry_here mid from none mid_long fl))
        (slot_key rdir ss free to tl ∙ ap slot_of to_is ∙ sym (slot_key dir ss free from fl))
        (λ z a b. (
          ap (λ (e : Option Extent). cond (ltb z key_count) (is_some e) (ltb (z - key_count) free)) (other_is z a b),
          ap (λ (e : Option Extent). cond (ltb z key_count) (slot_of e) (get_or ss (z - key_count) blank).spare) (other_is z a b),
        )),
  )

  pub renamed_files : image_files rdir ss ≡ moved fs from to
  renamed_files =
      map-set (entry_file ss) mid from none
      ∙ ap (λ gs. set gs from None) (map-set (entry_file ss) dir to file ∙ ap (set (image_files dir ss) to) (sym (file_of dir ss from)))
      ∙ moved_cleared fs (image_files dir ss) from to some tl ne cleared

-- clearing an empty key
pub left_files : (dir : List Entry) (ss : List Slot) (k : ℕ) → extent_at dir k ≡ None → image_files dir ss ≡ set (image_files dir ss) k None
left_files dir ss k empty = sym (ap (set (image_files dir ss) k) (sym (file_of dir ss k ∙ ap (extent_file ss) empty)) ∙ set-get_or (image_files dir ss) k None)

module _ (dir : List Entry) (ss : List Slot) (free : ℕ) (kept : Kept dir ss free) where
  -- a put wants a slot unless the key has one
  put_units : (k : ℕ) (ws : List ℕ) → k < key_count → length ws ≤ longest → used 32 (set (image_files dir ss) k (Some ws)) + extent_units (extent_at dir k) + free ≡ length ss + 1
  put_units k ws kl short =
      omega (arith, used_set 32 (image_files dir ss) k (Some ws) (omega (arith, kept.0, length-map dir (entry_file ss))), ap (units_of 32) (file_of dir ss k), units_file ss (extent_at dir k) (kept.2 k kl), used_slots ss dir free kept)

  pub full_admits : (k : ℕ) (ws : List ℕ) → k < key_count → length ws ≤ longest → (extent_at dir k ≡ None) × (free ≡ 0) → false ≡ admits 32 (length ss) (image_files dir ss) k ws
  full_admits k ws kl short full = admits_full 32 (length ss) (image_files dir ss) k ws (omega (arith, put_units k ws kl short, ap extent_units full.0, full.1))

  -- the only part of a file is the whole of it
  module _ (k : ℕ) (kl : k < key_count) (e : Extent) (on : extent_at dir k ≡ Some e) where
    file_is : file_at (image_files dir ss) k ≡ Some (take e.len (words_at ss e.slot))
    file_is = file_of dir ss k ∙ ap (extent_file ss) on

    all_there : length (take e.len (words_at ss e.slot)) ≡ e.len
    all_there = length_file ss e (subst (λ (o : Option Extent). Fits ss o) on (kept.2 k kl))

    -- an entry tells the length of its file
    pub file_length : Some e.len ≡ length_of (file_at (image_files dir ss) k)
    file_length = sym (ap length_of file_is ∙ ap Some all_there)

    pub part_first : (at : ℕ) → at ≡ 0 → take e.len (words_at ss e.slot) ≡ take 32 (drop (at * 32) (words_of (file_at (image_files dir ss) k)))
    part_first at z =
        let y : at * 32 ≡ 0 = omega arith in
        sym (ap (λ (n : ℕ). take 32 (drop n (words_of (file_at (image_files dir ss) k)))) y
        ∙ ap (λ f. take 32 (words_of f)) file_is
        ∙ take_all 32 _ (omega (arith, all_there, kept.2 k kl e on)))

-- a new image: no key has a slot, and each slot is free
sum_none : (n : ℕ) → sum_by units (replicate n none) ≡ 0
sum_none zero = refl
sum_none (suc n) = sum_by-cons units none (replicate n none) ∙ omega (arith, sum_none n)

pub files_none : (ss : List Slot) (n : ℕ) → image_files (replicate n none) ss ≡ replicate n None
files_none ss zero = refl
files_none ss (suc n) = ap (λ fs. None ∷ fs) (files_none ss n)

module _ (ss : List Slot) (line : (i : ℕ) → i < length ss → (get_or ss i blank).spare ≡ i) where
  abbrev ndir : List Entry
  ndir = replicate key_count none

  new_at : (x : ℕ) → live ndir (length ss) x ≡ true → (key_count ≤ x) × (x - key_count < length ss) × (slot_at ndir ss x ≡ x - key_count)
  new_at x on =
      elim (cases_lt x key_count) [
        | inl h ↦ absurd (both_ways _ (live_key ndir ss (length ss) x h ∙ ap (λ e. is_some (extent_of e)) (get_or-replicate key_count x none none h)) on)
        | inr h ↦ (
            let l = ltb-true _ _ (sym (live_free ndir ss (length ss) x h) ∙ on) in
            (h, l, slot_free ndir ss (length ss) x h ∙ line (x - key_count) l))
      ]

  pub new_kept : Kept ndir ss (length ss)
  new_kept = (
    length-replicate key_count none,
    omega (arith, sum_none key_count),
    (λ k kl. subst (λ (e : Entry). Fits ss (extent_of e)) (sym (get_or-replicate key_count k none none kl)) (fits_none ss)),
    (
      (λ x on. let a = new_at x on in omega arith),
      (λ x y on no e. let a = new_at x on in let b = new_at y no in omega arith),
    ),
  )
