-- Laying and unwinding, one file more.
use Rattle.std.proofs.Common.{◌≡◌, ℕ, zero, suc, ◌+◌, ◌<◌, ◌≤◌, Bool, true, false, List, [], ◌∷◌, take, sym, refl, ap, ◌∙◌, arith}
use mir.Val.{bool_byte}
use Rattle.std.proofs.lemmas.Bool.{cond-true, cond-false}
use Rattle.store.specs.Sides.{Sides, change}
use Rattle.steps.specs.declared.pass.Unwind.{Unwind}
use Rattle.steps.specs.Steps.{in_way, set_aside, laid, room_for, lay_step}
use Rattle.package.specs.Wares.{Ware}
use Rattle.steps.specs.Wares.{Tally, one_if, more, lay_all, unwound, unwind_all}

pub lay_none : (b u : ℕ) (ys : List Ware) (f : ℕ → Sides) → ys ≡ [] → lay_all b u ys f ≡ (record { all = true; touched = 0; aside = 0 }, f)
lay_none b u ys f e = ap (λ (zs : List Ware). lay_all b u zs f) e

module _ (b u : ℕ) (x : Ware) (xs ys : List Ware) (f f₁ : ℕ → Sides) (t a : Bool) (n : ℕ) (e : ys ≡ x ∷ xs)
    (et : t ≡ room_for b u x.kind x.path x.words f) (ef : f₁ ≡ change x.path (lay_step t x.kind x.words) f)
    (ea : a ≡ in_way x.kind (f x.path)) (en : n ≡ one_if a) where
  pub lay_stop : t ≡ false → lay_all b u ys f ≡ (record { all = false; touched = 1; aside = n }, f₁)
  lay_stop z =
      let g : f₁ ≡ change x.path (set_aside x.kind) f = ef ∙ ap (λ (s : Bool). change x.path (lay_step s x.kind x.words) f) z in
      let m : one_if (in_way x.kind (f x.path)) ≡ n = sym (en ∙ ap one_if ea) in
      ap (λ (zs : List Ware). lay_all b u zs f) e ∙ cond-false _ _ _ (sym et ∙ z)
      ∙ ap (λ (k : ℕ). (record { all = false; touched = 1; aside = k }, change x.path (set_aside x.kind) f)) m
      ∙ ap (λ (h : ℕ → Sides). (record { all = false; touched = 1; aside = n }, h)) (sym g)

  pub lay_more : (u₁ : ℕ) (r : Tally) (f₂ : ℕ → Sides) → t ≡ true → u₁ ≡ u → lay_all b u₁ xs f₁ ≡ (r, f₂)
      → lay_all b u ys f ≡ (record { all = r.all; touched = r.touched + 1; aside = r.aside + n }, f₂)
  lay_more u₁ r f₂ z eu q =
      let g : f₁ ≡ change x.path (laid x.kind x.words) f = ef ∙ ap (λ (s : Bool). change x.path (lay_step s x.kind x.words) f) z in
      let m : one_if (in_way x.kind (f x.path)) ≡ n = sym (en ∙ ap one_if ea) in
      let w : lay_all b u xs (change x.path (laid x.kind x.words) f) ≡ (r, f₂) = ap (lay_all b u xs) (sym g) ∙ ap (λ (k : ℕ). lay_all b k xs f₁) (sym eu) ∙ q in
      ap (λ (zs : List Ware). lay_all b u zs f) e ∙ cond-true _ _ _ (sym et ∙ z)
      ∙ ap (λ (p : Tally × (ℕ → Sides)). (more (in_way x.kind (f x.path)) p.0, p.1)) w
      ∙ ap (λ (k : ℕ). (record { all = r.all; touched = r.touched + 1; aside = r.aside + k }, f₂)) m

byte_one : (t : Bool) → bool_byte t ≡ one_if t
byte_one true = refl
byte_one false = refl

pub byte_small : (t : Bool) → bool_byte t ≤ 1
byte_small true = omega arith
byte_small false = omega arith

-- what laying the rest comes to, behind so many files and so many set aside
abbrev pub onto : ℕ → ℕ → Tally × (ℕ → Sides) → Tally × (ℕ → Sides)
onto touched aside r = (record { all = r.0.all; touched = touched + r.0.touched; aside = aside + r.0.aside }, r.1)

-- one file more, behind so many
module _ (b u t a : ℕ) (x : Ware) (xs ys : List Ware) (f f₁ : ℕ → Sides) (took aside : Bool) (e : ys ≡ x ∷ xs)
    (et : took ≡ room_for b u x.kind x.path x.words f) (ef : f₁ ≡ change x.path (lay_step took x.kind x.words) f)
    (ea : aside ≡ in_way x.kind (f x.path)) where
  pub turn_stop : took ≡ false → onto t a (lay_all b u ys f) ≡ (record { all = false; touched = t + 1; aside = a + bool_byte aside }, f₁)
  turn_stop z = ap (onto t a) (lay_stop b u x xs ys f f₁ took aside (bool_byte aside) e et ef ea (byte_one aside) z)

  pub turn_on : took ≡ true → onto t a (lay_all b u ys f) ≡ onto (t + 1) (a + bool_byte aside) (lay_all b u xs f₁)
  turn_on z =
      let r = (lay_all b u xs f₁).0 in
      let h = (lay_all b u xs f₁).1 in
      let n : t + (r.touched + 1) ≡ t + 1 + r.touched = omega arith in
      let m : a + (r.aside + bool_byte aside) ≡ a + bool_byte aside + r.aside = omega arith in
      ap (onto t a) (lay_more b u x xs ys f f₁ took aside (bool_byte aside) e et ef ea (byte_one aside) u r h z refl refl)
      ∙ (λ i. (record { all = r.all; touched = n i; aside = m i }, h))

pub turn_end : (b u t a : ℕ) (ys : List Ware) (f : ℕ → Sides) → ys ≡ [] → onto t a (lay_all b u ys f) ≡ (record { all = true; touched = t; aside = a }, f)
turn_end b u t a ys f e =
    let n : t + 0 ≡ t = omega arith in
    let m : a + 0 ≡ a = omega arith in
    ap (λ (zs : List Ware). onto t a (lay_all b u zs f)) e ∙ (λ i. (record { all = true; touched = n i; aside = m i }, f))

-- unwinding, one file more, and at the end
pub unwind_turn : (how : Unwind) (n left : ℕ) (x : Ware) (xs ys : List Ware) (f f₁ : ℕ → Sides) → ys ≡ x ∷ xs → n + 1 ≡ left → f₁ ≡ change x.path (unwound how x.kind) f
    → unwind_all how (take n xs) f₁ ≡ unwind_all how (take left ys) f
unwind_turn how n left x xs ys f f₁ e q d =
    let m : suc n ≡ left = omega arith in
    ap (unwind_all how (take n xs)) d ∙ ap (λ (zs : List Ware). unwind_all how (take (suc n) zs) f) (sym e) ∙ ap (λ (k : ℕ). unwind_all how (take k ys) f) m

pub unwind_end : (how : Unwind) (left : ℕ) (ys : List Ware) (f : ℕ → Sides) → (0 < left → ys ≡ []) → f ≡ unwind_all how (take left ys) f
unwind_end how zero ys f h = refl
unwind_end how (suc n) ys f h = ap (λ (zs : List Ware). unwind_all how (take (suc n) zs) f) (sym (h (omega arith)))
