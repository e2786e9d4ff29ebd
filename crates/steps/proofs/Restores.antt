-- Putting back gives what was found.
use Rattle.std.proofs.Common.{◌≡◌, ℕ, zero, suc, ◌+◌, Bool, true, false, cond, eqb, List, [], ◌∷◌, take, Some, None, sym, refl, ap, ◌∙◌, subst, arith}
use mathlib.Core.Path.{fun_ext}
use Rattle.std.specs.List.{AllByRecursion}
use Rattle.std.proofs.lemmas.Bool.{eqb-true, eqb-false, cond-false}
use Rattle.base.specs.declared.files.FileKind.{FileKind}
use Rattle.base.specs.declared.files.FileKind.TheVariants.{Plain, Conffile}
use Rattle.store.specs.Files.{File}
use Rattle.store.specs.Sides.{Sides, side_of, change}
use Rattle.steps.specs.declared.pass.Unwind.{Unwind}
use Rattle.steps.specs.declared.pass.Unwind.TheVariants.{PutBack}
use Rattle.steps.specs.Steps.{refuge, in_way, set_aside, laid, room_for, put_back}
use Rattle.package.specs.Wares.{Ware}
use Rattle.steps.specs.Wares.{Tally, one_if, more, lay_all, unwound, unwind_all, Distinct, Clean}

-- at one path
abbrev over : FileKind → Sides → File → File → Sides
over Plain x a b = record { place = a; aside = b; pending = x.pending; pending_aside = x.pending_aside }
over Conffile x a b = record { place = x.place; aside = x.aside; pending = a; pending_aside = b }

back_aside : (kind : FileKind) (x : Sides) → side_of (refuge kind) x ≡ None → put_back kind (set_aside kind x) ≡ x
back_aside Plain x e = subst (λ (b : File). put_back Plain (set_aside Plain (over Plain x x.place b)) ≡ over Plain x x.place b) (sym e) (go x.place)
  where
    go : (a : File) → put_back Plain (set_aside Plain (over Plain x a None)) ≡ over Plain x a None
    go None = refl
    go (Some ws) = refl
back_aside Conffile x e = subst (λ (b : File). put_back Conffile (set_aside Conffile (over Conffile x x.pending b)) ≡ over Conffile x x.pending b) (sym e) (go x.pending)
  where
    go : (a : File) → put_back Conffile (set_aside Conffile (over Conffile x a None)) ≡ over Conffile x a None
    go None = refl
    go (Some ws) = refl

-- putting back takes no heed of what was laid
back_laid : (kind : FileKind) (words : List ℕ) (x : Sides) → side_of (refuge kind) x ≡ None → put_back kind (laid kind words x) ≡ x
back_laid Plain words x e = back_aside Plain x e
back_laid Conffile words x e = back_aside Conffile x e

undone : (p : ℕ) (g h : Sides → Sides) (f : ℕ → Sides) → g (h (f p)) ≡ f p → change p g (change p h f) ≡ f
undone p g h f e = fun_ext (λ q. go q (eqb q p) refl)
  where
    go : (q : ℕ) (b : Bool) → eqb q p ≡ b → cond b (g (cond b (h (f q)) (f q))) (cond b (h (f q)) (f q)) ≡ f q
    go q true t = subst (λ (z : ℕ). g (h (f z)) ≡ f z) (sym (eqb-true q p t)) e
    go q false t = refl

-- changes of two paths come in any order
either : (p q : ℕ) (g h : Sides → Sides) (f : ℕ → Sides) → eqb q p ≡ false → change q h (change p g f) ≡ change p g (change q h f)
either p q g h f n = fun_ext (λ r. go r (eqb r p) (eqb r q) refl refl)
  where
    go : (r : ℕ) (a b : Bool) → eqb r p ≡ a → eqb r q ≡ b → cond b (h (cond a (g (f r)) (f r))) (cond a (g (f r)) (f r)) ≡ cond a (g (cond b (h (f r)) (f r))) (cond b (h (f r)) (f r))
    go r true true s t = absurd (eqb-false q p n (sym (eqb-true r q t) ∙ eqb-true r p s))
    go r true false s t = refl
    go r false true s t = refl
    go r false false s t = refl

abbrev pub Apart : ℕ → List Ware → Type 0
Apart p ys = AllByRecursion (λ y. eqb y.path p ≡ false) ys

apart_front : (p n : ℕ) (ys : List Ware) → Apart p ys → Apart p (take n ys)
apart_front p zero ys a = tt
apart_front p (suc n) [] a = tt
apart_front p (suc n) (y ∷ ys) a = (a.0, apart_front p n ys a.1)

past : (how : Unwind) (p : ℕ) (g : Sides → Sides) (ys : List Ware) (f : ℕ → Sides) → Apart p ys → unwind_all how ys (change p g f) ≡ change p g (unwind_all how ys f)
past how p g [] f a = refl
past how p g (y ∷ ys) f a =
    ap (unwind_all how ys) (either p y.path g (unwound how y.kind) f a.0) ∙ past how p g ys (change y.path (unwound how y.kind) f) a.1

still_clean : (p : ℕ) (g : Sides → Sides) (ys : List Ware) (f : ℕ → Sides) → Apart p ys → Clean ys f → Clean ys (change p g f)
still_clean p g [] f a c = tt
still_clean p g (y ∷ ys) f a c =
    (ap (λ (x : Sides). side_of (refuge y.kind) x) (cond-false (eqb y.path p) (g (f y.path)) (f y.path) a.0) ∙ c.0, still_clean p g ys f a.1 c.1)

-- one file is laid, and the others behind it if the store took it
abbrev pub over_it : Ware → (ℕ → Sides) → ℕ → Sides
over_it x f = change x.path (laid x.kind x.words) f

abbrev pub outcome : ℕ → ℕ → Ware → List Ware → (ℕ → Sides) → Bool → Tally × (ℕ → Sides)
outcome b u x xs f t =
    cond t (more (in_way x.kind (f x.path)) (lay_all b u xs (over_it x f)).0, (lay_all b u xs (over_it x f)).1)
    (record { all = false; touched = 1; aside = one_if (in_way x.kind (f x.path)) }, change x.path (set_aside x.kind) f)

-- one file more
module _ (b u : ℕ) (x : Ware) (xs : List Ware) (f : ℕ → Sides) (a : Apart x.path xs) (e : side_of (refuge x.kind) (f x.path) ≡ None) where
  went_on : unwind_all PutBack (take (lay_all b u xs (over_it x f)).0.touched xs) (lay_all b u xs (over_it x f)).1 ≡ over_it x f
      → unwind_all PutBack (take ((lay_all b u xs (over_it x f)).0.touched + 1) (x ∷ xs)) (lay_all b u xs (over_it x f)).1 ≡ f
  went_on rest =
      let n = (lay_all b u xs (over_it x f)).0.touched in
      let q : (lay_all b u xs (over_it x f)).0.touched + 1 ≡ suc (lay_all b u xs (over_it x f)).0.touched = omega arith in
      ap (λ (m : ℕ). unwind_all PutBack (take m (x ∷ xs)) (lay_all b u xs (over_it x f)).1) q
      ∙ past PutBack x.path (put_back x.kind) (take n xs) (lay_all b u xs (over_it x f)).1 (apart_front x.path n xs a)
      ∙ ap (change x.path (put_back x.kind)) rest
      ∙ undone x.path (put_back x.kind) (laid x.kind x.words) f (back_laid x.kind x.words (f x.path) e)

  either_way : unwind_all PutBack (take (lay_all b u xs (over_it x f)).0.touched xs) (lay_all b u xs (over_it x f)).1 ≡ over_it x f
      → (t : Bool) → unwind_all PutBack (take (outcome b u x xs f t).0.touched (x ∷ xs)) (outcome b u x xs f t).1 ≡ f
  either_way rest true = went_on rest
  either_way rest false = undone x.path (put_back x.kind) (set_aside x.kind) f (back_aside x.kind (f x.path) e)

module _ (b u : ℕ) where
  pub restored : (xs : List Ware) (f : ℕ → Sides) → Distinct xs → Clean xs f → unwind_all PutBack (take (lay_all b u xs f).0.touched xs) (lay_all b u xs f).1 ≡ f
  restored [] f d c = refl
  restored (x ∷ xs) f d c =
      either_way b u x xs f d.0 c.0
      (restored xs (change x.path (laid x.kind x.words) f) d.1 (still_clean x.path (laid x.kind x.words) xs f d.0 c.1))
      (room_for b u x.kind x.path x.words f)

  pub came_back : (xs : List Ware) (f g h : ℕ → Sides) (n : ℕ) → ((lay_all b u xs f).0.touched ≡ n) → (lay_all b u xs f).1 ≡ g → Distinct xs → Clean xs f → h ≡ unwind_all PutBack (take n xs) g → h ≡ f
  came_back xs f g h n en eg d c e =
      e ∙ ap (λ (m : ℕ). unwind_all PutBack (take m xs) g) (sym en) ∙ ap (unwind_all PutBack (take (lay_all b u xs f).0.touched xs)) (sym eg) ∙ restored xs f d c
