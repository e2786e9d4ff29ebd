-- What laying and unwinding all files of a package leaves, path by path.
use Rattle.std.proofs.Common.{◌≡◌, ℕ, suc, ◌+◌, Bool, true, false, cond, eqb, List, [], ◌∷◌, take, Some, None, Option, sym, refl, ap, ◌∙◌, arith}
use Rattle.std.proofs.lemmas.Bool.{eqb-true, eqb-false, ne_eqb, cond-false, false≢true}
use Rattle.store.specs.Sides.{Sides, change}
use Rattle.steps.specs.declared.pass.Unwind.{Unwind}
use Rattle.steps.specs.Steps.{room_for}
use Rattle.package.specs.Wares.{Ware}
use Rattle.steps.specs.Wares.{lay_all, unwound, unwind_all, Distinct}
use Rattle.steps.specs.Goods.{carried_at, laid_at, unwound_at}
use Rattle.steps.proofs.Restores.{Apart, over_it, outcome}

-- where all files are laid, each was touched
pub all_touched : (b u : ℕ) (xs : List Ware) (f : ℕ → Sides) → (lay_all b u xs f).0.all ≡ true → take (lay_all b u xs f).0.touched xs ≡ xs
all_touched b u [] f = λ h. refl
all_touched b u (x ∷ xs) f = go (room_for b u x.kind x.path x.words f) (all_touched b u xs (over_it x f))
  where
    go : (t : Bool) → ((lay_all b u xs (over_it x f)).0.all ≡ true → take (lay_all b u xs (over_it x f)).0.touched xs ≡ xs)
        → (outcome b u x xs f t).0.all ≡ true → take (outcome b u x xs f t).0.touched (x ∷ xs) ≡ x ∷ xs
    go true ih h =
        let n = (lay_all b u xs (over_it x f)).0.touched in
        let q : (lay_all b u xs (over_it x f)).0.touched + 1 ≡ suc (lay_all b u xs (over_it x f)).0.touched = omega arith in
        ap (λ (m : ℕ). take m (x ∷ xs)) q ∙ ap (λ (ys : List Ware). x ∷ ys) (ih h)
    go false ih h = absurd (false≢true h)

apart_none : (q p : ℕ) (xs : List Ware) → eqb q p ≡ true → Apart p xs → carried_at q xs ≡ None
apart_none q p [] e a = refl
apart_none q p (x ∷ xs) e a =
    cond-false (eqb q x.path) (Some x) (carried_at q xs)
    (ne_eqb q x.path (λ s. eqb-false x.path p a.0 (sym s ∙ eqb-true q p e)))
    ∙ apart_none q p xs e a.1

-- one file more, whatever is done with each
module _ (act : Option Ware → Sides → Sides) (rests : (s : Sides) → act None s ≡ s) (q : ℕ) (x : Ware) (xs : List Ware) (f : ℕ → Sides) (apart : Apart x.path xs) where
  one_more : act (carried_at q xs) (change x.path (act (Some x)) f q) ≡ act (carried_at q (x ∷ xs)) (f q)
  one_more = go (eqb q x.path) refl
    where
      go : (b : Bool) → eqb q x.path ≡ b → act (carried_at q xs) (cond b (act (Some x) (f q)) (f q)) ≡ act (cond b (Some x) (carried_at q xs)) (f q)
      go true e =
          ap (λ (o : Option Ware). act o (act (Some x) (f q))) (apart_none q x.path xs e apart) ∙ rests (act (Some x) (f q))
      go false e = refl

pub laid_closed : (b u : ℕ) (xs : List Ware) (f : ℕ → Sides) → Distinct xs → (lay_all b u xs f).0.all ≡ true → (q : ℕ) → (lay_all b u xs f).1 q ≡ laid_at (carried_at q xs) (f q)
laid_closed b u [] f d = λ h q. refl
laid_closed b u (x ∷ xs) f d = go (room_for b u x.kind x.path x.words f) (laid_closed b u xs (over_it x f) d.1)
  where
    go : (t : Bool) → ((lay_all b u xs (over_it x f)).0.all ≡ true → (q : ℕ) → (lay_all b u xs (over_it x f)).1 q ≡ laid_at (carried_at q xs) (over_it x f q))
        → (outcome b u x xs f t).0.all ≡ true → (q : ℕ) → (outcome b u x xs f t).1 q ≡ laid_at (carried_at q (x ∷ xs)) (f q)
    go true ih h q = ih h q ∙ one_more laid_at (λ s. refl) q x xs f d.0
    go false ih h q = absurd (false≢true h)

pub unwind_closed : (how : Unwind) (xs : List Ware) (f : ℕ → Sides) → Distinct xs → (q : ℕ) → unwind_all how xs f q ≡ unwound_at how (carried_at q xs) (f q)
unwind_closed how [] f d q = refl
unwind_closed how (x ∷ xs) f d q =
    unwind_closed how xs (change x.path (unwound how x.kind) f) d.1 q ∙ one_more (unwound_at how) (λ s. refl) q x xs f d.0
