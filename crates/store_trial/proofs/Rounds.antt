-- What a list of changes comes to, path by path.
use Rattle.std.proofs.Common.{◌≡◌, ℕ, zero, suc, ◌+◌, ◌<◌, ◌≤◌, Bool, true, false, cond, not, ◌||◌, eqb, List, [], ◌∷◌, length, get_or, take, Some, None, sym, refl, ap, ◌∙◌, subst, arith}
use mathlib.Core.Path.{fun_ext}
use Rattle.std.proofs.lemmas.List.{take_all}
use Rattle.std.proofs.lemmas.List.Sums.{fold_more}
use Rattle.std.proofs.lemmas.Bool.{eqb-true, and_parts, not-true, or_parts, cond-true, cond-false}
use Rattle.store.specs.Files.{File}
use Rattle.store.specs.Sides.{Sides, with_side, carried, change}
use Rattle.store.specs.declared.side.Side.TheVariants.{Place, Aside}
use Rattle.store_trial.specs.Passes.{passed, over_all, member, distinct, replaced}
use Rattle.store_trial.specs.declared.pass.Pass.TheVariants.{SetAside, PutBack}

-- two changes of one path are one
twice : (p : ℕ) (g h : Sides → Sides) (f : ℕ → Sides) → change p g (change p h f) ≡ change p (λ x. g (h x)) f
twice p g h f = fun_ext (λ q. go q (eqb q p))
  where
    go : (q : ℕ) (b : Bool) → cond b (g (cond b (h (f q)) (f q))) (cond b (h (f q)) (f q)) ≡ cond b (g (h (f q))) (f q)
    go q true = refl
    go q false = refl

pub back_one : (p : ℕ) (f h k : ℕ → Sides) → h ≡ change p (with_side Place None) f → k ≡ change p (carried Aside Place) h → k ≡ change p (passed PutBack) f
back_one p f h k a b = b ∙ ap (change p (carried Aside Place)) a ∙ twice p (carried Aside Place) (with_side Place None) f

-- one path more
pub over_more : (g : Sides → Sides) (ps : List ℕ) (i : ℕ) (f h : ℕ → Sides) → i < length ps → h ≡ over_all g (take i ps) f → change (get_or ps i 0) g h ≡ over_all g (take (i + 1) ps) f
over_more g ps i f h l e = ap (change (get_or ps i 0) g) e ∙ sym (fold_more (λ (k : ℕ → Sides) (p : ℕ). change p g k) f ps i 0 l)

pub over_whole : (g : Sides → Sides) (ps : List ℕ) (i : ℕ) (f h : ℕ → Sides) → length ps ≤ i → h ≡ over_all g (take i ps) f → h ≡ over_all g ps f
over_whole g ps i f h l e = e ∙ ap (λ qs. over_all g qs f) (take_all i ps l)

-- a path that is not in the list stays
untouched : (g : Sides → Sides) (ps : List ℕ) (f : ℕ → Sides) (q : ℕ) → member q ps ≡ false → over_all g ps f q ≡ f q
untouched g [] f q h = refl
untouched g (p ∷ ps) f q h =
    let m = or_parts (eqb q p) (member q ps) h in
    untouched g ps (change p g f) q m.1 ∙ cond-false (eqb q p) (g (f q)) (f q) m.0

-- and one that is in it once changes once
each : (g : Sides → Sides) (ps : List ℕ) (f : ℕ → Sides) (q : ℕ) → distinct ps ≡ true → over_all g ps f q ≡ cond (member q ps) (g (f q)) (f q)
each g [] f q d = refl
each g (p ∷ ps) f q d =
    let m = and_parts (not (member p ps)) (distinct ps) d in
    go m.0 (each g ps (change p g f) q m.1) (eqb q p) refl
  where
    go : not (member p ps) ≡ true → over_all g ps (change p g f) q ≡ cond (member q ps) (g (change p g f q)) (change p g f q) → (b : Bool) → eqb q p ≡ b → over_all g ps (change p g f) q ≡ cond (b || member q ps) (g (f q)) (f q)
    go n rest true e = untouched g ps (change p g f) q (ap (λ (x : ℕ). member x ps) (eqb-true q p e) ∙ not-true _ n) ∙ cond-true (eqb q p) (g (f q)) (f q) e
    go n rest false e = rest ∙ ap (λ x. cond (member q ps) (g x) x) (cond-false (eqb q p) (g (f q)) (f q) e)

not_in_front : (q : ℕ) (ps : List ℕ) (n : ℕ) → member q ps ≡ false → member q (take n ps) ≡ false
not_in_front q ps zero h = refl
not_in_front q [] (suc n) h = refl
not_in_front q (p ∷ ps) (suc n) h =
    let m = or_parts (eqb q p) (member q ps) h in
    ap (λ (b : Bool). b || member q (take n ps)) m.0 ∙ not_in_front q ps n m.1

-- putting back takes no heed of what was put
heedless : (ws ps : List ℕ) (f : ℕ → Sides) (q : ℕ) → passed PutBack (over_all (with_side Place (Some ws)) ps f q) ≡ passed PutBack (f q)
heedless ws [] f q = refl
heedless ws (p ∷ ps) f q = heedless ws ps (change p (with_side Place (Some ws)) f) q ∙ go (eqb q p)
  where
    go : (b : Bool) → passed PutBack (cond b (with_side Place (Some ws) (f q)) (f q)) ≡ passed PutBack (f q)
    go true = refl
    go false = refl

-- what was set aside comes back
abbrev over : Sides → File → File → Sides
over x a b = record { place = a; aside = b; pending = x.pending; pending_aside = x.pending_aside }

back : (x : Sides) → x.aside ≡ None → passed PutBack (passed SetAside x) ≡ x
back x e = subst (λ (a : File). passed PutBack (passed SetAside (over x x.place a)) ≡ over x x.place a) (sym e) (go x.place)
  where
    go : (f : File) → passed PutBack (passed SetAside (over x f None)) ≡ over x f None
    go None = refl
    go (Some ws) = refl

module _ (ws ps : List ℕ) (f : ℕ → Sides) (d : distinct ps ≡ true) where
  is_replaced : (q : ℕ) → over_all (with_side Place (Some ws)) ps (over_all (passed SetAside) ps f) q ≡ replaced ws ps f q
  is_replaced q = each (with_side Place (Some ws)) ps (over_all (passed SetAside) ps f) q d ∙ ap (λ x. cond (member q ps) (with_side Place (Some ws) x) x) (each (passed SetAside) ps f q d) ∙ go (member q ps)
    where
      go : (b : Bool) → cond b (with_side Place (Some ws) (cond b (passed SetAside (f q)) (f q))) (cond b (passed SetAside (f q)) (f q)) ≡ cond b (with_side Place (Some ws) (carried Place Aside (f q))) (f q)
      go true = refl
      go false = refl

  as_found : (n : ℕ) → ((p : ℕ) → member p ps ≡ true → (f p).aside ≡ None) → (q : ℕ) → over_all (passed PutBack) ps (over_all (with_side Place (Some ws)) (take n ps) (over_all (passed SetAside) ps f)) q ≡ f q
  as_found n empty q =
      each (passed PutBack) ps (over_all (with_side Place (Some ws)) (take n ps) (over_all (passed SetAside) ps f)) q d ∙ go (member q ps) refl
    where
      go : (b : Bool) → member q ps ≡ b → cond b (passed PutBack (over_all (with_side Place (Some ws)) (take n ps) (over_all (passed SetAside) ps f) q)) (over_all (with_side Place (Some ws)) (take n ps) (over_all (passed SetAside) ps f) q) ≡ f q
      go true m =
          heedless ws (take n ps) (over_all (passed SetAside) ps f) q
          ∙ ap (passed PutBack) (each (passed SetAside) ps f q d ∙ cond-true (member q ps) (passed SetAside (f q)) (f q) m)
          ∙ back (f q) (empty q m)
      go false m = untouched (with_side Place (Some ws)) (take n ps) (over_all (passed SetAside) ps f) q (not_in_front q ps n m) ∙ untouched (passed SetAside) ps f q m

  pub all_replaced : (n : ℕ) (h k : ℕ → Sides) → n ≡ length ps → h ≡ over_all (passed SetAside) ps f → k ≡ over_all (with_side Place (Some ws)) (take n ps) h → (q : ℕ) → k q ≡ replaced ws ps f q
  all_replaced n h k e a b q = ap (λ (z : ℕ → Sides). z q) (over_whole (with_side Place (Some ws)) ps n h k (omega arith) b ∙ ap (over_all (with_side Place (Some ws)) ps) a) ∙ is_replaced q

  pub all_found : (n : ℕ) (h k l : ℕ → Sides) → h ≡ over_all (passed SetAside) ps f → k ≡ over_all (with_side Place (Some ws)) (take n ps) h → l ≡ over_all (passed PutBack) ps k → ((p : ℕ) → member p ps ≡ true → (f p).aside ≡ None) → (q : ℕ) → l q ≡ f q
  all_found n h k l a b c empty q =
      ap (λ (z : ℕ → Sides). z q) (c ∙ ap (over_all (passed PutBack) ps) (b ∙ ap (over_all (with_side Place (Some ws)) (take n ps)) a)) ∙ as_found n empty q
