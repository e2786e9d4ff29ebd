-- Sets of paths, and a pass over the owned paths.
use Rattle.std.proofs.Common.{◌≡◌, ℕ, zero, suc, ◌+◌, ◌<◌, ◌≤◌, Bool, true, false, cond, ◌||◌, eqb, ltb, List, [], ◌∷◌, length, get_or, drop, replicate, is_some, Some, None, fold, Option, sym, refl, ap, ◌∙◌, subst}
use Rattle.std.proofs.lemmas.List.{at_drop_more, at_drop_all}
use Rattle.std.proofs.lemmas.Bool.{both_ways, eq-eqb, ne_eqb, or_right}
use Rattle.base.specs.declared.texts.ShortText.{ShortText}
use Rattle.table.specs.Order.{meets}
use Rattle.table.specs.Rows.{under}
use Rattle.table.proofs.Heads.{rising_parts}
use Rattle.table.proofs.Looks.{look_missing}
use Rattle.table.proofs.Meets.{meets_same, same_meets}
use Rattle.std.specs.Prelude.{Decides}
use Rattle.table.specs.Order.{by_bytes}
use Rattle.table.specs.Orders.{numbers_total, names_total}
use Rattle.table.proofs.Ranks.{under_stands}
use Rattle.status.specs.declared.rows.Owned.{Owned}
use Rattle.status.specs.Tables.{owner_of}
use Rattle.store.specs.Sides.{Sides, change}
use Rattle.steps.specs.declared.pass.Pass.{Pass}
use Rattle.steps.specs.Goods.{carried_at}
use Rattle.steps.specs.Owners.{no_path, with_path, own_sides, paths_rise}
use Rattle.package.specs.Wares.{Ware}

pub unmarked_at : (n q : ℕ) → get_or (replicate n false) q false ≡ false
unmarked_at zero q = refl
unmarked_at (suc n) zero = refl
unmarked_at (suc n) (suc q) = unmarked_at n q

-- the paths of files: at the start, one file more, and at the end
pub paths_start : (q : ℕ) (xs : List Ware) (m : ℕ → Bool) → m ≡ no_path → (is_some (carried_at q xs) || m q) ≡ is_some (carried_at q xs)
paths_start q xs m z = ap (λ (n : ℕ → Bool). is_some (carried_at q xs) || n q) z ∙ go (is_some (carried_at q xs))
  where
    go : (t : Bool) → (t || false) ≡ t
    go true = refl
    go false = refl

pub paths_turn : (q : ℕ) (x : Ware) (xs ys : List Ware) (m m₁ : ℕ → Bool) → ys ≡ x ∷ xs → m₁ ≡ with_path x.path m
    → (is_some (carried_at q xs) || m₁ q) ≡ (is_some (carried_at q ys) || m q)
paths_turn q x xs ys m m₁ e a =
    ap (λ (n : ℕ → Bool). is_some (carried_at q xs) || n q) a ∙ go (eqb q x.path)
    ∙ sym (ap (λ (zs : List Ware). is_some (carried_at q zs) || m q) e)
  where
    go : (t : Bool) → (is_some (carried_at q xs) || cond t true (m q)) ≡ (is_some (cond t (Some x) (carried_at q xs)) || m q)
    go true = or_right (is_some (carried_at q xs)) true refl
    go false = refl

pub paths_end : (q : ℕ) (ys : List Ware) (m : ℕ → Bool) → ys ≡ [] → m q ≡ (is_some (carried_at q ys) || m q)
paths_end q ys m e = sym (ap (λ (zs : List Ware). is_some (carried_at q zs) || m q) e)

-- one owner more
abbrev pub own_step : Pass → ShortText → (ℕ → Bool) → (ℕ → Sides) → Owned → ℕ → Sides
own_step pass n except f o = change o.path (own_sides n (except o.path) pass (Some o)) f

-- a loop that folds a step over a list
module _ {X Y : Type 0} (step : Y → X → Y) (xs : List X) (i : ℕ) where
  pub fold_turn : (d : X) (y y' : Y) → i < length xs → y' ≡ step y (get_or xs i d) → fold step y' (drop (i + 1) xs) ≡ fold step y (drop i xs)
  fold_turn d y y' lt e = ap (λ (z : Y). fold step z (drop (i + 1) xs)) e ∙ sym (at_drop_more (fold step y) xs i d lt)

  pub fold_end : (y : Y) → length xs ≤ i → fold step y (drop i xs) ≡ y
  fold_end y le = at_drop_all (fold step y) xs i le

-- a path below those of all owners has none
unowned : (p : ℕ) (os : List Owned) → under ltb (λ (o : Owned). o.path) p os ≡ true → owner_of p os ≡ None
unowned p os u =
    look_missing numbers_total (λ (o : Owned). o.path) p os
    (λ i s. both_ways (ltb p p) (numbers_total.never p) (under_stands numbers_total (λ (o : Owned). o.path) p p os i u s))

-- what the pass over all owners leaves at a path
pub own_closed : (pass : Pass) (n : ShortText) (except : ℕ → Bool) (os : List Owned) (f : ℕ → Sides) → paths_rise os ≡ true
    → (q : ℕ) → fold (own_step pass n except) f os q ≡ own_sides n (except q) pass (owner_of q os) (f q)
own_closed pass n except [] f r q = refl
own_closed pass n except (o ∷ os) f r q =
    let p = rising_parts ltb (λ (o : Owned). o.path) o os r in
    own_closed pass n except os (own_step pass n except f o) p.1 q ∙ go (meets ltb o.path q) refl p.0
  where
    go : (b : Bool) → meets ltb o.path q ≡ b → under ltb (λ (o : Owned). o.path) o.path os ≡ true
        → own_sides n (except q) pass (owner_of q os) (own_step pass n except f o q) ≡ own_sides n (except q) pass (cond b (Some o) (owner_of q os)) (f q)
    go true e u =
        let s : o.path ≡ q = meets_same numbers_total o.path q e in
        let z : owner_of q os ≡ None = subst (λ (p : ℕ). owner_of p os ≡ None) s (unowned o.path os u) in
        ap (λ (v : Option Owned). own_sides n (except q) pass v (own_step pass n except f o q)) z
        ∙ ap (λ (t : Bool). cond t (own_sides n (except o.path) pass (Some o) (f q)) (f q)) (eq-eqb q o.path (sym s))
        ∙ ap (λ (p : ℕ). own_sides n (except p) pass (Some o) (f q)) s
    go false e u =
        ap (λ (t : Bool). own_sides n (except q) pass (owner_of q os) (cond t (own_sides n (except o.path) pass (Some o) (f q)) (f q)))
        (ne_eqb q o.path (λ s. both_ways (meets ltb o.path q) e (same_meets numbers_total o.path q (sym s))))

pub names_meet : (a b : ShortText) → Decides (meets by_bytes a b) (a ≡ b)
names_meet a b = (meets_same names_total a b, same_meets names_total a b)
