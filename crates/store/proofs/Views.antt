-- A change of one key is a change of one side of its path, and the sides of all paths are all that a store holds.
use Rattle.std.proofs.Common.{◌≡◌, ℕ, zero, suc, ◌+◌, ◌*◌, ◌/◌, ◌%◌, ◌<◌, Bool, true, false, cond, not, ◌&&◌, eqb, leb, List, length, set, is_some, Some, None, sym, refl, ap, ◌∙◌, arith}
use mathlib.Core.Path.{fun_ext}
use Rattle.std.proofs.lemmas.List.FromFn.{fill_by_all}
use Rattle.std.proofs.lemmas.List.{get_or-set_same, get_or-set_other, length-set}
use Rattle.std.proofs.lemmas.Bool.{eqb-true, eqb-false, lt-ltb}
use Rattle.std.proofs.lemmas.Bool.Decides.{nat_tests}
use Rattle.store.specs.Files.{File, Files, side_count, path_count, key_count, longest, file_at, used, admits, moved}
use Rattle.store.specs.Sides.{side_no, key_of, same_side, Sides, side_of, sides_at, with_side, carried, change, side_in, listed, admits_side}
use Rattle.store.specs.declared.side.Side.{Side}
use Rattle.store.specs.declared.side.Side.TheVariants.{Place, Aside, Pending, PendingAside}

pub side_low : (s : Side) → side_no s < side_count
side_low Place = omega arith
side_low Aside = omega arith
side_low Pending = omega arith
side_low PendingAside = omega arith

pub key_low : (p : ℕ) (s : Side) → p < path_count → key_of p s < key_count
key_low p s h = omega (arith, side_low s)

-- a side of a path is the file of its key
pub side_key : (fs : Files) (p : ℕ) (s : Side) → side_of s (sides_at fs p) ≡ file_at fs (key_of p s)
side_key fs p Place = refl
side_key fs p Aside = refl
side_key fs p Pending = refl
side_key fs p PendingAside = refl

-- sides are the same where each is
abbrev mk : File → File → File → File → Sides
mk a b c d = record { place = a; aside = b; pending = c; pending_aside = d }

join : (x y : Sides) → x.place ≡ y.place → x.aside ≡ y.aside → x.pending ≡ y.pending → x.pending_aside ≡ y.pending_aside → x ≡ y
join x y a b c d =
    ap (λ f. mk f x.aside x.pending x.pending_aside) a
    ∙ ap (λ f. mk y.place f x.pending x.pending_aside) b
    ∙ ap (λ f. mk y.place y.aside f x.pending_aside) c
    ∙ ap (λ f. mk y.place y.aside y.pending f) d

module _ (fs : Files) (long : length fs ≡ key_count) (p : ℕ) (low : p < path_count) (s : Side) (f : File) where
  at_path : (t : Side) → file_at (set fs (key_of p s) f) (key_of p t) ≡ cond (same_side s t) f (file_at fs (key_of p t))
  at_path t = go (same_side s t) refl
    where
      go : (b : Bool) → same_side s t ≡ b → file_at (set fs (key_of p s) f) (key_of p t) ≡ cond b f (file_at fs (key_of p t))
      go true e =
          let q : key_of p t ≡ key_of p s = omega (arith, eqb-true (side_no s) (side_no t) e) in
          ap (file_at (set fs (key_of p s) f)) q ∙ get_or-set_same fs (key_of p s) f None (omega (arith, key_low p s low))
      go false e = get_or-set_other fs (key_of p s) (key_of p t) f None (λ q. eqb-false (side_no s) (side_no t) e (omega arith))

  elsewhere : (q : ℕ) (t : Side) → (q ≡ p → ⊥) → file_at (set fs (key_of p s) f) (key_of q t) ≡ file_at fs (key_of q t)
  elsewhere q t ne = get_or-set_other fs (key_of p s) (key_of q t) f None (λ e. ne (omega (arith, side_low s, side_low t)))

  pub set_sides : (q : ℕ) → sides_at (set fs (key_of p s) f) q ≡ change p (with_side s f) (sides_at fs) q
  set_sides q = go (eqb q p) refl
    where
      here : (r : ℕ) → r ≡ p → sides_at (set fs (key_of p s) f) r ≡ with_side s f (sides_at fs r)
      here r e = rw e (join _ _ (at_path Place) (at_path Aside) (at_path Pending) (at_path PendingAside))

      go : (b : Bool) → eqb q p ≡ b → sides_at (set fs (key_of p s) f) q ≡ cond b (with_side s f (sides_at fs q)) (sides_at fs q)
      go true e = here q (eqb-true q p e)
      go false e =
          let ne = eqb-false q p e in
          join _ _ (elsewhere q Place ne) (elsewhere q Aside ne) (elsewhere q Pending ne) (elsewhere q PendingAside ne)

  pub set_view : sides_at (set fs (key_of p s) f) ≡ change p (with_side s f) (sides_at fs)
  set_view = fun_ext set_sides

-- a move from one side of a path to another
module _ (fs : Files) (long : length fs ≡ key_count) (p : ℕ) (low : p < path_count) (s t : Side) where
  abbrev goes : Bool
  goes = is_some (file_at fs (key_of p s)) && not (same_side s t)

  same_keys : eqb (key_of p s) (key_of p t) ≡ same_side s t
  same_keys = grind (arith, nat_tests)

  moved_is : moved fs (key_of p s) (key_of p t) ≡ cond goes (set (set fs (key_of p t) (file_at fs (key_of p s))) (key_of p s) None) fs
  moved_is =
      ap (λ (b : Bool). cond (is_some (file_at fs (key_of p s)) && (b && not (eqb (key_of p s) (key_of p t)))) (set (set fs (key_of p t) (file_at fs (key_of p s))) (key_of p s) None) fs)
      (lt-ltb _ _ (key_low p t low))
      ∙ ap (λ (b : Bool). cond (is_some (file_at fs (key_of p s)) && not b) (set (set fs (key_of p t) (file_at fs (key_of p s))) (key_of p s) None) fs) same_keys

  both : (q : ℕ) → sides_at (set (set fs (key_of p t) (file_at fs (key_of p s))) (key_of p s) None) q ≡ cond (eqb q p) (with_side s None (with_side t (file_at fs (key_of p s)) (sides_at fs q))) (sides_at fs q)
  both q =
      set_sides (set fs (key_of p t) (file_at fs (key_of p s))) (length-set fs (key_of p t) (file_at fs (key_of p s)) ∙ long) p low s None q
      ∙ ap (λ x. cond (eqb q p) (with_side s None x) x) (set_sides fs long p low t (file_at fs (key_of p s)) q)
      ∙ go (eqb q p)
    where
      go : (b : Bool) → cond b (with_side s None (cond b (with_side t (file_at fs (key_of p s)) (sides_at fs q)) (sides_at fs q))) (cond b (with_side t (file_at fs (key_of p s)) (sides_at fs q)) (sides_at fs q)) ≡ cond b (with_side s None (with_side t (file_at fs (key_of p s)) (sides_at fs q))) (sides_at fs q)
      go true = refl
      go false = refl

  pub moved_sides : (q : ℕ) → sides_at (moved fs (key_of p s) (key_of p t)) q ≡ change p (carried s t) (sides_at fs) q
  moved_sides q = ap (λ gs. sides_at gs q) moved_is ∙ go goes refl ∙ at (eqb q p) refl
    where
      go : (b : Bool) → goes ≡ b → sides_at (cond b (set (set fs (key_of p t) (file_at fs (key_of p s))) (key_of p s) None) fs) q
          ≡ cond (eqb q p) (cond b (with_side s None (with_side t (file_at fs (key_of p s)) (sides_at fs q))) (sides_at fs q)) (sides_at fs q)
      go true e = both q
      go false e = elim (eqb q p) as (λ c. sides_at fs q ≡ cond c (sides_at fs q) (sides_at fs q)) [ true ↦ refl | false ↦ refl ]

      at : (c : Bool) → eqb q p ≡ c → cond c (cond goes (with_side s None (with_side t (file_at fs (key_of p s)) (sides_at fs q))) (sides_at fs q)) (sides_at fs q) ≡ cond c (carried s t (sides_at fs q)) (sides_at fs q)
      at true e =
          let k : file_at fs (key_of p s) ≡ side_of s (sides_at fs q) = ap (λ r. file_at fs (key_of r s)) (sym (eqb-true q p e)) ∙ sym (side_key fs q s) in
          ap (λ f. cond (is_some f && not (same_side s t)) (with_side s None (with_side t f (sides_at fs q))) (sides_at fs q)) k
      at false e = refl

  pub moved_view : sides_at (moved fs (key_of p s) (key_of p t)) ≡ change p (carried s t) (sides_at fs)
  moved_view = fun_ext moved_sides

-- a key is a side of a path, so the sides of all paths are all files
numbered : (fs : Files) (k p n : ℕ) → n < side_count → k ≡ side_count * p + n → file_at fs k ≡ side_in n (sides_at fs p)
numbered fs k p zero h e = ap (file_at fs) e
numbered fs k p (suc zero) h e = ap (file_at fs) e
numbered fs k p (suc (suc zero)) h e = ap (file_at fs) e
numbered fs k p (suc (suc (suc zero))) h e = ap (file_at fs) e
numbered fs k p (suc (suc (suc (suc n)))) h e = absurd (omega arith)

pub all_sides : (fs : Files) → length fs ≡ key_count → fs ≡ listed (sides_at fs)
unfolding listed
all_sides fs long =
    fill_by_all (λ (k : ℕ). side_in (k % side_count) (sides_at fs (k / side_count))) fs key_count None long
    (λ k h. numbered fs k (k / side_count) (k % side_count) (omega arith) (omega arith))

-- a put is admitted by what the sides of the paths hold
pub admits_sides : (b u : ℕ) (fs : Files) (p : ℕ) (s : Side) (ws : List ℕ) → length fs ≡ key_count → p < path_count → admits b u fs (key_of p s) ws ≡ admits_side b u (sides_at fs) p s ws
admits_sides b u fs p s ws long low =
    ap (λ (t : Bool). leb (length ws) longest && (t && leb (used b (set fs (key_of p s) (Some ws))) u)) (lt-ltb _ _ (key_low p s low))
    ∙ ap (λ gs. leb (length ws) longest && leb (used b gs) u)
    (all_sides (set fs (key_of p s) (Some ws)) (length-set fs (key_of p s) (Some ws) ∙ long) ∙ ap listed (set_view fs long p low s (Some ws)))

-- The same of what a call leaves, at a key that is a side's.
module _ (fs gs : Files) (long : length fs ≡ key_count) (p : ℕ) (low : p < path_count) where
  pub after_set : (k : ℕ) (s : Side) (f : File) → k ≡ key_of p s → gs ≡ set fs k f → sides_at gs ≡ change p (with_side s f) (sides_at fs)
  after_set k s f e is = ap sides_at (is ∙ ap (λ (x : ℕ). set fs x f) e) ∙ set_view fs long p low s f

  pub after_move : (k l : ℕ) (s t : Side) → k ≡ key_of p s → l ≡ key_of p t → gs ≡ moved fs k l → sides_at gs ≡ change p (carried s t) (sides_at fs)
  after_move k l s t e f is = ap sides_at (is ∙ ap (λ (x : ℕ). moved fs x l) e ∙ ap (moved fs (key_of p s)) f) ∙ moved_view fs long p low s t

  pub after_put : (k : ℕ) (s : Side) (ws : List ℕ) (r : Bool) → k ≡ key_of p s → gs ≡ cond r (set fs k (Some ws)) fs → sides_at gs ≡ cond r (change p (with_side s (Some ws)) (sides_at fs)) (sides_at fs)
  after_put k s ws true e is = after_set k s (Some ws) e is
  after_put k s ws false e is = ap sides_at is

  pub put_answer : (b u k : ℕ) (s : Side) (ws : List ℕ) (r : Bool) → k ≡ key_of p s → r ≡ admits b u fs k ws → r ≡ admits_side b u (sides_at fs) p s ws
  put_answer b u k s ws r e is = is ∙ ap (λ (x : ℕ). admits b u fs x ws) e ∙ admits_sides b u fs p s ws long low
