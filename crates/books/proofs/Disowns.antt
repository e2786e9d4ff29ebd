-- Owners that are let go, one row at a time.
use Rattle.std.proofs.Common.{◌≡◌, ℕ, zero, suc, ◌<◌, ◌≤◌, Bool, true, false, cond, ltb, List, [], ◌∷◌, length, get_or, drop, Some, None, Option, sym, refl, ap, ◌∙◌, subst, arith}
use Rattle.std.specs.List.{remove, AllByRecursion}
use Rattle.std.proofs.lemmas.List.{get_or_default}
use Rattle.std.proofs.lemmas.Bool.{cond-true, cond-false}
use Rattle.base.specs.declared.texts.ShortText.{ShortText}
use Rattle.base.specs.declared.files.FileKind.{FileKind}
use Rattle.status.specs.declared.rows.Owned.{Owned}
use Rattle.status.specs.Tables.{owner_of}
use Rattle.table.specs.declared.key.Element as element
use Rattle.table.specs.declared.key.Key as key
use Rattle.table.specs.declared.table.Table.{Table}
use Rattle.table.specs.Order.{meets}
use Rattle.table.specs.Rows.{Only}
use Rattle.table.specs.Answers.{live, room, Takes}
use Rattle.table.proofs.Meets.{meets_same}
use Rattle.table.specs.Orders.{numbers_total}
use Rattle.books.specs.Owners.{leaves, unowned}

drop_removed : {X : Type 0} (xs : List X) (i : ℕ) → drop i (remove xs i) ≡ drop (suc i) xs
drop_removed [] zero = refl
drop_removed [] (suc i) = refl
drop_removed (x ∷ xs) zero = refl
drop_removed (x ∷ xs) (suc i) = drop_removed xs i

-- what is read of rows is a row of the table
pub read_row : (xs ys : List Owned) (i : ℕ) (d : Owned) → xs ≡ ys → i < length ys → get_or xs i d ≡ get_or ys i (get_or xs i d)
read_row xs ys i d e lt = ap (λ (zs : List Owned). get_or zs i d) e ∙ get_or_default ys i d (get_or xs i d) lt

module _ (name : ShortText) (kind : FileKind) (except : ℕ → Bool) where
  abbrev pub Stays : Owned → Type 0
  Stays o = leaves name kind (except o.path) o ≡ false

  -- a row that is let go, taken out, changes nothing of what is left in the end
  pub left_removed : (o : Owned) (xs ys : List Owned) → leaves name kind (except o.path) o ≡ true → owner_of o.path xs ≡ Some o
      → Only ltb (λ r. r.path) o.path None xs ys → (q : ℕ) → unowned name kind (except q) (owner_of q ys) ≡ unowned name kind (except q) (owner_of q xs)
  left_removed o xs ys gone there law q = ap (unowned name kind (except q)) (law q) ∙ go (meets ltb o.path q) refl
    where
      go : (b : Bool) → meets ltb o.path q ≡ b → unowned name kind (except q) (cond b None (owner_of q xs)) ≡ unowned name kind (except q) (owner_of q xs)
      go true m =
          subst (λ (p : ℕ). ◌≡◌ {A = Option Owned} None (unowned name kind (except p) (owner_of p xs))) (meets_same numbers_total o.path q m)
          (sym (ap (unowned name kind (except o.path)) there ∙ cond-true _ None (Some o) gone))
      go false m = refl

  -- where every row stays, each path keeps its owner
  pub left_all : (xs : List Owned) → AllByRecursion Stays xs → (q : ℕ) → unowned name kind (except q) (owner_of q xs) ≡ owner_of q xs
  left_all [] a q = refl
  left_all (o ∷ xs) a q = go (left_all xs a.1 q) (meets ltb o.path q) refl
    where
      go : unowned name kind (except q) (owner_of q xs) ≡ owner_of q xs → (b : Bool) → meets ltb o.path q ≡ b → unowned name kind (except q) (cond b (Some o) (owner_of q xs)) ≡ cond b (Some o) (owner_of q xs)
      go rest true m =
          subst (λ (p : ℕ). unowned name kind (except p) (Some o) ≡ Some o) (meets_same numbers_total o.path q m) (cond-false _ None (Some o) a.0)
      go rest false m = rest

  -- between two turns: the rows from the place i on stay, and what is left in the end is as it was at the start
  pub record Between {g : element.Ghosts Owned ℕ} {h : key.Ghosts ℕ} (start t : Table Owned ℕ g h) (i : ℕ) : Type 0 where
    pub room : room t ≡ room start
    pub count : length (live t) ≤ length (live start)
    pub within : i ≤ length (live t)
    pub stay : AllByRecursion Stays (drop i (live t))
    pub left : (q : ℕ) → unowned name kind (except q) (owner_of q (live t)) ≡ unowned name kind (except q) (owner_of q (live start))

module _ (name : ShortText) (kind : FileKind) (except : ℕ → Bool) {g : element.Ghosts Owned ℕ} {h : key.Ghosts ℕ} (start : Table Owned ℕ g h) where
  pub takes_out : (t t' : Table Owned ℕ g h) (i j : ℕ) (o : Owned) (r : Option Owned) → Between name kind except start t i → i ≡ suc j → o ≡ get_or (live t) j o
      → true ≡ leaves name kind (except o.path) o → room t' ≡ room t → Takes ltb (λ o. o.path) j t r t' → Between name kind except start t' j
  takes_out t t' i j o None b e at gone rm h = absurd (let w = h.0 in let v = b.within in omega arith)
  takes_out t t' i j o (Some old) b e at gone rm h =
      let e₁ = h.stood.row o at in
      let e₂ = h.stood.row old h.was in
      let same : o ≡ old = cc in
      let n = h.count in
      let c = b.count in
      let w = b.within in
      record {
        room = rm ∙ b.room;
        count = omega arith;
        within = omega arith;
        stay = subst (AllByRecursion (Stays name kind except)) (ap (λ k. drop k (live t)) e ∙ sym (ap (drop j) h.rows ∙ drop_removed (live t) j)) b.stay;
        left = λ q. left_removed name kind except old (live t) (live t') (subst (λ (x : Owned). leaves name kind (except x.path) x ≡ true) same (sym gone)) e₂ h.law q ∙ b.left q;
      }

  pub ends : (t : Table Owned ℕ g h) (i : ℕ) → Between name kind except start t i → i ≤ 0
      → (q : ℕ) → owner_of q (live t) ≡ unowned name kind (except q) (owner_of q (live start))
  ends t zero b le q = sym (left_all name kind except (live t) b.stay q) ∙ b.left q
  ends t (suc i) b le q = absurd (omega arith)
