-- The files of a package are owned, one file more.
use Rattle.std.proofs.Common.{◌≡◌, ℕ, ◌+◌, ◌≤◌, Bool, true, false, cond, not, ◌||◌, eqb, ltb, List, [], ◌∷◌, length, is_some, Some, None, Option, sym, refl, ap, ◌∙◌, subst, ap₂, arith}
use mathlib.Core.Path.{fun_ext}
use Rattle.std.proofs.lemmas.Bool.{cond-false, eqb-true, eqb-false, ne_eqb, lt-ltb}
use Rattle.std.proofs.lemmas.Bool.Decides.{nat_tests}
use Rattle.base.specs.declared.texts.ShortText.{ShortText}
use Rattle.status.specs.declared.rows.Owned.{Owned}
use Rattle.status.specs.Tables.{owner_of}
use Rattle.table.specs.Order.{meets}
use Rattle.table.specs.Rows.{Only}
use Rattle.package.specs.Wares.{Ware}
use Rattle.steps.specs.Wares.{one_if, Distinct}
use Rattle.steps.specs.Goods.{carried_at}
use Rattle.steps.proofs.Restores.{Apart}
use Rattle.books.specs.Changes.{owners_in, Put}
use Rattle.books.specs.Owners.{owned_by, fresh_count, FilesOwned}

apart_none : (q p : ℕ) (xs : List Ware) → eqb q p ≡ true → Apart p xs → carried_at q xs ≡ None
apart_none q p [] e a = refl
apart_none q p (x ∷ xs) e a =
    cond-false (eqb q x.path) (Some x) (carried_at q xs)
    (ne_eqb q x.path (λ s. eqb-false x.path p a.0 (sym s ∙ eqb-true q p e)))
    ∙ apart_none q p xs e a.1

-- paths meet where they are equal
pub meets_eqb : (p q : ℕ) → meets ltb p q ≡ eqb q p
meets_eqb p q = grind (arith, nat_tests)

-- the files apart from a path have as many fresh paths, whoever owns that path
fresh_apart : (p : ℕ) (found : Option Owned) (f g : ℕ → Option Owned) (xs : List Ware) → ((q : ℕ) → g q ≡ cond (meets ltb p q) found (f q)) → Apart p xs
    → fresh_count g xs ≡ fresh_count f xs
fresh_apart p found f g [] h a = refl
fresh_apart p found f g (x ∷ xs) h a =
    ap₂ (λ (o : Option Owned) (n : ℕ). one_if (not (is_some o)) + n)
    (h x.path ∙ cond-false _ found (f x.path) (meets_eqb p x.path ∙ a.0)) (fresh_apart p found f g xs h a.1)

-- there is a place for a path that is owned or counts as fresh
room_for_one : (b : Bool) (n m places : ℕ) → n + (one_if (not b) + m) ≤ places → b || ltb n places ≡ true
room_for_one true n m places h = refl
room_for_one false n m places h = lt-ltb n places (omega arith)

one_more : (b : Bool) (n m k l : ℕ) → n + one_if b ≡ l + 1 → m ≡ n + k → m ≡ l + (one_if (not b) + k)
one_more true n m k l p q = omega arith
one_more false n m k l p q = omega arith

-- the row of the file's path is put in: the owners that the files lead to are the same
law_more : (name : ShortText) (x : Ware) (xs : List Ware) (old mid : List Owned) → Apart x.path xs
    → Only ltb (λ o. o.path) x.path (Some (record { path = x.path; owner = name; kind = x.kind })) old mid
    → (q : ℕ) → owned_by name (carried_at q xs) (owner_of q mid) ≡ owned_by name (carried_at q (x ∷ xs)) (owner_of q old)
law_more name x xs old mid apart law q =
    ap (owned_by name (carried_at q xs)) (law q ∙ ap (λ (b : Bool). cond b (Some (record { path = x.path; owner = name; kind = x.kind })) (owner_of q old)) (meets_eqb x.path q))
    ∙ go (eqb q x.path) refl
  where
    go : (b : Bool) → eqb q x.path ≡ b
        → owned_by name (carried_at q xs) (cond b (Some (record { path = x.path; owner = name; kind = x.kind })) (owner_of q old))
        ≡ owned_by name (cond b (Some x) (carried_at q xs)) (owner_of q old)
    go true e = ap (λ (o : Option Ware). owned_by name o (Some (record { path = x.path; owner = name; kind = x.kind }))) (apart_none q x.path xs e apart)
    go false e = refl

-- one file more: what is left to own still has room, and owning it owns both
module _ (name : ShortText) (x : Ware) (xs ys : List Ware) (places : ℕ) (old mid : List Owned) (r : Bool) (e : ys ≡ x ∷ xs) (d : Distinct ys)
    (fits : length old + fresh_count (owners_in old) ys ≤ places) (put : Put ltb (λ o. o.path) (record { path = x.path; owner = name; kind = x.kind }) places old r mid) where
  apart : Distinct (x ∷ xs)
  apart = subst Distinct e d

  abbrev there : Bool
  there = is_some (owner_of x.path old)

  room : length old + (one_if (not there) + fresh_count (owners_in old) xs) ≤ places
  room = subst (λ (zs : List Ware). length old + fresh_count (owners_in old) zs ≤ places) e fits

  taken : r ≡ true
  taken = put.told ∙ room_for_one there (length old) (fresh_count (owners_in old) xs) places room

  fresh_same : fresh_count (owners_in mid) xs ≡ fresh_count (owners_in old) xs
  fresh_same = fresh_apart x.path (Some (record { path = x.path; owner = name; kind = x.kind })) (owners_in old) (owners_in mid) xs (put.law taken) apart.0

  counted : length mid + fresh_count (owners_in mid) xs ≡ length old + (one_if (not there) + fresh_count (owners_in mid) xs)
  counted = one_more there (length mid) _ _ (length old) (put.count taken) refl

  pub owned_room : length mid + fresh_count (owners_in mid) xs ≤ places
  owned_room =
      let c = counted in
      let f = fresh_same in
      let k = room in
      omega arith

  pub owned_more : (new : List Owned) → FilesOwned name xs mid new → FilesOwned name ys old new
  owned_more new rest =
      let law : (q : ℕ) → owner_of q new ≡ owned_by name (carried_at q (x ∷ xs)) (owner_of q old)
      = λ q. rest.law q ∙ law_more name x xs old mid apart.0 (put.law taken) q in
      let n = rest.count in
      let c = counted in
      let f = fresh_same in
      let total : length new ≡ length old + (one_if (not there) + fresh_count (owners_in old) xs) = omega arith in
      subst (λ (zs : List Ware). FilesOwned name zs old new) (sym e) (record { law = law; view = fun_ext law; count = total })

-- so far: what is left to own has room, and owning it owns all
pub record Onwards (name : ShortText) (all rest : List Ware) (places : ℕ) (start now : List Owned) : Type 0 where
  pub room : length now + fresh_count (owners_in now) rest ≤ places
  pub last : (new : List Owned) → FilesOwned name rest now new → FilesOwned name all start new

pub owned_end : (name : ShortText) (xs : List Ware) (old : List Owned) → xs ≡ [] → FilesOwned name xs old old
owned_end name xs old e =
    let n : length old ≡ length old + 0 = omega arith in
    subst (λ (zs : List Ware). FilesOwned name zs old old) (sym e) (record { law = λ q. refl; view = refl; count = n })

pub owned_as : (name : ShortText) (xs ys : List Ware) (room places : ℕ) (old new : List Owned) → xs ≡ ys → room ≡ places
    → length old + fresh_count (owners_in old) ys ≤ places
    → (length old + fresh_count (owners_in old) xs ≤ room → FilesOwned name xs old new)
    → FilesOwned name ys old new
owned_as name xs ys room places old new e r fits h =
    let f = ap (fresh_count (owners_in old)) e in
    subst (λ (zs : List Ware). FilesOwned name zs old new) e (h (omega arith))
