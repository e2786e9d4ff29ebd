-- The items of lent memory that are in use, and what one item more leaves.
use Rattle.std.specs.Prelude.{◌≡◌, ℕ, ◌+◌, ◌<◌, ◌≤◌, List, [], ◌∷◌, ◌++◌, length, take, Ok, Err, Result, slice_set}
use Rattle.writer.specs.declared.lent.Lent.{Lent}
use Rattle.writer.specs.declared.lent.Full.{Full}

-- the items in use
abbrev pub items_in : {A : Type 0} → Lent A → List A
items_in t = take t.count t.items.now

-- how many items there is room for in all
abbrev pub space : {A : Type 0} → Lent A → ℕ
space t = length t.items.now

-- The item stands behind those in use; every other one is as it was.
pub record OneMore {A : Type 0} (x : A) (t t' : Lent A) : Type 0 where
  pub room : t.count < space t
  pub one_item : items_in t' ≡ items_in t ++ x ∷ []
  pub one_row : t'.items.now ≡ slice_set t.items.now t.count x
  pub one_used : t'.count ≡ t.count + 1
  pub same_space : space t' ≡ space t
  pub same_reference : t'.items.ghost_name ≡ t.items.ghost_name

-- One item more, or there was no room for it and nothing changed.
abbrev pub Adds : {A : Type 0} → Result (Unit {0}) Full → A → Lent A → Lent A → Type 0
Adds (Ok u) x t t' = OneMore x t t'
Adds (Err e) x t t' = (space t ≤ t.count) × (t' ≡ t)

-- So many items are in use and each is as it was; or there are not so many, and nothing changed.
abbrev pub Counts : {A : Type 0} → Result (Unit {0}) Full → ℕ → Lent A → Lent A → Type 0
Counts (Ok u) n t t' = (n ≤ space t) × (t'.count ≡ n) × (t'.items.now ≡ t.items.now) × (t'.items.ghost_name ≡ t.items.ghost_name)
Counts (Err e) n t t' = (space t < n) × (t' ≡ t)
