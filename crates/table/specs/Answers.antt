-- What a table holds, and what its answers say.
use Rattle.std.specs.Prelude.{◌≡◌, ℕ, ◌+◌, ◌<◌, ◌≤◌, Bool, true, List, length, take, Some, None, Ok, Err, Option, Result, slice_index_or, slice_set}
use Rattle.std.specs.List.{insert, remove}
use Rattle.table.specs.declared.key.Element as element
use Rattle.table.specs.declared.key.Key as key
use Rattle.table.specs.declared.table.Table.{Table}
use Rattle.table.specs.declared.table.Refused.{Refused}
use Rattle.table.specs.declared.table.Refused.TheVariants.{Present, Full}
use Rattle.table.specs.Rows.{rising, Stands, Missing, lookup, Only}

-- Of a table's arguments, g names the key of a row, and h the order of keys.
module _ {E K : Type 0} {g : element.Ghosts E K} {h : key.Ghosts K} where
  -- the rows in use, in order
  abbrev pub live : Table E K g h → List E
  live t = take t.len t.rows.now

  -- how many rows the lent memory has room for
  abbrev pub room : Table E K g h → ℕ
  room t = length t.rows.now

  -- a table and its memory are as they were
  abbrev pub Unchanged : Table E K g h → Table E K g h → Type 0
  Unchanged t t' = (t'.len ≡ t.len) × (t'.rows.now ≡ t.rows.now)

module _ {E K : Type 0} (below : K → K → Bool) (keyed : E → K) where
  -- the row at the place i has the key k, and it is the row of k
  pub record Found (k : K) (xs : List E) (i : ℕ) : Type 0 where
    pub stands : Stands below keyed k xs i
    pub row : (x : E) → x ≡ slice_index_or xs i x → lookup below keyed k xs ≡ Some x

  -- no row has the key k
  pub record Absent (k : K) (xs : List E) : Type 0 where
    pub missing : Missing below keyed k xs
    pub row : lookup below keyed k xs ≡ None

module _ {E K : Type 0} {g : element.Ghosts E K} {h : key.Ghosts K} (below : K → K → Bool) (keyed : E → K) where
  -- the invariant: the rows in use lie within the memory, and their keys rise
  abbrev pub Sorted : Table E K g h → Type 0
  Sorted t = (t.len ≤ room t) × (rising below keyed (live t) ≡ true)

  -- `search`: the place of the row with the key k, or none where no row has it
  abbrev pub Finds : K → Table E K g h → Option ℕ → Type 0
  Finds k t (Some i) = Found below keyed k (live t) i
  Finds k t None = Absent below keyed k (live t)

  -- `insert`: the row e is in at the place i, which the order gives it, and nothing else is moved, added or lost.
  -- A search for its key now finds it, and any other key is found as before.
  pub record Entered (e : E) (t : Table E K g h) (i : ℕ) (t' : Table E K g h) : Type 0 where
    pub new : Absent below keyed (keyed e) (live t)
    pub fits : length (live t) < room t
    pub rows : live t' ≡ insert (live t) i e
    pub order : Sorted t'
    pub count : length (live t') ≡ length (live t) + 1
    pub law : Only below keyed (keyed e) (Some e) (live t) (live t')

  -- or a row has its key already, or no row is free, and the table is as it was
  abbrev pub Inserts : E → Table E K g h → Result ℕ Refused → Table E K g h → Type 0
  Inserts e t (Ok i) t' = Entered e t i t'
  Inserts e t (Err (Present i)) t' = Found below keyed (keyed e) (live t) i × Unchanged t t'
  Inserts e t (Err Full) t' = Absent below keyed (keyed e) (live t) × (room t ≤ length (live t)) × Unchanged t t'

  -- `replace`: the row e stands at the place i, in the place of the row that had its key
  pub record Replaced (e : E) (t : Table E K g h) (old : E) (t' : Table E K g h) (i : ℕ) : Type 0 where
    pub stood : Found below keyed (keyed e) (live t) i
    pub was : old ≡ slice_index_or (live t) i old
    pub rows : live t' ≡ slice_set (live t) i e
    pub order : Sorted t'
    pub count : length (live t') ≡ length (live t)
    pub law : Only below keyed (keyed e) (Some e) (live t) (live t')

  -- or no row has its key, and the table is as it was
  abbrev pub Replaces : E → Table E K g h → Option E → Table E K g h → Type 0
  Replaces e t (Some old) t' = (i : ℕ) × Replaced e t old t' i
  Replaces e t None t' = Absent below keyed (keyed e) (live t) × Unchanged t t'

  -- `remove`: the row at the place i, which had the key k, is out, and nothing else is moved, added or lost.
  -- A search for the key now finds nothing, and any other key is found as before.
  pub record Removed (k : K) (t : Table E K g h) (old : E) (t' : Table E K g h) (i : ℕ) : Type 0 where
    pub stood : Found below keyed k (live t) i
    pub was : old ≡ slice_index_or (live t) i old
    pub rows : live t' ≡ remove (live t) i
    pub order : Sorted t'
    pub count : length (live t') + 1 ≡ length (live t)
    pub law : Only below keyed k None (live t) (live t')

  -- or no row has the key, and the table is as it was
  abbrev pub Removes : K → Table E K g h → Option E → Table E K g h → Type 0
  Removes k t (Some old) t' = (i : ℕ) × Removed k t old t' i
  Removes k t None t' = Absent below keyed k (live t) × Unchanged t t'

  -- `remove_at`: the row at the place i is out, or there is none, and the table is as it was
  abbrev pub Takes : ℕ → Table E K g h → Option E → Table E K g h → Type 0
  Takes i t (Some old) t' = Removed (keyed old) t old t' i
  Takes i t None t' = (length (live t) ≤ i) × Unchanged t t'
