-- What a change of the books answers, and what it leaves.
use Rattle.std.specs.Prelude.{◌≡◌, ℕ, ◌+◌, Bool, true, false, cond, ◌||◌, ltb, List, [], ◌∷◌, ◌++◌, length, is_some, Some, None, Option, nat_lt}
use Rattle.base.specs.declared.texts.ShortText.{ShortText}
use Rattle.host.specs.declared.line.Line.{Line}
use Rattle.status.specs.declared.rows.Record.{Record}
use Rattle.status.specs.declared.rows.Owned.{Owned}
use Rattle.status.specs.Tables.{record_of, owner_of}
use Rattle.table.specs.Order.{by_bytes, meets}
use Rattle.table.specs.Rows.{lookup, Only}
use Rattle.steps.specs.Wares.{one_if}
use Rattle.books.specs.Limits.{records_most, owners_most}
use Rattle.books.specs.Ledger.{Ledger}

-- records and owners as functions of the name and of the path
abbrev pub records_in : List Record → ShortText → Option Record
records_in records name = record_of name records

abbrev pub owners_in : List Owned → ℕ → Option Owned
owners_in owners path = owner_of path owners

-- the same at every key but k, and there `found`
abbrev pub changed : {E K : Type 0} → (K → K → Bool) → K → Option E → (K → Option E) → K → Option E
changed below k found f q = cond (meets below k q) found (f q)

-- The row e is put into a table with so many places: over the row of its key, or in beside the others.
-- It is refused exactly where no row has its key and every place is taken, and then nothing changes.
module _ {E K : Type 0} (below : K → K → Bool) (keyed : E → K) where
  -- whether there is a place for it
  abbrev pub placed : E → ℕ → List E → Bool
  placed e places xs = is_some (lookup below keyed (keyed e) xs) || nat_lt (length xs) places

  pub record Put (e : E) (places : ℕ) (xs : List E) (r : Bool) (ys : List E) : Type 0 where
    pub told : r ≡ placed e places xs
    pub law : r ≡ true → Only below keyed (keyed e) (Some e) xs ys
    pub count : r ≡ true → length ys + one_if (is_some (lookup below keyed (keyed e) xs)) ≡ length xs + 1
    pub same : r ≡ false → ys ≡ xs

  -- the row of the key k is taken out, if there is one
  pub record Out (k : K) (xs ys : List E) : Type 0 where
    pub law : Only below keyed k None xs ys
    pub count : length ys + one_if (is_some (lookup below keyed k xs)) ≡ length xs

-- `note`: one line more, or no line where the trace is full
pub record NotedLine (line : Line) (old : Ledger) (r : Bool) (new : Ledger) : Type 0 where
  pub told : r ≡ nat_lt (length old.lines) old.space
  pub added : r ≡ true → new.lines ≡ old.lines ++ (line ∷ [])
  pub same : r ≡ false → new ≡ old
  pub records : new.records ≡ old.records
  pub owners : new.owners ≡ old.owners
  pub space : new.space ≡ old.space

-- `write`: the record of its name is this one, every other as before
pub record Wrote (row : Record) (old : Ledger) (r : Bool) (new : Ledger) : Type 0 where
  pub told : r ≡ is_some (record_of row.name old.records) || nat_lt (length old.records) records_most
  pub law : r ≡ true → (q : ShortText) → record_of q new.records ≡ cond (meets by_bytes row.name q) (Some row) (record_of q old.records)
  pub view : r ≡ true → records_in new.records ≡ changed by_bytes row.name (Some row) (records_in old.records)
  pub count : r ≡ true → length new.records + one_if (is_some (record_of row.name old.records)) ≡ length old.records + 1
  pub same : r ≡ false → new ≡ old
  pub owners : new.owners ≡ old.owners
  pub lines : new.lines ≡ old.lines
  pub space : new.space ≡ old.space

-- `strike`: no record has the name, every other record is as before
pub record Struck (name : ShortText) (old : Ledger) (new : Ledger) : Type 0 where
  pub law : (q : ShortText) → record_of q new.records ≡ cond (meets by_bytes name q) None (record_of q old.records)
  pub view : records_in new.records ≡ changed by_bytes name None (records_in old.records)
  pub count : length new.records + one_if (is_some (record_of name old.records)) ≡ length old.records
  pub owners : new.owners ≡ old.owners
  pub lines : new.lines ≡ old.lines
  pub space : new.space ≡ old.space

-- `own`: the path is owned so, every other as before
pub record Owns (row : Owned) (old : Ledger) (r : Bool) (new : Ledger) : Type 0 where
  pub told : r ≡ is_some (owner_of row.path old.owners) || nat_lt (length old.owners) owners_most
  pub law : r ≡ true → (q : ℕ) → owner_of q new.owners ≡ cond (meets ltb row.path q) (Some row) (owner_of q old.owners)
  pub view : r ≡ true → owners_in new.owners ≡ changed ltb row.path (Some row) (owners_in old.owners)
  pub count : r ≡ true → length new.owners + one_if (is_some (owner_of row.path old.owners)) ≡ length old.owners + 1
  pub same : r ≡ false → new ≡ old
  pub records : new.records ≡ old.records
  pub lines : new.lines ≡ old.lines
  pub space : new.space ≡ old.space
