-- What a flat image means, and what holds of it between calls.
use Rattle.std.specs.Prelude.{◌≡◌, ℕ, ◌+◌, ◌-◌, ◌<◌, ◌≤◌, Bool, true, false, cond, List, [], map, length, take, is_some, Option, Some, None, sum_by, nat_lt, slice_index_or}
use Rattle.store.specs.Files.{File, Files, key_count, longest}
use Rattle.flat_store.specs.declared.cells.Entry.{Entry}
use Rattle.flat_store.specs.declared.cells.Extent.{Extent}
use Rattle.flat_store.specs.declared.cells.Slot.{Slot}

abbrev pub none : Entry
none = record { held = false; slot = 0; len = 0 }

abbrev pub blank : Slot
blank = record { spare = 0; words = [] }

abbrev pub entry_at : List Entry → ℕ → Entry
entry_at dir k = slice_index_or dir k none

-- what an entry says while it is held; otherwise nothing, whatever its numbers are
abbrev pub extent_of : Entry → Option Extent
extent_of e = cond e.held (Some (record { slot = e.slot; len = e.len })) None

abbrev pub extent_at : List Entry → ℕ → Option Extent
extent_at dir k = extent_of (entry_at dir k)

abbrev pub words_at : List Slot → ℕ → List ℕ
words_at ss p = (slice_index_or ss p blank).words

abbrev pub extent_file : List Slot → Option Extent → File
extent_file ss None = None
extent_file ss (Some e) = Some (take e.len (words_at ss e.slot))

-- the file of an entry
abbrev pub entry_file : List Slot → Entry → File
entry_file ss e = extent_file ss (extent_of e)

abbrev pub image_files : List Entry → List Slot → Files
image_files dir ss = map (entry_file ss) dir

abbrev pub slot_of : Option Extent → ℕ
slot_of None = 0
slot_of (Some e) = e.slot

-- Places that name a slot: each key, and above the keys the list of the free ones. A place counts while it is live.
abbrev pub live : List Entry → ℕ → ℕ → Bool
live dir free x = cond (nat_lt x key_count) (is_some (extent_at dir x)) (nat_lt (x - key_count) free)

abbrev pub slot_at : List Entry → List Slot → ℕ → ℕ
slot_at dir ss x = cond (nat_lt x key_count) (slot_of (extent_at dir x)) (slice_index_or ss (x - key_count) blank).spare

-- each live place names a slot, and no slot twice
abbrev pub Apart : (ℕ → Bool) → (ℕ → ℕ) → ℕ → Type 0
Apart on at n =
    ((x : ℕ) → on x ≡ true → at x < n)
    × ((x y : ℕ) → on x ≡ true → on y ≡ true → at x ≡ at y → x ≡ y)

-- a file has the words that its entry says
abbrev pub Fits : List Slot → Option Extent → Type 0
Fits ss o = (e : Extent) → o ≡ Some e → (e.len ≤ longest) × (e.len ≤ length (words_at ss e.slot))

abbrev pub extent_units : Option Extent → ℕ
extent_units None = 0
extent_units (Some e) = 1

abbrev pub units : Entry → ℕ
units e = extent_units (extent_of e)

abbrev pub Kept : List Entry → List Slot → ℕ → Type 0
Kept dir ss free =
    (length dir ≡ key_count)
    × (sum_by units dir + free ≡ length ss)
    × ((k : ℕ) → k < key_count → Fits ss (extent_at dir k))
    × Apart (live dir free) (slot_at dir ss) (length ss)

-- The slot for a key's words, and how many are free then: that of its file, or else the last of the free ones.
abbrev pub choice : List Slot → ℕ → Option Extent → Option (ℕ × ℕ)
choice ss free (Some e) = Some (e.slot, free)
choice ss free None = cond (nat_lt 0 free) (Some ((slice_index_or ss (free - 1) blank).spare, free - 1)) None
