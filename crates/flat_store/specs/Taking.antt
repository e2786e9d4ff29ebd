-- Which memory is a whole image, that may be taken up again.
use Rattle.std.specs.Prelude.{◌≡◌, ℕ, ◌+◌, ◌<◌, Bool, true, false, ◌&&◌, List, length, take, Option, Some, None, sum_by, count_by, ◌==◌, nat_le, nat_lt, slice_index_or, slice_set}
use Rattle.store.specs.Files.{key_count, longest}
use Rattle.flat_store.specs.Images.{blank, extent_of, extent_at, words_at, units, Fits}
use Rattle.flat_store.specs.declared.cells.Entry.{Entry}
use Rattle.flat_store.specs.declared.cells.Extent.{Extent}
use Rattle.flat_store.specs.declared.cells.Slot.{Slot}

abbrev pub names : ℕ → Option Extent → Bool
names p None = false
names p (Some e) = e.slot == p

-- how many of the entries name slot p
abbrev pub named : ℕ → List Entry → ℕ
named p es = count_by (λ e. names p (extent_of e)) es

-- a held entry of n slots is good where its file is not too long, its slot is there, and no entry before it names that slot
abbrev pub good_after : List Entry → ℕ → Option Extent → Bool
good_after before n None = true
good_after before n (Some e) = nat_le e.len longest && (nat_lt e.slot n && named e.slot before == 0)

abbrev pub good : List Entry → ℕ → ℕ → Bool
good dir n k = good_after (take k dir) n (extent_at dir k)

abbrev pub Whole : List Entry → ℕ → Type 0
Whole dir n = (k : ℕ) → k < key_count → good dir n k ≡ true

-- k is the first entry that is not good
abbrev pub Damaged : List Entry → ℕ → ℕ → Type 0
Damaged dir n k = (k < key_count) × ((j : ℕ) → j < k → good dir n j ≡ true) × (good dir n k ≡ false)

-- While an image is looked through, a slot's `spare` says whether an entry named it.
abbrev pub markable : List Slot → Extent → Bool
markable ss e = nat_le e.len longest && (nat_lt e.slot (length ss) && (slice_index_or ss e.slot blank).spare == 0)

abbrev pub marked : List Slot → ℕ → List Slot
marked ss p = slice_set ss p (record { spare = 1; words = words_at ss p })

abbrev pub unnamed : Slot → Bool
unnamed s = s.spare == 0

-- after the first k entries, all of them good: each slot is marked as often as they name it, those without a mark and the
-- files found are as many as the slots, and each file has its words
abbrev pub Marks : List Entry → List Slot → ℕ → Type 0
Marks dir ss k =
    ((p : ℕ) → p < length ss → (slice_index_or ss p blank).spare ≡ named p (take k dir))
    × (count_by unnamed ss + sum_by units (take k dir) ≡ length ss)
    × ((j : ℕ) → j < k → Fits ss (extent_at dir j))
    × ((j : ℕ) → j < k → good dir (length ss) j ≡ true)

-- a slot without a mark
abbrev pub Free : List Slot → ℕ → Type 0
Free ss p = (p < length ss) × ((slice_index_or ss p blank).spare ≡ 0)
