-- What a file store means: which key holds which list of words, and what the files cost.
use Rattle.std.specs.Prelude.{ℕ, ◌+◌, ◌-◌, ◌*◌, ◌/◌, max, Bool, cond, not, ◌&&◌, List, [], length, is_some, Some, None, sum_by, Option, ◌==◌, nat_le, nat_lt, slice_index_or, slice_set}

-- How many sides a path has. All key bounds come from here.
abbrev pub side_count : ℕ
side_count = 4

abbrev pub path_count : ℕ
path_count = 256

abbrev pub key_count : ℕ
key_count = side_count * path_count

-- the longest file, in words
abbrev pub longest : ℕ
longest = 32

-- what one key holds
abbrev pub File : Type 0
File = Option (List ℕ)

-- what each key holds, in the order of the keys
abbrev pub Files : Type 0
Files = List File

abbrev pub file_at : Files → ℕ → File
file_at fs k = slice_index_or fs k None

-- a file of n words costs n / b rounded up, and at least 1
abbrev pub cost : ℕ → ℕ → ℕ
cost b n = max 1 ((n + (b - 1)) / b)

abbrev pub units_of : ℕ → File → ℕ
units_of b None = 0
units_of b (Some ws) = cost b (length ws)

-- what all files cost
abbrev pub used : ℕ → Files → ℕ
used b fs = sum_by (units_of b) fs

-- whether the words may be put under the key: not too long, no key too high, and all files then held, the new one in the
-- place of the key's old one, within the units
abbrev pub admits : ℕ → ℕ → Files → ℕ → List ℕ → Bool
admits b u fs k ws = nat_le (length ws) longest && (nat_lt k key_count && nat_le (used b (slice_set fs k (Some ws))) u)

-- a move: nothing from an empty key, to a key that there is not, or onto itself
abbrev pub moved : Files → ℕ → ℕ → Files
moved fs from to =
    cond (is_some (file_at fs from) && (nat_lt to key_count && not (from == to))) (slice_set (slice_set fs to (file_at fs from)) from None) fs

abbrev pub length_of : File → Option ℕ
length_of None = None
length_of (Some ws) = Some (length ws)

abbrev pub words_of : File → List ℕ
words_of None = []
words_of (Some ws) = ws
