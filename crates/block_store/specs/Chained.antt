-- What a block store means, and what holds of it between calls.
use Rattle.std.specs.Prelude.{◌≡◌, ℕ, ◌<◌, ◌≤◌, false, cond, List, [], map, length, get_or, take, Some, None, sum_by, nat_lt, slice_index_or}
use Rattle.store.specs.Files.{File, Files, key_count, longest, cost}
use Rattle.block_store.specs.Walks.{chain_count, content, Within, Apart}
use Rattle.block_store.specs.declared.cells.Block.{Block}
use Rattle.block_store.specs.declared.cells.Chain.{Chain}

abbrev pub blank : Block
blank = record { next = 0; seen = false; words = [] }

abbrev pub none : Chain
none = record { first = 0; blocks = 0; len = 0 }

abbrev pub next_in : List Block → ℕ → ℕ
next_in bs p = (get_or bs p blank).next

abbrev pub words_in : List Block → ℕ → List ℕ
words_in bs p = (get_or bs p blank).words

abbrev pub chain_at : List Chain → ℕ → Chain
chain_at dir k = slice_index_or dir k none

abbrev pub first_in : List Chain → ℕ → ℕ
first_in dir k = (chain_at dir k).first

abbrev pub blocks_in : List Chain → ℕ → ℕ
blocks_in dir k = (chain_at dir k).blocks

abbrev pub chain_content : List Block → Chain → List ℕ
chain_content bs e = content (next_in bs) (words_in bs) e.blocks e.first

-- the file of a chain
abbrev pub chain_file : List Block → Chain → File
chain_file bs e = cond (nat_lt 0 e.blocks) (Some (take e.len (chain_content bs e))) None

abbrev pub chain_files : List Chain → List Block → Files
chain_files dir bs = map (chain_file bs) (take key_count dir)

-- Every block is in one chain, once.
abbrev pub Linked : List Chain → List Block → Type 0
Linked dir bs =
    (length dir ≡ chain_count)
    × (sum_by (λ e. e.blocks) dir ≡ length bs)
    × ((p : ℕ) → p < length bs → length (words_in bs p) ≡ 4)
    × Within (next_in bs) (first_in dir) (blocks_in dir) (length bs)
    × Apart (next_in bs) (first_in dir) (blocks_in dir)

-- a chain has the blocks that its words want
abbrev pub Full : Chain → Type 0
Full e = 0 < e.blocks → (e.blocks ≡ cost 4 e.len) × (e.len ≤ longest)

abbrev pub AllFull : List Chain → Type 0
AllFull dir = (k : ℕ) → k < key_count → Full (chain_at dir k)

-- What holds of a store between calls.
abbrev pub Kept : List Chain → List Block → Type 0
Kept dir bs = Linked dir bs × AllFull dir
