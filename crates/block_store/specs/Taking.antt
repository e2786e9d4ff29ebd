-- Which memory is a whole image, that may be taken up again.
use Rattle.std.specs.Prelude.{◌≡◌, ℕ, ◌+◌, ◌<◌, Bool, true, false, not, ◌⊎◌, List, length, take, sum_by, count_by, slice_index_or}
use Rattle.store.specs.Files.{key_count}
use Rattle.block_store.specs.Walks.{walk}
use Rattle.block_store.specs.Chained.{blank, next_in, words_in, chain_at, first_in, blocks_in, Full}
use Rattle.block_store.specs.declared.cells.Block.{Block}
use Rattle.block_store.specs.declared.cells.Chain.{Chain}

-- The chains of the first k keys are good: each has the blocks that its words want, each block is one of the m, and no block
-- stands at two places.
abbrev pub Good : List Chain → (ℕ → ℕ) → ℕ → ℕ → Type 0
Good dir nx m k =
    ((j : ℕ) → j < k → Full (chain_at dir j))
    × ((j i : ℕ) → j < k → i < blocks_in dir j → walk nx i (first_in dir j) < m)
    × ((j l i n : ℕ) → j < k → l < k → i < blocks_in dir j → n < blocks_in dir l → walk nx i (first_in dir j) ≡ walk nx n (first_in dir l) → (j ≡ l) × (i ≡ n))

abbrev pub Whole : List Chain → List Block → Type 0
Whole dir bs = Good dir (next_in bs) (length bs) key_count

-- k is the first key whose chain is not good
abbrev pub Damaged : List Chain → List Block → ℕ → Type 0
Damaged dir bs k = (k < key_count) × Good dir (next_in bs) (length bs) k × (Good dir (next_in bs) (length bs) (k + 1) → ⊥)

-- While an image is looked through, `seen` marks the blocks of the chains so far.
abbrev pub seen_in : List Block → ℕ → Bool
seen_in bs p = (slice_index_or bs p blank).seen

abbrev pub unseen : Block → Bool
unseen b = not b.seen

-- the next c blocks from p on are there, without a mark, and no two of them the same
abbrev pub Fresh : List Block → ℕ → ℕ → Type 0
Fresh bs c p =
    ((i : ℕ) → i < c → (walk (next_in bs) i p < length bs) × (seen_in bs (walk (next_in bs) i p) ≡ false))
    × ((i m : ℕ) → i < c → m < c → walk (next_in bs) i p ≡ walk (next_in bs) m p → i ≡ m)

-- in new they have their marks, and nothing else has changed
abbrev pub Marked : List Block → List Block → ℕ → ℕ → Type 0
Marked bs new c p =
    ((i : ℕ) → i < c → seen_in new (walk (next_in bs) i p) ≡ true)
    × ((q : ℕ) → seen_in bs q ≡ true → seen_in new q ≡ true)
    × ((q : ℕ) → seen_in new q ≡ true → (seen_in bs q ≡ true) ⊎ ((i : ℕ) × (i < c) × (walk (next_in bs) i p ≡ q)))
    × (count_by unseen new + c ≡ count_by unseen bs)
    × ((i : ℕ) → i < c → length (words_in bs (walk (next_in bs) i p)) ≡ 4)

abbrev pub Untouched : List Block → List Block → Type 0
Untouched new bs = ((q : ℕ) → next_in new q ≡ next_in bs q) × ((q : ℕ) → words_in new q ≡ words_in bs q)

-- the marks after the first k chains
abbrev pub Marks : List Chain → List Block → ℕ → Type 0
Marks dir bs k =
    Good dir (next_in bs) (length bs) k
    × ((j i : ℕ) → j < k → i < blocks_in dir j → (seen_in bs (walk (next_in bs) i (first_in dir j)) ≡ true) × (length (words_in bs (walk (next_in bs) i (first_in dir j))) ≡ 4))
    × ((q : ℕ) → seen_in bs q ≡ true → (j : ℕ) × (i : ℕ) × (j < k) × (i < blocks_in dir j) × (walk (next_in bs) i (first_in dir j) ≡ q))
    × (count_by unseen bs + sum_by (λ e. e.blocks) (take k dir) ≡ length bs)

-- the n blocks from p on had no mark in bs, and each stands before the one that leads to it
abbrev pub Unmarked : List Block → List Block → ℕ → ℕ → Type 0
Unmarked bs new p n =
    ((i : ℕ) → i < n → (walk (next_in new) i p < length bs) × (seen_in bs (walk (next_in new) i p) ≡ false))
    × ((i m : ℕ) → i < m → m < n → walk (next_in new) m p < walk (next_in new) i p)
