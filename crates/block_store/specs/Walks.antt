-- Chains of numbered blocks: nx gives the block after a block, hd the first block of each chain, n how many blocks it has.
use Rattle.std.specs.Prelude.{◌≡◌, ℕ, zero, suc, ◌+◌, ◌<◌, List, [], ◌++◌}
use Rattle.store.specs.Files.{key_count}

-- a chain for each key, and past the keys the free one
abbrev pub chain_count : ℕ
chain_count = key_count + 1

-- the block i steps after p
abbrev pub walk : (ℕ → ℕ) → ℕ → ℕ → ℕ
walk nx zero p = p
walk nx (suc i) p = walk nx i (nx p)

-- what c blocks from p on hold
abbrev pub content : (ℕ → ℕ) → (ℕ → List ℕ) → ℕ → ℕ → List ℕ
content nx wd zero p = []
content nx wd (suc c) p = wd p ++ content nx wd c (nx p)

-- each block of a chain is one of the m
abbrev pub Within : (ℕ → ℕ) → (ℕ → ℕ) → (ℕ → ℕ) → ℕ → Type 0
Within nx hd n m = (k i : ℕ) → k < chain_count → i < n k → walk nx i (hd k) < m

-- no block stands at two places
abbrev pub Apart : (ℕ → ℕ) → (ℕ → ℕ) → (ℕ → ℕ) → Type 0
Apart nx hd n =
    (j k i m : ℕ) → j < chain_count → k < chain_count → i < n j → m < n k → walk nx i (hd j) ≡ walk nx m (hd k) → (j ≡ k) × (i ≡ m)
