-- What the memory that a store was lent holds.
use Rattle.std.specs.Prelude.{◌≡◌, ℕ, List, length}
use Rattle.store.specs.Files.{File, Files}
use Rattle.block_store.specs.Chained.{chain_at, chain_content, chain_file, chain_files}
use Rattle.block_store.specs.declared.cells.Chain.{Chain}
use Rattle.block_store.specs.declared.chains.Chains.{Chains}

abbrev pub chain_of : Chains → ℕ → Chain
chain_of c k = chain_at c.dir.now k

abbrev pub content_of : Chains → ℕ → List ℕ
content_of c k = chain_content c.blocks.now (chain_of c k)

abbrev pub file_of : Chains → ℕ → File
file_of c k = chain_file c.blocks.now (chain_of c k)

-- chain j, and what it holds, is in c as it is in d
abbrev pub Same : Chains → Chains → ℕ → Type 0
Same c d j = (chain_of c j ≡ chain_of d j) × (file_of c j ≡ file_of d j)

abbrev pub files_in : Chains → Files
files_in c = chain_files c.dir.now c.blocks.now

-- every block is one unit
abbrev pub units_in : Chains → ℕ
units_in c = length c.blocks.now
