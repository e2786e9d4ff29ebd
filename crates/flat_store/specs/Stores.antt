-- What a flat store holds.
use Rattle.std.specs.Prelude.{ℕ, length}
use Rattle.store.specs.Files.{Files}
use Rattle.flat_store.specs.Images.{image_files}
use Rattle.flat_store.specs.declared.flat.FlatStore.{FlatStore}

abbrev pub files_in : FlatStore → Files
files_in m = image_files m.dir.now m.slots.now

-- every slot is one unit
abbrev pub units_in : FlatStore → ℕ
units_in m = length m.slots.now
