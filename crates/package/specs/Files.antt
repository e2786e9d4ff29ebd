-- The files that are left of a package, one by one.
use Rattle.std.specs.Prelude.{List, drop}
use Rattle.package.specs.declared.files.File.{File}
use Rattle.package.specs.declared.files.Files.{Files}
use Rattle.package.specs.declared.package.Package.{Package}
use Rattle.package.specs.Items.{left_from}
use Rattle.package.specs.Wares.{Ware, wares}

abbrev pub ware_of : File → Ware
ware_of file = record { kind = file.kind; path = file.path; words = file.content.now }

abbrev pub files_left : Files → List Ware
files_left files = wares 0 (left_from files.items)

-- the files of a package, in the words that it was read from
abbrev pub files_of : Package → List Ware
files_of new = wares 0 (drop new.first_file new.words.now)
