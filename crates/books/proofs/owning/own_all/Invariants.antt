use Rattle.std.proofs.Common.{◌≡◌, ◌+◌, ◌≤◌, length}
use Rattle.package.specs.Files.{files_of, files_left}
use Rattle.table.specs.Answers.{live, room}
use Rattle.steps.specs.Wares.{Distinct}
use Rattle.books.specs.Changes.{owners_in}
use Rattle.books.specs.Owners.{fresh_count}
use Rattle.books.proofs.Ownings.{Onwards}
use Rattle.books.proofs.owning.own_all.Given as goal

abbrev pub invariant-loop-file : goal.invariant-loop-file
invariant-loop-file l = record {
  places : room l.owners ≡ room l.fn.owners;
  apart : Distinct (files_left l.file-iterator);
  owned :
      length (live l.fn.owners) + fresh_count (owners_in (live l.fn.owners)) (files_of l.new) ≤ room l.fn.owners
      → Onwards l.name (files_of l.new) (files_left l.file-iterator) (room l.fn.owners) (live l.fn.owners) (live l.owners);
}
