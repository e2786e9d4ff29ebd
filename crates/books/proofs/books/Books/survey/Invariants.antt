use Rattle.std.proofs.Common.{◌≡◌, ◌+◌, ◌≤◌, ◌||◌, length}
use Rattle.package.specs.Files.{files_of, files_left}
use Rattle.books.specs.Ledger.{ledger}
use Rattle.books.specs.Changes.{owners_in}
use Rattle.books.specs.Owners.{foreign_at, differs_at, any_of, fresh_count}
use Rattle.books.proofs.books.Books.survey.Given as goal

abbrev pub invariant-loop-file : goal.invariant-loop-file
invariant-loop-file l = record {
  foreign :
      (l.survey.foreign || any_of (λ x. foreign_at l.name (owners_in (ledger l.self).owners x.path)) (files_left l.file-iterator))
      ≡ any_of (λ x. foreign_at l.name (owners_in (ledger l.self).owners x.path)) (files_of l.new);
  differing :
      (l.survey.differing || any_of (λ x. differs_at x.kind (owners_in (ledger l.self).owners x.path)) (files_left l.file-iterator))
      ≡ any_of (λ x. differs_at x.kind (owners_in (ledger l.self).owners x.path)) (files_of l.new);
  fresh : l.survey.fresh + fresh_count (owners_in (ledger l.self).owners) (files_left l.file-iterator) ≡ fresh_count (owners_in (ledger l.self).owners) (files_of l.new);
  few : l.survey.fresh + length (files_left l.file-iterator) ≤ 24;
}
