-- What books hold.
use Rattle.std.specs.Prelude.{ℕ, List}
use Rattle.writer.specs.Items.{items_in, space}
use Rattle.host.specs.declared.line.Line.{Line}
use Rattle.status.specs.declared.rows.Record.{Record}
use Rattle.status.specs.declared.rows.Owned.{Owned}
use Rattle.table.specs.Answers.{live}
use Rattle.books.specs.declared.books.Books.{Books}

pub record Ledger : Type 0 where
  pub records : List Record
  pub owners : List Owned
  pub lines : List Line
  -- how many lines the trace has room for in all
  pub space : ℕ

abbrev pub ledger : Books → Ledger
ledger b = record {
  records = live b.records;
  owners = live b.owners;
  lines = items_in b.trace;
  space = space b.trace;
}
