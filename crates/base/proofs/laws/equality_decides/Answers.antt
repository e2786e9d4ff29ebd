use Rattle.base.proofs.Rows.{rows_decide, texts_decide}
use Rattle.base.proofs.laws.equality_decides.Goals as goal

pub returns : goal.returns
returns c = record {
  by_bytes = record { rows = rows_decide; names = texts_decide; versions = texts_decide };
  rows = rows_decide;
  names = texts_decide;
  versions = texts_decide;
}
