use Rattle.std.proofs.Common.{sym}
use Rattle.base.proofs.Rows.{row_made, row_of_holds}
use Rattle.base.proofs.texts.ShortText.holding.Goals as goal

pub returns-then-is_allowed : goal.returns-then-is_allowed
returns-then-is_allowed c =
    let e = row_made c.args.kind c.args.text.now c.zero_padded.result (sym c.if-is_allowed.ensures) c.zero_padded.ensures in
    record { value = e; held = row_of_holds c.args.kind c.args.text.now c.zero_padded.result e }
