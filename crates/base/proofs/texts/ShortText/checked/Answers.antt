use Rattle.std.proofs.Common.{sym, ap, ◌∙◌}
use Rattle.std.proofs.lemmas.Bool.{both_ways}
use Rattle.base.specs.Texts.{allowed, padded}
use Rattle.base.proofs.Rows.{row_yes, row_no, row_if_holds, rows_decide, same_row}
use Rattle.base.proofs.texts.ShortText.checked.Goals as goal

pub returns-then-eq : goal.returns-then-eq
returns-then-eq c =
    let same = (rows_decide c.zero_padded.result c.args.self).0 (sym c.if-eq.ensures) in
    let e = row_yes c.args.kind c.args.self (sym (c.if-not-is_allowed.ensures ∙ ap (allowed c.args.kind) c.as_bytes-text.ensures))
    (ap padded (sym c.as_bytes-text.ensures) ∙ sym c.zero_padded.ensures ∙ ap (λ r. r.bytes) same) in
    record { value = e; held = row_if_holds c.args.kind c.args.self c.args.self e }

pub returns-else-eq : goal.returns-else-eq
returns-else-eq c =
    let e = row_no c.args.kind c.args.self (sym (c.if-not-is_allowed.ensures ∙ ap (allowed c.args.kind) c.as_bytes-text.ensures))
    (λ e. both_ways _ c.if-eq.false (c.eq.ensures ∙ (rows_decide c.zero_padded.result c.args.self).1 (same_row c.zero_padded.result c.args.self (c.zero_padded.ensures ∙ ap padded c.as_bytes-text.ensures ∙ e)))) in
    record { value = e; held = tt }
