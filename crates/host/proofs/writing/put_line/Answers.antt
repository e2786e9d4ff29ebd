use Rattle.writer.proofs.Joins.{first_stopped, then_on, stops}
use Rattle.host.proofs.writing.put_line.Goals as goal

pub returns-in_err-put_word-2 : goal.returns-in_err-put_word-2
returns-in_err-put_word-2 c =
    then_on (rw c.as_bytes.ensures at c.in_ok-put_word.ensures.whole)
    (stops c.from_residual-in_err-put_word-2.ensures.0 (first_stopped _ (rw c.as_bytes-2.ensures at c.in_err-put_word-2.ensures.short)))

pub returns-in_err-put_numeral : goal.returns-in_err-put_numeral
returns-in_err-put_numeral c =
    then_on (rw c.as_bytes.ensures at c.in_ok-put_word.ensures.whole)
    (then_on (rw c.as_bytes-2.ensures at c.in_ok-put_word-2.ensures.whole)
    (stops c.from_residual-in_err-put_numeral.ensures.0 (first_stopped _ (rw c.number.ensures at c.in_err-put_numeral.ensures.short))))

pub returns-in_err-put_numeral-2 : goal.returns-in_err-put_numeral-2
returns-in_err-put_numeral-2 c =
    then_on (rw c.as_bytes.ensures at c.in_ok-put_word.ensures.whole)
    (then_on (rw c.as_bytes-2.ensures at c.in_ok-put_word-2.ensures.whole)
    (then_on (rw c.number.ensures at c.in_ok-put_numeral.ensures.whole)
    (stops c.from_residual-in_err-put_numeral-2.ensures.0 (first_stopped _ (rw c.number-2.ensures at c.in_err-put_numeral-2.ensures.short)))))

pub returns-in_err-put_argument : goal.returns-in_err-put_argument
returns-in_err-put_argument c =
    then_on (rw c.as_bytes.ensures at c.in_ok-put_word.ensures.whole)
    (then_on (rw c.as_bytes-2.ensures at c.in_ok-put_word-2.ensures.whole)
    (then_on (rw c.number.ensures at c.in_ok-put_numeral.ensures.whole)
    (then_on (rw c.number-2.ensures at c.in_ok-put_numeral-2.ensures.whole)
    (stops c.from_residual-in_err-put_argument.ensures.0 (first_stopped _ c.in_err-put_argument.ensures.short)))))

pub returns : goal.returns
returns c =
    then_on (rw c.as_bytes.ensures at c.in_ok-put_word.ensures.whole)
    (then_on (rw c.as_bytes-2.ensures at c.in_ok-put_word-2.ensures.whole)
    (then_on (rw c.number.ensures at c.in_ok-put_numeral.ensures.whole)
    (then_on (rw c.number-2.ensures at c.in_ok-put_numeral-2.ensures.whole)
    (then_on c.in_ok-put_argument.ensures.whole c.put_status.ensures))))
