use Rattle.std.proofs.Common.{◌-◌, ◌<◌, length, arith}
use Rattle.table.specs.Answers.{live}
use Rattle.books.proofs.Disowns.{read_row, takes_out, ends}
use Rattle.books.proofs.disowning.disown_rows.Goals as goal

pub loop-i-preserved-then-is_let_go : goal.loop-i-preserved-then-is_let_go
loop-i-preserved-then-is_let_go c =
    let t = c.loop-i.owners in
    let i = c.loop-i.i in
    let b = c.loop-i.invariant in
    let lt : i - 1 < length (live t) = omega (arith, c.loop-i-test.true, b.within) in
    takes_out _ _ _ _ t c.remove_at.new.self i (i - 1) _ c.remove_at.result b (omega arith)
    (read_row c.rows.result.now _ (i - 1) _ c.rows.ensures lt) c.if-is_let_go.ensures
    c.remove_at.ensures.room c.remove_at.ensures.takes

pub returns-clause-law : goal.returns-clause-law
returns-clause-law c = ends _ _ _ _ c.loop-i.owners c.loop-i.i c.loop-i.invariant c.loop-i-test.false
