use Rattle.books.proofs.Removals.{removes_out}
use Rattle.books.proofs.rows.take_out.Goals as goal

pub returns-clause-out : goal.returns-clause-out
returns-clause-out g c = removes_out g.met.E.K.Key.total g.E.Element.keyed c.args.key c.args.table.now c.remove.new.self c.remove.result c.remove.ensures.removes
