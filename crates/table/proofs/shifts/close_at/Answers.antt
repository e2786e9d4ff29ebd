use Rattle.std.proofs.Common.{sym, ◌∙◌}
use Rattle.std.proofs.lemmas.List.{get_or-take}
use Rattle.table.proofs.Moves.{closed}
use Rattle.table.proofs.shifts.close_at.Goals as goal

pub returns-clause-was : goal.returns-clause-was
returns-clause-was g c = c.index-rows-i.is ∙ sym (get_or-take c.args.n c.args.rows.now c.args.i c.index-rows-i.result c.requires.0)

pub returns-clause-rows : goal.returns-clause-rows
returns-clause-rows g c = closed c.args.rows.now c.args.i c.args.n c.rotate_left.new.self c.requires.0 c.requires.1 c.rotate_left.ensures.after
