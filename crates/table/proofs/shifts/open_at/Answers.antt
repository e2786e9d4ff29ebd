use Rattle.table.proofs.Moves.{opened}
use Rattle.table.proofs.shifts.open_at.Goals as goal

pub returns : goal.returns
returns g c = opened c.args.rows.now c.args.i c.args.n c.args.row c.rotate_right.new.self c.requires.0 c.requires.1 c.rotate_right.ensures.after
