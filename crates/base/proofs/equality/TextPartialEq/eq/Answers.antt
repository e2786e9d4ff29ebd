use Rattle.base.proofs.Rows.{texts_decide}
use Rattle.base.proofs.equality.TextPartialEq.eq.Goals as goal

pub returns-clause-decides : goal.returns-clause-decides
returns-clause-decides g c = rw c.eq.ensures (texts_decide c.args.self.now c.args.other.now)
