use Rattle.std.proofs.Common.{◌∙◌}
use Rattle.host.proofs.Tells.{line_test}
use Rattle.host.proofs.line.Line.tells.Goals as goal

pub returns : goal.returns
returns c = rw c.new.ensures at c.eq.ensures ∙ line_test c.args.self.now c.args.call
