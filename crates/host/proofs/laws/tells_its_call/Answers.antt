use Rattle.host.proofs.Tells.{tells_its_call}
use Rattle.host.proofs.laws.tells_its_call.Goals as goal

pub returns : goal.returns
returns c = tells_its_call
