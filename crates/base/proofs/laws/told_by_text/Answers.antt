use Rattle.base.proofs.Rows.{told_text}
use Rattle.base.proofs.laws.told_by_text.Goals as goal

pub returns : goal.returns
returns c = (told_text, told_text)
