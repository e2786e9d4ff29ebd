use Rattle.base.proofs.Walks.{take_spelt_at}
use Rattle.base.proofs.texts.ShortText.as_bytes.Goals as goal

pub returns : goal.returns
returns c = take_spelt_at c.args.self.now.bytes c.len-n.result c.len-n.ensures.value
