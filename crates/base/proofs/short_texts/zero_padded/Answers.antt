use Rattle.base.proofs.Walks.{pads}
use Rattle.base.proofs.short_texts.zero_padded.Goals as goal

pub returns : goal.returns
returns c = pads c.copy_from_slice.new.self c.args.text.now c.copy_from_slice.ensures.after
