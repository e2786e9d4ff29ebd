use Rattle.encoding.proofs.Exact.{by_reading, name_yes, name_no}
use Rattle.encoding.proofs.laws.is_name.Goals as goal

pub returns : goal.returns
returns c =
    by_reading c.read_name.result c.is_ok.result c.is_ok.ensures.value c.read_name.ensures (λ r h. name_yes c.args.words.now h.accepted) (λ e h. name_no c.args.words.now e h)
