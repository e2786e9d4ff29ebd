use Rattle.encoding.proofs.Exact.{by_reading, package_yes, package_no}
use Rattle.encoding.proofs.laws.is_package.Goals as goal

pub returns : goal.returns
returns c =
    by_reading c.read_package.result c.is_ok.result c.is_ok.ensures.value c.read_package.ensures (λ r h. package_yes c.args.words.now h.accepted) (λ e h. package_no c.args.words.now e h)
