use Rattle.encoding.proofs.Exact.{accepted_encoded, name_exact}
use Rattle.encoding.proofs.Whole.{encoded_accepted, name_accepted}
use Rattle.encoding.proofs.laws.encoding_law.Goals as goal

pub returns : goal.returns
returns c = record { encoded = accepted_encoded; accepted = encoded_accepted; name_encoded = name_exact; name_accepted = name_accepted }
