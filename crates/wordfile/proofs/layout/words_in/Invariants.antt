use Rattle.std.proofs.Common.{◌≡◌, take, vec_items}
use Rattle.std.specs.List.{flat_map}
use Rattle.wordfile.specs.Layout.{file_bytes}
use Rattle.wordfile.proofs.layout.words_in.Given as goal

abbrev pub invariant-loop-four : goal.invariant-loop-four
invariant-loop-four l = file_bytes (vec_items l.words) ≡ flat_map (λ x. x) (take l.four-index l.fours)
