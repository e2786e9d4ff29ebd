use Rattle.std.proofs.Common.{◌≡◌, take, vec_items}
use Rattle.wordfile.specs.Layout.{file_bytes}
use Rattle.wordfile.proofs.layout.bytes_of.Given as goal

abbrev pub invariant-loop-word : goal.invariant-loop-word
invariant-loop-word l = vec_items l.bytes ≡ file_bytes (take l.word-index l.words)
