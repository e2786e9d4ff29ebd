use Rattle.std.proofs.Common.{◌≡◌, ◌<◌, ◌≤◌, ◌++◌, length, get_or, vec_items, sym, ap, ◌∙◌, rules}
use Rattle.std.proofs.lemmas.List.{take_all}
use Rattle.wordfile.specs.Layout.{four_bytes, file_bytes}
use Rattle.wordfile.proofs.Cuts.{take_one_more}
use Rattle.wordfile.proofs.layout.bytes_of.Goals as goal

pub loop-word-preserved : goal.loop-word-preserved
loop-word-preserved c =
    let h : c.loop-word.word-index < length c.args.words.now = search rules in
    let e : vec_items c.extend_from_slice.new.self ≡ vec_items c.loop-word.bytes ++ four_bytes (get_or c.args.words.now c.loop-word.word-index 0) = search rules in
    e ∙ ap (λ l. l ++ four_bytes (get_or c.args.words.now c.loop-word.word-index 0)) c.loop-word.invariant
    ∙ sym (take_one_more c.args.words.now c.loop-word.word-index h)

pub returns : goal.returns
returns c =
    let h : length c.args.words.now ≤ c.loop-word.word-index = search rules in
    c.loop-word.invariant ∙ ap file_bytes (take_all c.loop-word.word-index c.args.words.now h)
