use Rattle.std.proofs.Common.{◌≡◌, ℕ, ◌*◌, ◌/◌, ◌<◌, ◌≤◌, [], ◌++◌, length, get_or, take, vec_items, ap, sym, ◌∙◌, arith, rules}
use Rattle.std.proofs.lemmas.List.{take_more, take_all, flat_map_more}
use Rattle.std.proofs.lemmas.Nat.{be_bytes_4}
use Rattle.std.specs.List.{flat_map}
use Rattle.std.specs.Simd.{first_chunks}
use Rattle.wordfile.specs.Layout.{file_bytes, four_bytes}
use Rattle.wordfile.proofs.Cuts.{one_more, joined, four_long, four_small}
use Rattle.wordfile.proofs.layout.words_in.Goals as goal

pub loop-four-preserved : goal.loop-four-preserved
loop-four-preserved c =
    let i = c.loop-four.four-index in
    let bytes = c.args.bytes.now in
    let k = length bytes / 4 in
    let fours = c.as_chunks.result.0.now in
    let four = get_or fours i [] in
    let w = c.from_be_bytes.result in
    let h : i < length fours = search rules in
    let cut : four ≡ get_or (first_chunks 4 k bytes) i [] = ap (λ l. get_or l i []) c.as_chunks.ensures.front in
    let inside : i < k = search rules in
    let long : length four ≡ 4 = ap length cut ∙ four_long k i bytes inside (omega arith) in
    let small : (j : ℕ) → get_or four j 0 < 256 = λ j. rw (cut) (four_small k i j bytes (λ n. search rules)) in
    let told : four_bytes w ≡ four = be_bytes_4 four w long small c.from_be_bytes.ensures in
    ap file_bytes c.in_ok-push.ensures.items
    ∙ one_more (vec_items c.loop-four.words) w
    ∙ ap (λ l. l ++ four_bytes w) c.loop-four.invariant
    ∙ ap (λ l. flat_map (λ x. x) (take i fours) ++ l) told
    ∙ flat_map_more (λ x. x) [] (take i fours) four
    ∙ ap (flat_map (λ x. x)) (sym (take_more fours i [] h))

pub returns-then-is_empty : goal.returns-then-is_empty
returns-then-is_empty c =
    let i = c.loop-four.four-index in
    let bytes = c.args.bytes.now in
    let k = length bytes / 4 in
    let fours = c.as_chunks.result.0.now in
    let all : length fours ≤ i = search rules in
    let none : length bytes ≤ k * 4 = search rules in
    c.loop-four.invariant
    ∙ ap (flat_map (λ x. x)) (take_all i fours all ∙ c.as_chunks.ensures.front)
    ∙ joined k bytes
    ∙ take_all (k * 4) bytes none
