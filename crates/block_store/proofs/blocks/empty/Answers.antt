use Rattle.std.proofs.Common.{◌≡◌, length, replicate, ap, ◌∙◌, arith}
use Rattle.block_store.specs.Walks.{chain_count}
use Rattle.block_store.specs.Chained.{none}
use Rattle.block_store.proofs.ChainFacts.{new_kept, new_files}
use Rattle.block_store.proofs.blocks.empty.Goals as goal

pub returns : goal.returns
returns c =
    let bs = c.link_all.new.blocks in
    let long : length c.args.dir.now ≡ chain_count = omega arith in
    let none_all : c.fill.new.self ≡ replicate chain_count none = c.fill.ensures.after (λ y h. h) ∙ ap (λ n. replicate n none) long in
    record {
      kept = new_kept bs c.fill.new.self none_all c.link_all.ensures.next c.link_all.ensures.wide;
      files = new_files bs c.fill.new.self none_all c.link_all.ensures.next c.link_all.ensures.wide;
    }
