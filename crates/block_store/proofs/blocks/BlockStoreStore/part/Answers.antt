use Rattle.std.proofs.Common.{◌-◌, ◌*◌, min, ◌∙◌, ap, sym, arith}
use Rattle.block_store.proofs.FileFacts.{part_of, part_past}
use Rattle.block_store.proofs.blocks.BlockStoreStore.part.Goals as goal

pub returns-then-at-chain : goal.returns-then-at-chain
returns-then-at-chain c =
    let s = c.args.self.now in
    let e = c.in-Some.ensures.found in
    part_past s.chains.dir.now s.chains.blocks.now (s.chains.linked, s.full) c.args.key c.args.at e.0 (omega (arith, ap (λ x. x.blocks) e.1, c.if-at-chain.true))

pub returns : goal.returns
returns c =
    let s = c.args.self.now in
    let e = c.in-Some.ensures.found in
    c.front.ensures
    ∙ part_of s.chains.dir.now s.chains.blocks.now (s.chains.linked, s.full) c.args.key c.args.at c.block-block.result c.min.result e.0 (omega (arith, ap (λ x. x.blocks) e.1)) c.block-block.ensures
    (c.min.ensures ∙ ap (λ x. min (x.len - 4 * c.args.at) 4) (sym e.1))
