use Rattle.std.proofs.Common.{Some, sym, ap, ◌∙◌, arith}
use Rattle.block_store.proofs.FileFacts.{file_length}
use Rattle.block_store.proofs.blocks.BlockStoreStore.length.Goals as goal

pub returns : goal.returns
returns c =
    let s = c.args.self.now in
    let e = c.in_ok-chain.ensures.found in
    ap (λ x. Some x.len) (sym e.1) ∙ file_length s.chains.dir.now s.chains.blocks.now (s.chains.linked, s.full) c.args.key e.0 (omega (arith, ap (λ x. x.blocks) e.1, e.2))
