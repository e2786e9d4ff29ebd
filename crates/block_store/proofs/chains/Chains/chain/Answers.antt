use Rattle.std.proofs.Common.{◌≡◌, ◌<◌, sym, ◌∙◌, arith}
use Rattle.std.proofs.lemmas.List.{get_or-take, length-take}
use Rattle.store.specs.Files.{key_count}
use Rattle.block_store.specs.Chained.{none}
use Rattle.block_store.specs.Lent.{chain_of}
use Rattle.block_store.proofs.FileFacts.{chain_found, chain_held}
use Rattle.block_store.proofs.chains.Chains.chain.Goals as goal

pub slice_bounds-keys-end : goal.slice_bounds-keys-end
slice_bounds-keys-end c = omega (arith, length-take 1024 c.args.self.now.dir.now, c.args.self.now.linked.0)

pub returns : goal.returns
returns c =
    let m = c.args.self.now in
    let dir = m.dir.now in
    let a = c.in_ok-chain.ensures.lookup in
    let kl : c.args.key < key_count = omega (arith, a.3.0, length-take 1024 dir) in
    let is : chain_of m c.args.key ≡ c.in_ok-chain.field-0.now = sym (get_or-take key_count dir c.args.key none kl) ∙ sym (a.3.1 none) in
    record {
      found = rw c.then_some.ensures (chain_found dir m.blocks.now m.linked c.args.key c.in_ok-chain.field-0.now kl is);
      held = rw c.then_some.ensures (chain_held dir m.blocks.now m.linked c.args.key c.in_ok-chain.field-0.now kl is);
    }
