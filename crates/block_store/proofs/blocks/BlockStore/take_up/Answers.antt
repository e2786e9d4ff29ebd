use Rattle.block_store.proofs.FileFacts.{store_facts}
use Rattle.block_store.proofs.blocks.BlockStore.take_up.Goals as goal

pub invariant_of-result-2 : goal.invariant_of-result-2
invariant_of-result-2 c =
    let f = store_facts c.settle.new.dir c.settle.new.blocks c.settle.ensures.kept in
    record { full = f.0; keys = f.1; room = f.2 }
