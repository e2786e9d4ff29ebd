use Rattle.std.proofs.Common.{arith}
use Rattle.block_store.proofs.FileFacts.{freed_files, freed_kept, store_facts}
use Rattle.block_store.proofs.blocks.BlockStoreStore.clear.Goals as goal

pub invariant_of-self : goal.invariant_of-self
invariant_of-self c =
    let m = c.free.new.self in
    let f = store_facts m.dir.now m.blocks.now (freed_kept c.args.self.now.chains m c.args.key c.args.self.now.full (omega arith) c.free.ensures.others c.free.ensures.empty) in
    record { full = f.0; keys = f.1; room = f.2 }

pub returns-then-key-lt-KEYS-clause-files : goal.returns-then-key-lt-KEYS-clause-files
returns-then-key-lt-KEYS-clause-files c = freed_files c.args.self.now.chains c.free.new.self c.args.key c.args.self.now.full (omega arith) c.free.ensures.others c.free.ensures.empty
