use Rattle.std.proofs.Common.{◌<◌, sym, ◌∙◌, arith}
use Rattle.store.specs.Files.{key_count}
use Rattle.store.proofs.Facts.{moved_cleared}
use Rattle.block_store.specs.Lent.{files_in}
use Rattle.block_store.proofs.ChainFacts.{renamed_kept, renamed_files}
use Rattle.block_store.proofs.FileFacts.{freed_files, freed_kept, held_low, store_facts}
use Rattle.block_store.proofs.blocks.BlockStoreStore.carry.Goals as goal

pub invariant_of-self : goal.invariant_of-self
invariant_of-self c =
    let n = c.args.self.now.chains in
    let h = c.free.new.self in
    let m = c.rename.new.self in
    let fl : c.args.from < key_count = held_low n c.args.from (sym c.chain.ensures.held ∙ sym c.is_some.ensures ∙ c.if-is_some.true) in
    let freed = freed_kept n h c.args.to c.args.self.now.full (omega arith) c.free.ensures.others c.free.ensures.empty in
    let f = store_facts m.dir.now m.blocks.now (renamed_kept h m c.args.from c.args.to freed.1 c.rename.ensures.blocks fl (omega arith) c.free.ensures.empty c.rename.ensures.from c.rename.ensures.to c.rename.ensures.others) in
    record { full = f.0; keys = f.1; room = f.2 }

pub returns-then-from-to-clause-files : goal.returns-then-from-to-clause-files
returns-then-from-to-clause-files c =
    let n = c.args.self.now.chains in
    let h = c.free.new.self in
    let m = c.rename.new.self in
    let held = sym c.chain.ensures.held ∙ sym c.is_some.ensures ∙ c.if-is_some.true in
    let fl : c.args.from < key_count = held_low n c.args.from held in
    let tl : c.args.to < key_count = omega arith in
    let freed = freed_kept n h c.args.to c.args.self.now.full tl c.free.ensures.others c.free.ensures.empty in
    renamed_files h m c.args.from c.args.to freed.1 c.rename.ensures.blocks fl tl c.free.ensures.empty c.rename.ensures.from c.rename.ensures.to c.rename.ensures.others
    ∙ moved_cleared (files_in n) (files_in h) c.args.from c.args.to held tl c.if-from-to.true (freed_files n h c.args.to c.args.self.now.full tl c.free.ensures.others c.free.ensures.empty)
