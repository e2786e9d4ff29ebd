use Rattle.std.proofs.Common.{◌<◌, Some, ◌∙◌, arith}
use Rattle.store.specs.Files.{key_count}
use Rattle.store.proofs.Facts.{admits_yes, admits_full}
use Rattle.block_store.specs.Lent.{files_in, units_in}
use Rattle.block_store.proofs.FileFacts.{put_units, changed_kept, changed_files, store_facts}
use Rattle.block_store.proofs.blocks.BlockStoreStore.put.Goals as goal

pub returns-then-missing-self-clause-answer : goal.returns-then-missing-self-clause-answer
returns-then-missing-self-clause-answer c =
    let n = c.args.self.now.chains in
    admits_full 4 (units_in n) (files_in n) c.args.key c.args.words.now
    (omega (arith, put_units n.dir.now n.blocks.now (n.linked, c.args.self.now.full) c.args.key c.args.words.now (omega arith), c.blocks_for.ensures, c.saturating_sub-missing.ensures))

pub invariant_of-self : goal.invariant_of-self
invariant_of-self c =
    let n = c.args.self.now.chains in
    let m = c.fill.new.self in
    let f = store_facts m.dir.now m.blocks.now (changed_kept n m c.args.key c.args.self.now.full (omega arith) (λ j ne jl. let a = c.fill.ensures.others j ne jl in let b = c.free.ensures.others j ne jl in (a.0 ∙ b.0, a.1 ∙ b.1)) c.fill.ensures.full) in
    record { full = f.0; keys = f.1; room = f.2 }

pub returns-clause-answer : goal.returns-clause-answer
returns-clause-answer c =
    let n = c.args.self.now.chains in
    let kl : c.args.key < key_count = omega arith in
    admits_yes 4 (units_in n) (files_in n) c.args.key c.args.words.now (omega arith) kl (omega (arith, put_units n.dir.now n.blocks.now (n.linked, c.args.self.now.full) c.args.key c.args.words.now kl, c.blocks_for.ensures, c.saturating_sub-missing.ensures))

pub returns-clause-files : goal.returns-clause-files
returns-clause-files c =
    let n = c.args.self.now.chains in
    let m = c.fill.new.self in
    changed_files n m c.args.key c.args.self.now.full (omega arith) (λ j ne jl. let a = c.fill.ensures.others j ne jl in let b = c.free.ensures.others j ne jl in (a.0 ∙ b.0, a.1 ∙ b.1)) (Some c.args.words.now) c.fill.ensures.file
