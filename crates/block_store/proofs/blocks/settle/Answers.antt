use Rattle.std.proofs.Common.{◌∙◌, arith}
use Rattle.block_store.proofs.Taken.{taken_kept, taken_files, same_files, not_both}
use Rattle.block_store.proofs.blocks.settle.Goals as goal

pub returns-in-Some-clause-whole : goal.returns-in-Some-clause-whole
returns-in-Some-clause-whole c = λ h. absurd (not_both _ _ _ h c.in-Some.ensures.found)

pub returns-in-None-clause-kept : goal.returns-in-None-clause-kept
returns-in-None-clause-kept c =
    taken_kept c.args.dir.now c.look_through.new.blocks c.chain_free.new.blocks c.chain_free.result (omega arith) c.chain_free.auto.blocks c.in-None.ensures.marks c.chain_free.ensures.kept c.chain_free.ensures.wide c.chain_free.ensures.free c.chain_free.ensures.count

pub returns-in-None-clause-whole : goal.returns-in-None-clause-whole
returns-in-None-clause-whole c = λ h.
    taken_files c.args.dir.now c.look_through.new.blocks c.chain_free.new.blocks c.chain_free.result (omega arith) c.chain_free.auto.blocks c.in-None.ensures.marks c.chain_free.ensures.kept c.chain_free.ensures.wide c.chain_free.ensures.free c.chain_free.ensures.count
    ∙ same_files c.args.dir.now _ c.look_through.new.blocks c.look_through.ensures.same
