use Rattle.std.proofs.Common.{arith}
use Rattle.block_store.proofs.ChainFacts.{two_le, shift_linked, shift_other, shift_content}
use Rattle.block_store.proofs.chains.Chains.shift.Goals as goal

pub offset_bounds-blocks-source : goal.offset_bounds-blocks-source
offset_bounds-blocks-source c = omega (arith, c.args.self.now.linked.3 c.args.from 0 c.requires.from c.requires.some)

pub bounds-blocks-source : goal.bounds-blocks-source
bounds-blocks-source c = c.args.self.now.linked.3 c.args.from 0 c.requires.from c.requires.some

pub offset_bounds-blocks-source-2 : goal.offset_bounds-blocks-source-2
offset_bounds-blocks-source-2 c = omega (arith, c.args.self.now.linked.3 c.args.from 0 c.requires.from c.requires.some)

pub bounds-blocks-source-2 : goal.bounds-blocks-source-2
bounds-blocks-source-2 c = c.args.self.now.linked.3 c.args.from 0 c.requires.from c.requires.some

pub overflow_add-dir : goal.overflow_add-dir
overflow_add-dir c = let m = c.args.self.now in omega (arith, c.requires.some, two_le m c.args.from c.args.to c.requires.from c.requires.to c.requires.apart)

pub invariant_of-self : goal.invariant_of-self
invariant_of-self c =
    let m = c.args.self.now in
    record { linked = shift_linked m c.args.from c.args.to c.args.words c.args.len c.requires.from c.requires.to c.requires.apart c.requires.some (omega arith) }

pub returns-clause-others : goal.returns-clause-others
returns-clause-others c =
    let m = c.args.self.now in
    shift_other m c.args.from c.args.to c.args.words c.args.len c.requires.from c.requires.to c.requires.apart c.requires.some (omega arith)

pub returns-clause-content : goal.returns-clause-content
returns-clause-content c =
    let m = c.args.self.now in
    shift_content m c.args.from c.args.to c.args.words c.args.len c.requires.from c.requires.to c.requires.apart c.requires.some (omega arith)
