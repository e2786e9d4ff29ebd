use Rattle.std.proofs.Common.{◌∙◌, arith}
use Rattle.std.proofs.lemmas.List.Sorted.{sum_by-IsPermutation}
use Rattle.block_store.specs.declared.cells.Chain.{Chain}
use Rattle.block_store.proofs.chains.Chains.rename.Goals as goal

pub invariant_of-self : goal.invariant_of-self
invariant_of-self c =
    let m = c.args.self.now in
    record { linked = (c.swap.ensures.len ∙ m.linked.0, sum_by-IsPermutation (λ (e : Chain). e.blocks) _ _ c.swap.ensures.permutation ∙ m.linked.1, m.linked.2, grind arith, grind arith) }
