use Rattle.std.proofs.Common.{◌∙◌}
use Rattle.package.specs.Files.{ware_of, files_left}
use Rattle.store.specs.Sides.{sides_at}
use Rattle.steps.proofs.Layings.{unwind_turn, unwind_end}
use Rattle.steps.proofs.tokens.unwind.Goals as goal

pub loop-file-preserved : goal.loop-file-preserved
loop-file-preserved g c =
    let s = c.in-Some.ensures.steps in
    record {
      sides = unwind_turn c.args.how _ _ (ware_of c.in-Some.file) _ _ (sides_at (g.S.Store.files c.loop-file.store)) _ s.0 s.1 c.unwind_one.ensures.sides ∙ c.loop-file.invariant.sides;
      units = c.unwind_one.ensures.units ∙ c.loop-file.invariant.units;
    }

pub returns-clause-sides : goal.returns-clause-sides
returns-clause-sides g c =
    unwind_end c.args.how c.loop-file.file-iterator.n (files_left c.loop-file.file-iterator.iter) _ (λ h. (c.in-None.ensures.steps h).0) ∙ c.loop-file.invariant.sides
