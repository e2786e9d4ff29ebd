use Rattle.std.proofs.Common.{sym, ap, ◌∙◌}
use Rattle.store.specs.Sides.{sides_at, change}
use Rattle.steps.specs.Wares.{unwound}
use Rattle.steps.specs.declared.pass.Unwind.{Unwind}
use Rattle.steps.proofs.tokens.unwind_one.Goals as goal

pub returns-in-PutBack-clause-sides : goal.returns-in-PutBack-clause-sides
returns-in-PutBack-clause-sides g c =
    c.put_back.ensures.sides ∙ ap (λ (a : Unwind). change c.args.path (unwound a c.args.kind) (sides_at (g.S.Store.files c.args.store.now))) (sym c.in-PutBack.is)

pub returns-in-Discard-clause-sides : goal.returns-in-Discard-clause-sides
returns-in-Discard-clause-sides g c =
    c.discard.ensures.sides ∙ ap (λ (a : Unwind). change c.args.path (unwound a c.args.kind) (sides_at (g.S.Store.files c.args.store.now))) (sym c.in-Discard.is)
