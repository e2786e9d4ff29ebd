use Rattle.std.proofs.Common.{Bool, cond, ap, ◌∙◌}
use Rattle.store.specs.Sides.{Sides, sides_at, change}
use Rattle.steps.specs.Steps.{passed}
use Rattle.steps.proofs.owning.pass_one.Goals as goal

pub returns-then-is_passed : goal.returns-then-is_passed
returns-then-is_passed g c =
    let o = c.args.owned in
    let f = sides_at (g.S.Store.files c.args.store.now) in
    record {
      sides = c.pass_over.ensures.sides ∙ ap (λ (t : Bool). change o.path (λ (s : Sides). cond t (passed c.args.pass o.kind s) s) f) c.if-is_passed.ensures;
      units = c.pass_over.ensures.units;
    }
