use Rattle.std.proofs.Common.{List, take, ap, ◌∙◌}
use Rattle.package.specs.Wares.{Ware}
use Rattle.store.specs.Sides.{sides_at}
use Rattle.steps.specs.declared.pass.Unwind.TheVariants.{Discard}
use Rattle.steps.specs.Wares.{unwind_all}
use Rattle.steps.proofs.Goods.{files_read}
use Rattle.steps.proofs.token.Past.discard.Goals as goal

pub returns-clause-sides_goods : goal.returns-clause-sides_goods
returns-clause-sides_goods g c =
    c.unwind.ensures.sides ∙ ap (λ (xs : List Ware). unwind_all Discard (take c.args.self.touched xs) (sides_at (g.S.Store.files c.args.store.now))) (files_read c.args.new.now)
