use Rattle.std.proofs.Common.{List, take, refl, ap, ◌∙◌}
use Rattle.package.specs.Wares.{Ware}
use Rattle.package.specs.Files.{files_of}
use Rattle.store.specs.Sides.{sides_at}
use Rattle.steps.specs.declared.pass.Unwind.TheVariants.{PutBack}
use Rattle.steps.specs.Goods.{goods_in}
use Rattle.steps.specs.Wares.{unwind_all}
use Rattle.steps.proofs.Goods.{files_read, files_distinct}
use Rattle.steps.proofs.Restores.{came_back}
use Rattle.steps.proofs.token.Before.put_back.Goals as goal

pub returns : goal.returns
returns g c =
    let new = c.args.new.now in
    let f = sides_at (g.S.Store.files c.args.store.now) in
    let all = c.unwind.ensures.sides in
    let goods = all ∙ ap (λ (xs : List Ware). unwind_all PutBack (take c.args.self.touched xs) f) (files_read new) in
    record {
      count = refl;
      sides = all;
      sides_goods = goods;
      found = λ block units found came distinct clean. came_back block units (files_of new) found f _ c.args.self.touched came.0 came.1 distinct clean all;
      found_goods = λ block units found came clean. came_back block units (goods_in new.words.now).files found f _ c.args.self.touched came.0 came.1 (files_distinct new) clean goods;
      units = c.unwind.ensures.units;
    }
