use Rattle.std.proofs.Common.{refl}
use Rattle.steps.proofs.Goods.{files_read}
use Rattle.books.proofs.Ownings.{owned_as}
use Rattle.books.proofs.books.Books.own_files.Goals as goal

pub returns : goal.returns
returns c = record {
  owned = λ fits. owned_as c.args.name _ _ _ _ _ _ (files_read c.args.new.now) c.args.self.now.paths fits c.own_all.ensures.owned;
  records = refl;
  lines = refl;
  space = refl;
}
