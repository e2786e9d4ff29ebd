use Rattle.std.proofs.Common.{None, arith}
use Rattle.store.proofs.Views.{after_set}
use Rattle.store.proofs.paths.clear_side.Goals as goal

pub returns : goal.returns
returns g c = record {
  sides = after_set _ _ (g.S.Store.keys c.args.store.now) c.args.path (omega arith) c.key.result c.args.side None c.key.ensures.is c.clear.ensures.files;
  units = c.clear.ensures.units;
}
