use Rattle.std.proofs.Common.{arith}
use Rattle.store.proofs.Views.{after_move}
use Rattle.store.proofs.paths.carry_side.Goals as goal

pub returns : goal.returns
returns g c = record {
  sides = after_move _ _ (g.S.Store.keys c.args.store.now) c.args.path (omega arith) c.key.result c.key-2.result c.args.from c.args.to c.key.ensures.is c.key-2.ensures.is c.carry.ensures.files;
  units = c.carry.ensures.units;
}
