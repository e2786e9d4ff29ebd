use Rattle.std.proofs.Common.{arith}
use Rattle.store.proofs.Views.{after_put, put_answer}
use Rattle.store.proofs.paths.put_side.Goals as goal

pub returns : goal.returns
returns g c =
    let fs = g.S.Store.files c.args.store.now in
    let long = g.S.Store.keys c.args.store.now in
    record {
      answer = put_answer fs fs long c.args.path (omega arith) g.S.Store.block (g.S.Store.units c.args.store.now) c.key.result c.args.side c.args.words.now c.put.result c.key.ensures.is c.put.ensures.answer;
      sides = after_put fs _ long c.args.path (omega arith) c.key.result c.args.side c.args.words.now c.put.result c.key.ensures.is c.put.ensures.files;
      units = c.put.ensures.units;
    }
