use Rattle.std.proofs.Common.{ap, ◌∙◌, arith}
use Rattle.table.specs.Rows.{rising}
use Rattle.table.specs.Answers.{live}
use Rattle.table.proofs.Changes.{live_len, live_at, live_set, replaced}
use Rattle.table.proofs.Ranks.{stands_within}
use Rattle.table.proofs.Rises.{rising_set}
use Rattle.table.proofs.table.Table.put_over.Goals as goal

pub write_at-requires : goal.write_at-requires
write_at-requires g c =
    let t = c.args.self.now in
    omega (arith, live_len t, t.within, stands_within g.E.K.Key.below g.E.Element.keyed _ (live t) c.args.i c.requires.stands)

pub invariant_of-self : goal.invariant_of-self
invariant_of-self g c =
    let t = c.args.self.now in
    let lt = stands_within g.E.K.Key.below g.E.Element.keyed _ (live t) c.args.i c.requires.stands in
    record {
      within = omega (arith, t.within);
      order = ap (rising g.E.K.Key.below g.E.Element.keyed) (live_set t c.args.i c.args.row c.write_at.new.rows lt c.write_at.ensures.rows)
          ∙ rising_set g.met.E.K.Key.total g.E.Element.keyed (live t) c.args.i c.args.row c.requires.stands t.order;
    }

pub returns-clause-replaced : goal.returns-clause-replaced
returns-clause-replaced g c =
    let t = c.args.self.now in
    let lt = stands_within g.E.K.Key.below g.E.Element.keyed _ (live t) c.args.i c.requires.stands in
    replaced g.met.E.K.Key.total t _ c.args.i c.args.row c.write_at.result c.requires (live_at t c.args.i c.write_at.result lt c.write_at.ensures.was)
    (live_set t c.args.i c.args.row c.write_at.new.rows lt c.write_at.ensures.rows)
