use Rattle.std.proofs.Common.{ap, ◌∙◌, arith}
use Rattle.std.specs.List.{insert}
use Rattle.table.specs.Rows.{rising}
use Rattle.table.specs.Answers.{live}
use Rattle.table.proofs.Changes.{live_len, entered}
use Rattle.table.proofs.Ranks.{rank_within}
use Rattle.table.proofs.Rises.{rising_inserted}
use Rattle.table.proofs.table.Table.put_in.Goals as goal

pub open_at-requires : goal.open_at-requires
open_at-requires g c =
    let t = c.args.self.now in
    let n = live_len t in
    omega (arith, rank_within g.E.K.Key.below g.E.Element.keyed (g.E.Element.keyed c.args.row) (live t))

pub invariant_of-self : goal.invariant_of-self
invariant_of-self g c =
    let t = c.args.self.now in
    record {
      within = omega (arith, live_len t);
      order = ap (rising g.E.K.Key.below g.E.Element.keyed) (c.open_at.ensures ∙ ap (λ n. insert (live t) n c.args.row) c.requires.place)
          ∙ rising_inserted g.met.E.K.Key.total g.E.Element.keyed c.args.row (live t) t.order c.requires.new.missing;
    }

pub returns-clause-entered : goal.returns-clause-entered
returns-clause-entered g c =
    entered g.met.E.K.Key.total c.args.self.now _ c.args.i c.args.row c.requires.place c.requires.new c.requires.fits c.open_at.ensures
