use Rattle.std.proofs.Common.{ap, ◌∙◌, arith}
use Rattle.table.specs.Rows.{rising}
use Rattle.table.specs.Answers.{live}
use Rattle.table.proofs.Changes.{live_len, removed, found_self}
use Rattle.table.proofs.Rises.{rising_removed}
use Rattle.table.proofs.table.Table.take_out.Goals as goal

pub close_at-old-requires : goal.close_at-old-requires
close_at-old-requires g c = omega (arith, live_len c.args.self.now)

pub invariant_of-self : goal.invariant_of-self
invariant_of-self g c =
    let t = c.args.self.now in
    record {
      within = omega (arith, t.within);
      order = ap (rising g.E.K.Key.below g.E.Element.keyed) c.close_at-old.ensures.rows ∙ rising_removed g.E.K.Key.below g.E.Element.keyed (live t) c.args.i t.order;
    }

pub returns-clause-removed : goal.returns-clause-removed
returns-clause-removed g c = λ k there. removed g.met.E.K.Key.total c.args.self.now _ c.args.i k c.close_at-old.result there c.close_at-old.ensures.was c.close_at-old.ensures.rows

pub returns-clause-found : goal.returns-clause-found
returns-clause-found g c =
    let t = c.args.self.now in
    found_self g.met.E.K.Key.total g.E.Element.keyed (live t) c.args.i c.close_at-old.result t.order c.requires c.close_at-old.ensures.was
