use Rattle.std.proofs.Common.{rules}
use Rattle.std.proofs.lemmas.Fn.{always_returns_same}
use Rattle.table.specs.Answers.{live}
use Rattle.table.proofs.Ranks.{rank_searched}
use Rattle.table.proofs.table.Table.front.Goals as goal

pub returns : goal.returns
returns g c =
    let t = c.args.self.now in
    let h = c.partition_point.ensures in
    rank_searched g.met.E.K.Key.total g.E.Element.keyed c.args.key c.rows.result.now (live t) c.partition_point.result c.rows.ensures t.order h.bound
    (h.partitioned (λ x. g.E.K.Key.below (g.E.Element.keyed x) c.args.key) (always_returns_same _ _ _ (λ a r f k. search rules)))
