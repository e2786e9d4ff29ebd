use Rattle.std.proofs.Common.{◌≡◌, ◌<◌, ◌≤◌, length, get_or, sym, ap, ◌∙◌, arith}
use Rattle.table.specs.Answers.{live}
use Rattle.table.proofs.Ranks.{rank_found, rank_missing, rank_end}
use Rattle.table.proofs.Changes.{found, absent}
use Rattle.table.proofs.table.Table.locate.Goals as goal

pub returns-in_default : goal.returns-in_default
returns-in_default g c =
    let t = c.args.self.now in
    let total = g.met.E.K.Key.total in
    let keyed = g.E.Element.keyed in
    let past : length (live t) ≤ c.front-i.result = omega (arith, ap length c.rows.ensures, c.in_default.ensures.lookup.3) in
    (c.front-i.ensures, absent total keyed c.args.key (live t) (rank_end total keyed c.args.key (live t) t.order (omega (arith, c.front-i.ensures))))

pub returns-then-below : goal.returns-then-below
returns-then-below g c =
    let t = c.args.self.now in
    let total = g.met.E.K.Key.total in
    let keyed = g.E.Element.keyed in
    let x = c.in-Some.row.now in
    let at : x ≡ get_or (live t) c.front-i.result x = c.in-Some.ensures.lookup.1 ∙ ap (λ xs. get_or xs c.front-i.result x) c.rows.ensures in (
      c.front-i.ensures,
      absent total keyed c.args.key (live t)
          (rank_missing total keyed c.args.key (live t) c.front-i.result x t.order c.front-i.ensures at
          (ap (g.E.K.Key.below c.args.key) (sym c.key.ensures) ∙ sym c.if-below.ensures)),
    )

pub returns-else-below : goal.returns-else-below
returns-else-below g c =
    let t = c.args.self.now in
    let total = g.met.E.K.Key.total in
    let keyed = g.E.Element.keyed in
    let x = c.in-Some.row.now in
    let within : c.front-i.result < length (live t) = omega (arith, ap length c.rows.ensures, c.in-Some.ensures.lookup.3.0) in
    let at : x ≡ get_or (live t) c.front-i.result x = c.in-Some.ensures.lookup.1 ∙ ap (λ xs. get_or xs c.front-i.result x) c.rows.ensures in (
      within,
      found total keyed c.args.key (live t) c.front-i.result t.order
          (rank_found total keyed c.args.key (live t) c.front-i.result x c.front-i.ensures within at
          (ap (g.E.K.Key.below c.args.key) (sym c.key.ensures) ∙ sym c.if-below.ensures)),
    )
