use Rattle.std.proofs.Common.{◌<◌, ◌≤◌, length, ap, arith, rules}
use Rattle.std.proofs.lemmas.List.{at_drop_all}
use Rattle.std.proofs.lemmas.Bool.{eq-eqb, ne_eqb}
use Rattle.base.specs.Texts.{spelt}
use Rattle.base.proofs.Walks.{spelt_on, spelt_off}
use Rattle.base.proofs.texts.ShortText.len.Goals as goal

pub returns-then-b-eq0 : goal.returns-then-b-eq0
returns-then-b-eq0 c =
    let h : c.loop-i.i < length c.args.self.now.bytes = search rules in
    let e = ap length (spelt_off c.args.self.now.bytes c.loop-i.i h (eq-eqb _ _ c.if-b-eq0.true)) in
    let inv = c.loop-i.invariant in
    omega arith

pub loop-i-preserved : goal.loop-i-preserved
loop-i-preserved c =
    let h : c.loop-i.i < length c.args.self.now.bytes = search rules in
    let e = spelt_on c.args.self.now.bytes c.loop-i.i h (ne_eqb _ _ c.if-b-eq0.false) in
    let inv = c.loop-i.invariant in
    omega arith

pub returns : goal.returns
returns c =
    let h : length c.args.self.now.bytes ≤ c.loop-i.i = search rules in
    let e = ap length (at_drop_all spelt c.args.self.now.bytes c.loop-i.i h) in
    let inv = c.loop-i.invariant in
    omega arith
