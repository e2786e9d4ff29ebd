use Rattle.std.proofs.Common.{◌<◌, ◌≤◌, length, sym, ◌∙◌, rules}
use Rattle.base.proofs.Order.{before_here, before_on, before_end}
use Rattle.base.proofs.texts.ShortText.before.Goals as goal

pub returns-then-self-i : goal.returns-then-self-i
returns-then-self-i c =
    let h : c.loop-i.i < length c.args.self.now.bytes = search rules in
    let k : c.loop-i.i < length c.args.other.now.bytes = search rules in
    sym (before_here c.args.self.now.bytes c.args.other.now.bytes c.loop-i.i h k c.if-self-i.true) ∙ c.loop-i.invariant

pub loop-i-preserved : goal.loop-i-preserved
loop-i-preserved c =
    let h : c.loop-i.i < length c.args.self.now.bytes = search rules in
    let k : c.loop-i.i < length c.args.other.now.bytes = search rules in
    sym (before_on c.args.self.now.bytes c.args.other.now.bytes c.loop-i.i h k (search rules)) ∙ c.loop-i.invariant

pub returns : goal.returns
returns c =
    let h : length c.args.self.now.bytes ≤ c.loop-i.i = search rules in
    let k : length c.args.other.now.bytes ≤ c.loop-i.i = search rules in
    sym (before_end c.args.self.now.bytes c.args.other.now.bytes c.loop-i.i h k) ∙ c.loop-i.invariant
