use Rattle.std.proofs.Common.{◌<◌, length, rules}
use Rattle.package.proofs.Splits.{none_left, apart_at}
use Rattle.package.proofs.items.Items.apart.Goals as goal

pub returns-in_default : goal.returns-in_default
returns-in_default c =
    let h : length c.remaining.result.now < 1 = search rules in
    (none_left c.args.self.now.words.now c.args.self.now.place c.remaining.result.now c.remaining.ensures h, c.in_words.ensures)

pub returns : goal.returns
returns c =
    let h : 0 < length c.remaining.result.now = search rules in
    apart_at c.args.self.now.words.now c.args.self.now.place c.remaining.result.now c.remaining.ensures h
