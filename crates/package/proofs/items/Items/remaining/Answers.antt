use Rattle.std.proofs.Common.{◌≤◌, length, sym, rules}
use Rattle.std.proofs.lemmas.List.{drop_all, take_rest}
use Rattle.package.proofs.items.Items.remaining.Goals as goal

pub returns-then-self : goal.returns-then-self
returns-then-self c =
    let h : length c.args.self.now.words.now ≤ c.args.self.now.place = search rules in
    sym (drop_all c.args.self.now.place c.args.self.now.words.now h)

pub returns : goal.returns
returns c = take_rest c.args.self.now.words.now c.args.self.now.place
