use Rattle.std.proofs.Common.{Some, ap, ◌∙◌, rules}
use Rattle.package.proofs.Splits.{more_left, all_read}
use Rattle.package.proofs.items.Items.nothing_left.Goals as goal

pub returns-then-self : goal.returns-then-self
returns-then-self c =
    ap (λ r. Some r) c.in_words.ensures ∙ more_left c.args.self.now.words.now c.args.self.now.place (search rules)

pub returns : goal.returns
returns c = all_read c.args.self.now.words.now c.args.self.now.place (search rules)
