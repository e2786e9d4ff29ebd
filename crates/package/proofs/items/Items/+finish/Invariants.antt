use Rattle.std.proofs.Common.{◌-◌, length}
use Rattle.package.proofs.items.Items.+finish.Given as goal

abbrev pub decreases-finish : goal.decreases-finish
decreases-finish l = length l.self.now.words.now - l.self.now.place
