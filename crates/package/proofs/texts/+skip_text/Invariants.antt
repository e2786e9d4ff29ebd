use Rattle.std.proofs.Common.{◌-◌, length}
use Rattle.package.proofs.texts.+skip_text.Given as goal

abbrev pub decreases-skip_text : goal.decreases-skip_text
decreases-skip_text l = length l.words.now - l.place
