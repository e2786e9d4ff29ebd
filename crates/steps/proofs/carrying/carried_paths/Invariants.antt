use Rattle.std.proofs.Common.{◌≡◌, ℕ, ◌||◌, is_some}
use Rattle.package.specs.Files.{files_of, files_left}
use Rattle.steps.specs.Goods.{carried_at}
use Rattle.steps.specs.Owners.{member}
use Rattle.steps.proofs.carrying.carried_paths.Given as goal

abbrev pub invariant-loop-file : goal.invariant-loop-file
invariant-loop-file l =
    (q : ℕ) → (is_some (carried_at q (files_left l.file-iterator)) || member l.paths q) ≡ is_some (carried_at q (files_of l.new))
