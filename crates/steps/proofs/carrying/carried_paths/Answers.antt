use Rattle.std.proofs.Common.{◌≡◌, List, is_some, ap, ◌∙◌, rules}
use Rattle.package.specs.Files.{ware_of, files_left, files_of}
use Rattle.package.specs.Wares.{Ware}
use Rattle.steps.specs.Goods.{carried_at}
use Rattle.steps.specs.Owners.{member}
use Rattle.steps.proofs.Goods.{files_read}
use Rattle.steps.proofs.Owners.{paths_start, paths_turn, paths_end}
use Rattle.steps.proofs.carrying.carried_paths.Goals as goal

pub loop-file-init : goal.loop-file-init
loop-file-init c q =
    let e : files_left c.into_iter-file-iterator.result ≡ files_of c.args.new.now = search rules in
    paths_start q _ _ c.none-paths.ensures ∙ ap (λ (xs : List Ware). is_some (carried_at q xs)) e

pub loop-file-preserved : goal.loop-file-preserved
loop-file-preserved c q =
    paths_turn q (ware_of c.in-Some.file) _ _ (member c.loop-file.paths) _ c.in-Some.ensures.steps c.add.ensures ∙ c.loop-file.invariant q

pub returns : goal.returns
returns c q =
    paths_end q _ (member c.loop-file.paths) c.in-None.ensures.steps.0 ∙ c.loop-file.invariant q
    ∙ ap (λ (xs : List Ware). is_some (carried_at q xs)) (files_read c.args.new.now)
