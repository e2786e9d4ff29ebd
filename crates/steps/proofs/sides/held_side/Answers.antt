use Rattle.std.proofs.Common.{ℕ, is_some, ap, ◌∙◌}
use Rattle.store.specs.Files.{file_at}
use Rattle.steps.proofs.Turns.{side_file}
use Rattle.steps.proofs.sides.held_side.Goals as goal

pub returns : goal.returns
returns g c =
    let fs = g.S.Store.files c.args.store.now in
    c.held.ensures ∙ ap (λ (k : ℕ). is_some (file_at fs k)) c.key.ensures.is ∙ ap is_some (side_file fs c.args.path c.args.side)
