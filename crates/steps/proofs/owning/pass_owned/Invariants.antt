use Rattle.std.proofs.Common.{◌≡◌, drop, fold}
use Rattle.store.specs.Sides.{sides_at}
use Rattle.steps.specs.Owners.{member}
use Rattle.steps.proofs.Owners.{own_step}
use Rattle.steps.proofs.owning.pass_owned.Given as goal

abbrev pub invariant-loop-owned : goal.invariant-loop-owned
invariant-loop-owned g l =
    (fold (own_step l.pass l.name (member l.except)) (sides_at (g.S.Store.files l.store)) (drop l.owned-index l.owners)
    ≡ fold (own_step l.pass l.name (member l.except)) (sides_at (g.S.Store.files l.initial.store)) l.owners)
    × (g.S.Store.units l.store ≡ g.S.Store.units l.initial.store)
