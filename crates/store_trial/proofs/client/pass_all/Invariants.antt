use Rattle.std.proofs.Common.{◌≡◌, take}
use Rattle.store.specs.Sides.{sides_at}
use Rattle.store_trial.specs.Passes.{passed, over_all}
use Rattle.store_trial.proofs.client.pass_all.Given as goal

abbrev pub invariant-loop-path : goal.invariant-loop-path
invariant-loop-path g l =
    (sides_at (g.S.Store.files l.store) ≡ over_all (passed l.pass) (take l.path-index l.paths) (sides_at (g.S.Store.files l.initial.store)))
    × (g.S.Store.units l.store ≡ g.S.Store.units l.initial.store)
