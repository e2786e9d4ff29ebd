use Rattle.std.proofs.Common.{◌≡◌, take, Some}
use Rattle.store.specs.Sides.{sides_at, with_side}
use Rattle.store.specs.declared.side.Side.TheVariants.{Place}
use Rattle.store_trial.specs.Passes.{over_all}
use Rattle.store_trial.proofs.client.put_all.Given as goal

abbrev pub invariant-loop-i : goal.invariant-loop-i
invariant-loop-i g l =
    (sides_at (g.S.Store.files l.store) ≡ over_all (with_side Place (Some l.words)) (take l.i l.paths) (sides_at (g.S.Store.files l.initial.store)))
    × (g.S.Store.units l.store ≡ g.S.Store.units l.initial.store)
