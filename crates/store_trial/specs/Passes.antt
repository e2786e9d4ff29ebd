-- What a client does to the paths of a list.
use Rattle.std.specs.Prelude.{ℕ, Bool, true, false, cond, not, ◌&&◌, ◌||◌, List, [], ◌∷◌, Some, None, fold, ◌==◌}
use Rattle.store.specs.Sides.{Sides, with_side, carried, change}
use Rattle.store.specs.declared.side.Side.TheVariants.{Place, Aside}
use Rattle.store_trial.specs.declared.pass.Pass.{Pass}
use Rattle.store_trial.specs.declared.pass.Pass.TheVariants.{SetAside, PutBack, Discard}

abbrev pub passed : Pass → Sides → Sides
passed SetAside x = carried Place Aside x
passed PutBack x = carried Aside Place (with_side Place None x)
passed Discard x = with_side Aside None x

-- the same at each path of a list, one after the other
abbrev pub over_all : (Sides → Sides) → List ℕ → (ℕ → Sides) → ℕ → Sides
over_all g ps f = fold (λ h p. change p g h) f ps

abbrev pub member : ℕ → List ℕ → Bool
member q [] = false
member q (p ∷ ps) = q == p || member q ps

-- no path twice
abbrev pub distinct : List ℕ → Bool
distinct [] = true
distinct (p ∷ ps) = not (member p ps) && distinct ps

-- each path of the list has the words in place, and aside what was in place before
abbrev pub replaced : List ℕ → List ℕ → (ℕ → Sides) → ℕ → Sides
replaced ws ps f q = cond (member q ps) (with_side Place (Some ws) (carried Place Aside (f q))) (f q)
