-- Sets of paths, and what a pass does at the paths that a package owns.
use Rattle.std.specs.Prelude.{ℕ, Bool, true, false, cond, not, ◌&&◌, List, Some, None, Option, ◌==◌, nat_lt, slice_index_or}
use Rattle.base.specs.declared.texts.ShortText.{ShortText}
use Rattle.table.specs.Order.{meets, by_bytes}
use Rattle.table.specs.Rows.{rising}
use Rattle.status.specs.declared.rows.Owned.{Owned}
use Rattle.store.specs.Sides.{Sides}
use Rattle.steps.specs.declared.pass.Pass.{Pass}
use Rattle.steps.specs.declared.path_set.PathSet.{PathSet}
use Rattle.steps.specs.Steps.{passed}

-- a set of paths as its test
abbrev pub member : PathSet → ℕ → Bool
member s q = slice_index_or s.marked q false

abbrev pub no_path : ℕ → Bool
no_path q = false

-- a path is added, the others stay
abbrev pub with_path : ℕ → (ℕ → Bool) → ℕ → Bool
with_path p f q = cond (q == p) true (f q)

-- owned paths, each below all that follow
abbrev pub paths_rise : List Owned → Bool
paths_rise owners = rising nat_lt (λ o. o.path) owners

abbrev pub same_name : ShortText → ShortText → Bool
same_name a b = meets by_bytes a b

-- what a pass leaves at a path, by its owner: a path of the package n that is not excepted is passed over
abbrev pub own_sides : ShortText → Bool → Pass → Option Owned → Sides → Sides
own_sides n excepted pass None s = s
own_sides n excepted pass (Some o) s = cond (not excepted && same_name o.owner n) (passed pass o.kind s) s
