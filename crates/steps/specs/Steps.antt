-- What is done to the files of one path.
use Rattle.std.specs.Prelude.{ℕ, Bool, true, false, List, is_some, Some, None}
use Rattle.base.specs.declared.files.FileKind.{FileKind}
use Rattle.base.specs.declared.files.FileKind.TheVariants.{Plain, Conffile}
use Rattle.store.specs.Sides.{Sides, side_of, with_side, carried, change, admits_side}
use Rattle.store.specs.declared.side.Side.{Side}
use Rattle.store.specs.declared.side.Side.TheVariants.{Place, Aside, Pending, PendingAside}
use Rattle.steps.specs.declared.pass.Pass.{Pass}
use Rattle.steps.specs.declared.pass.Pass.TheVariants.{Settle, Clear, Wipe}

-- a plain file is laid in place, a conffile waits for its place
abbrev pub home : FileKind → Side
home Plain = Place
home Conffile = Pending

-- and where what stood there is kept
abbrev pub refuge : FileKind → Side
refuge Plain = Aside
refuge Conffile = PendingAside

-- whether there is something to set aside
abbrev pub in_way : FileKind → Sides → Bool
in_way kind x = is_some (side_of (home kind) x)

abbrev pub set_aside : FileKind → Sides → Sides
set_aside kind x = carried (home kind) (refuge kind) x

-- what was there is set aside, and the file stands there
abbrev pub laid : FileKind → List ℕ → Sides → Sides
laid kind words x = with_side (home kind) (Some words) (set_aside kind x)

-- whether the store takes the file, once what was there is set aside
abbrev pub room_for : ℕ → ℕ → FileKind → ℕ → List ℕ → (ℕ → Sides) → Bool
room_for block units kind path words f = admits_side block units (change path (set_aside kind) f) path (home kind) words

-- a file that is refused leaves what was there set aside
abbrev pub lay_step : Bool → FileKind → List ℕ → Sides → Sides
lay_step true kind words x = laid kind words x
lay_step false kind words x = set_aside kind x

-- the side is emptied, and what was set aside returns
abbrev pub put_back : FileKind → Sides → Sides
put_back kind x = carried (refuge kind) (home kind) (with_side (home kind) None x)

abbrev pub discarded : FileKind → Sides → Sides
discarded kind x = with_side (refuge kind) None x

-- a pending conffile takes its place
abbrev pub settled : Sides → Sides
settled x = carried Pending Place x

-- what is laid of this kind goes: a plain file in place, a conffile that is pending
abbrev pub cleared : FileKind → Sides → Sides
cleared kind x = with_side (home kind) None x

-- a conffile in place goes
abbrev pub wiped : Sides → Sides
wiped x = with_side Place None x

abbrev pub passed : Pass → FileKind → Sides → Sides
passed Settle Plain x = x
passed Settle Conffile x = settled x
passed Clear kind x = cleared kind x
passed Wipe Plain x = x
passed Wipe Conffile x = wiped x
