-- The files that stand in words, as a store keeps them.
use Rattle.std.specs.Prelude.{ℕ, zero, suc, Bool, true, false, cond, not, ◌&&◌, List, [], ◌∷◌, take, is_some}
use Rattle.base.specs.declared.files.FileKind.{FileKind}
use Rattle.package.specs.declared.items.Items.{Items}
use Rattle.package.specs.declared.items.Stage.{Stage}
use Rattle.package.specs.declared.items.Stage.TheVariants.{Package, NameAlone, Version, Files, Done}
use Rattle.package.specs.Words.{content_length, file_kind, path, is_end}
use Rattle.package.specs.Checks.{refusal}
use Rattle.package.specs.Items.{due_at, left_from}

-- a file with the words of its content
pub record Ware : Type 0 where
  pub kind : FileKind
  pub path : ℕ
  pub words : List ℕ

-- the files in words, up to the end word; the words of a content are passed over
abbrev pub wares : ℕ → List ℕ → List Ware
wares passing [] = []
wares zero (w ∷ ws) =
    cond (is_end w) []
    (record { kind = file_kind w; path = path w; words = take (content_length w) ws } ∷ wares (content_length w) ws)
wares (suc n) (w ∷ ws) = wares n ws

-- a reader that stands before a file or the end, and has no fault before it
abbrev pub filing : Stage → Bool
filing Package = false
filing NameAlone = false
filing (Version len) = false
filing (Files count floor) = true
filing Done = false

abbrev pub ready : Items → Bool
ready items = filing items.stage && not (is_some (refusal (due_at items.stage) items.place (left_from items)))
