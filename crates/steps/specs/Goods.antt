-- A package by what it puts on a station, as a function of its words alone.
use Rattle.std.specs.Prelude.{ℕ, cond, List, [], ◌∷◌, map, Some, None, Option, ◌==◌}
use Rattle.base.specs.declared.texts.ShortText.{ShortText}
use Rattle.base.specs.Texts.{padded}
use Rattle.package.specs.Packages.{Carried, text_words, name_in, version_in, package_in}
use Rattle.store.specs.Sides.{Sides}
use Rattle.steps.specs.declared.pass.Unwind.{Unwind}
use Rattle.steps.specs.Steps.{laid}
use Rattle.package.specs.Wares.{Ware}
use Rattle.steps.specs.Wares.{unwound}

-- the file as a store keeps it: its content as text words
abbrev pub stored : Carried → Ware
stored c = record { kind = c.kind; path = c.path; words = text_words c.content }

-- sixteen bytes that hold a text
abbrev pub row_holding : List ℕ → ShortText
row_holding text = record { bytes = padded text }

-- a package by what it puts on a station
pub record Goods : Type 0 where
  pub name : ShortText
  pub version : ShortText
  pub files : List Ware

abbrev pub name_row_in : List ℕ → ShortText
name_row_in words = row_holding (name_in words)

abbrev pub goods_in : List ℕ → Goods
goods_in words = record {
  name = name_row_in words;
  version = row_holding (version_in words);
  files = map stored (package_in words).files;
}

-- the file that the list has for a path
abbrev pub carried_at : ℕ → List Ware → Option Ware
carried_at q [] = None
carried_at q (x ∷ xs) = cond (q == x.path) (Some x) (carried_at q xs)

-- what laying the files leaves at a path, by the file for that path
abbrev pub laid_at : Option Ware → Sides → Sides
laid_at None s = s
laid_at (Some x) s = laid x.kind x.words s

-- and what unwinding them leaves
abbrev pub unwound_at : Unwind → Option Ware → Sides → Sides
unwound_at how None s = s
unwound_at how (Some x) s = unwound how x.kind s
