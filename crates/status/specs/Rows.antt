-- Which rows are records.
use Rattle.std.specs.Prelude.{◌≡◌, true, false, cond, replicate, None, Option}
use Rattle.base.specs.declared.texts.ShortText.{ShortText}
use Rattle.base.specs.declared.texts.TextKind.TheVariants.{Version}
use Rattle.base.specs.Named.{row_if}
use Rattle.base.specs.Texts.{name_row, version_row}
use Rattle.status.specs.declared.rows.Flag.TheVariants.{Reinstreq}
use Rattle.status.specs.declared.rows.State.TheVariants.{HalfInstalled}
use Rattle.status.specs.declared.rows.Noted.{Noted}
use Rattle.status.specs.declared.rows.Record.{Record}

abbrev pub blank : ShortText
blank = record { bytes = replicate 16 0 }

-- no version, and this one
abbrev pub unnoted : Noted
unnoted = record { there = false; text = blank }

abbrev pub noting : ShortText → Noted
noting row = record { there = true; text = row }

-- the version that is noted, as a row; none where the text is no version
abbrev pub noted_row : Noted → Option ShortText
noted_row n = cond n.there (row_if Version n.text) None

-- a noted version is an allowed one; where none is noted the text is all zero
pub record Notes (n : Noted) : Type 0 where
  pub allowed : n.there ≡ true → version_row n.text.bytes ≡ true
  pub unused : n.there ≡ false → n.text ≡ blank

pub record Sound (r : Record) : Type 0 where
  pub named : name_row r.name.bytes ≡ true
  pub versioned : Notes r.version
  pub configured : Notes r.configured
  -- reinstreq stands only with Half-Installed
  pub flagged : r.flag ≡ Reinstreq → r.state ≡ HalfInstalled
  -- a record lacks its version only in Half-Installed with reinstreq, and then no version was configured
  pub unversioned : r.version.there ≡ false → (r.state ≡ HalfInstalled) × (r.flag ≡ Reinstreq) × (r.configured.there ≡ false)
