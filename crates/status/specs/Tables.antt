-- Which tables of records and owned paths are well-formed.
use Rattle.std.specs.Prelude.{◌≡◌, ℕ, true, List, Some, None, Option, nat_lt}
use Rattle.std.specs.List.{AllByRecursion}
use Rattle.base.specs.declared.texts.ShortText.{ShortText}
use Rattle.base.specs.declared.files.FileKind.{FileKind}
use Rattle.base.specs.declared.files.FileKind.TheVariants.{Conffile}
use Rattle.table.specs.Order.{by_bytes}
use Rattle.table.specs.Rows.{rising, lookup}
use Rattle.status.specs.declared.rows.State.TheVariants.{ConfigFiles}
use Rattle.status.specs.declared.rows.Record.{Record}
use Rattle.status.specs.declared.rows.Owned.{Owned}
use Rattle.status.specs.Rows.{Sound}

-- the record of a name
abbrev pub record_of : ShortText → List Record → Option Record
record_of name records = lookup by_bytes (λ r. r.name) name records

-- the owner of a path
abbrev pub owner_of : ℕ → List Owned → Option Owned
owner_of path owners = lookup nat_lt (λ o. o.path) path owners

-- what a package may own: nothing without a record or a version, and in Config-Files no plain path
abbrev pub MayOwn : Option Record → FileKind → Type 0
MayOwn None kind = ⊥
MayOwn (Some r) kind = (r.version.there ≡ true) × (r.state ≡ ConfigFiles → kind ≡ Conffile)

-- well-formed tables
pub record Kept (records : List Record) (owners : List Owned) : Type 0 where
  -- names rise, and so do paths
  pub ranked : rising by_bytes (λ r. r.name) records ≡ true
  pub listed : rising nat_lt (λ o. o.path) owners ≡ true
  pub sound : AllByRecursion Sound records
  pub owned : AllByRecursion (λ o. MayOwn (record_of o.owner records) o.kind) owners
