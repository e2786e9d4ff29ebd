-- What a package's files and the owners of paths have to do with one another.
use Rattle.std.specs.Prelude.{◌≡◌, ℕ, ◌+◌, ◌≤◌, Bool, true, false, cond, not, ◌&&◌, ◌||◌, List, [], ◌∷◌, length, is_some, Some, None, Option}
use Rattle.base.specs.declared.texts.ShortText.{ShortText}
use Rattle.base.specs.declared.files.FileKind.{FileKind}
use Rattle.base.specs.declared.files.FileKind.TheVariants.{Plain, Conffile}
use Rattle.status.specs.declared.rows.Owned.{Owned}
use Rattle.status.specs.Tables.{owner_of}
use Rattle.steps.specs.declared.path_set.PathSet.{PathSet}
use Rattle.steps.specs.Owners.{member, same_name}
use Rattle.package.specs.Wares.{Ware}
use Rattle.steps.specs.Wares.{one_if}
use Rattle.steps.specs.Goods.{carried_at}
use Rattle.books.specs.declared.survey.Survey.{Survey}
use Rattle.books.specs.Ledger.{Ledger}
use Rattle.books.specs.Changes.{owners_in}

abbrev pub same_kind : FileKind → FileKind → Bool
same_kind Plain Plain = true
same_kind Plain Conffile = false
same_kind Conffile Plain = false
same_kind Conffile Conffile = true

-- whether the package owns the path as this kind, and the path is not excepted
abbrev pub leaves : ShortText → FileKind → Bool → Owned → Bool
leaves name kind excepted o = not excepted && (same_kind o.kind kind && same_name o.owner name)

-- the owner that is left to a path
abbrev pub unowned : ShortText → FileKind → Bool → Option Owned → Option Owned
unowned name kind excepted None = None
unowned name kind excepted (Some o) = cond (leaves name kind excepted o) None (Some o)

abbrev pub disowned : ShortText → FileKind → (ℕ → Bool) → (ℕ → Option Owned) → ℕ → Option Owned
disowned name kind except f q = unowned name kind (except q) (f q)

-- `disown`: the package's paths of this kind have no owner but for the excepted ones, every other as before
pub record Disowned (name : ShortText) (kind : FileKind) (except : PathSet) (old new : Ledger) : Type 0 where
  pub law : (q : ℕ) → owner_of q new.owners ≡ unowned name kind (member except q) (owner_of q old.owners)
  pub view : owners_in new.owners ≡ disowned name kind (member except) (owners_in old.owners)
  pub count : length new.owners ≤ length old.owners
  pub records : new.records ≡ old.records
  pub lines : new.lines ≡ old.lines
  pub space : new.space ≡ old.space

-- a path that the package carries is owned by it, as the file's kind
abbrev pub owned_by : ShortText → Option Ware → Option Owned → Option Owned
owned_by name None o = o
owned_by name (Some x) o = Some (record { path = x.path; owner = name; kind = x.kind })

abbrev pub owning : ShortText → List Ware → (ℕ → Option Owned) → ℕ → Option Owned
owning name files f q = owned_by name (carried_at q files) (f q)

-- how many of the files have a path without an owner
abbrev pub fresh_count : (ℕ → Option Owned) → List Ware → ℕ
fresh_count f [] = 0
fresh_count f (x ∷ xs) = one_if (not (is_some (f x.path))) + fresh_count f xs

-- `own_files`: the paths of the files are owned by the package, every other as before
pub record FilesOwned (name : ShortText) (files : List Ware) (old new : List Owned) : Type 0 where
  pub law : (q : ℕ) → owner_of q new ≡ owned_by name (carried_at q files) (owner_of q old)
  pub view : owners_in new ≡ owning name files (owners_in old)
  pub count : length new ≡ length old + fresh_count (owners_in old) files

-- the path has an owner, and it is another package
abbrev pub foreign_at : ShortText → Option Owned → Bool
foreign_at name None = false
foreign_at name (Some o) = not (same_name o.owner name)

-- the path is owned as the other kind
abbrev pub differs_at : FileKind → Option Owned → Bool
differs_at kind None = false
differs_at kind (Some o) = not (same_kind o.kind kind)

abbrev pub any_of : (Ware → Bool) → List Ware → Bool
any_of test [] = false
any_of test (x ∷ xs) = test x || any_of test xs

-- `survey`: what the owners say of the files
pub record Surveyed (name : ShortText) (f : ℕ → Option Owned) (files : List Ware) (r : Survey) : Type 0 where
  pub foreign : r.foreign ≡ any_of (λ x. foreign_at name (f x.path)) files
  pub differing : r.differing ≡ any_of (λ x. differs_at x.kind (f x.path)) files
  pub fresh : r.fresh ≡ fresh_count f files
