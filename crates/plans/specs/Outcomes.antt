-- How a call ends, by how its scripts answer.
use Rattle.std.specs.Prelude.{◌≡◌, ℕ, Bool, true, false, List, [], ◌∷◌, map, Some, None, Option}
use Rattle.base.specs.declared.texts.ShortText.{ShortText}
use Rattle.host.specs.declared.line.Line.{Line}
use Rattle.host.specs.Hosts.{works}
use Rattle.status.specs.declared.rows.Flag.{Flag}
use Rattle.status.specs.declared.rows.State.{State}
use Rattle.status.specs.declared.rows.State.TheVariants.{HalfInstalled, Unpacked, HalfConfigured, Installed}
use Rattle.status.specs.declared.rows.Owned.{Owned}
use Rattle.store.specs.Sides.{Sides}
use Rattle.steps.specs.Wares.{lay_all}
use Rattle.steps.specs.Goods.{Goods}
use Rattle.plans.specs.Plans.{Plan, done, ask, Follows}
use Rattle.plans.specs.Moments.{Row, After}
use Rattle.plans.specs.Named.{remove_plan}
use Rattle.plans.specs.Installs.{start_of, install_plan}

-- what a plan comes to when its scripts answer so, in the order of the calls, and all answers are used
abbrev pub played : {A : Type 0} → Plan A → List Bool → Option A
played (done a) [] = Some a
played (done a) (b ∷ bs) = None
played (ask c k) [] = None
played (ask c k) (b ∷ bs) = played (k b) bs

abbrev pub answers : List Line → List Bool
answers ls = map (λ (l : Line). works l.status) ls

-- a plan that is followed comes to what its lines' statuses say
abbrev pub LinesTell : Type 0
LinesTell = (plan : Plan After) (ran : List Line) (x : After) → Follows plan ran x → played plan (answers ran) ≡ Some x

-- the state in which the package ends; none where it has no record
abbrev pub state_in : Option Row → Option State
state_in None = None
state_in (Some r) = Some r.state

abbrev pub end_of : Option After → Option (Option State)
end_of None = None
end_of (Some x) = Some (state_in x.row)

-- a script that works, and one that fails
abbrev S : Bool
S = true

abbrev F : Bool
F = false

-- the row of a package that is installed
abbrev installed : Flag → ShortText → Option ShortText → Row
installed flag old c = record { flag = flag; state = Installed; version = Some old; configured = c }

-- An upgrade from Installed for which the store has room ends in this state.
abbrev pub UpgradeEnds : List Bool → State → Type 0
UpgradeEnds bs state =
    (p : Goods) (flag : Flag) (old : ShortText) (c : Option ShortText) (block units : ℕ) (w : ℕ → Option Owned) (f : ℕ → Sides)
    → (lay_all block units p.files f).0.all ≡ true
    → end_of (played (install_plan p (start_of (Some (installed flag old c))) block units w f) bs) ≡ Some (Some state)

-- a fresh install leaves no record
abbrev pub FreshLeavesNone : List Bool → Type 0
FreshLeavesNone bs =
    (p : Goods) (block units : ℕ) (w : ℕ → Option Owned) (f : ℕ → Sides)
    → end_of (played (install_plan p (start_of None) block units w f) bs) ≡ Some None

-- a remove from Installed ends in this state
abbrev pub RemoveEnds : List Bool → State → Type 0
RemoveEnds bs state =
    (n : ShortText) (flag : Flag) (old : ShortText) (c : Option ShortText) (w : ℕ → Option Owned) (f : ℕ → Sides)
    → end_of (played (remove_plan n (installed flag old c) w f old) bs) ≡ Some (Some state)

pub record ScriptOutcomes : Type 0 where
  pub tell : LinesTell
  pub sss : UpgradeEnds (S ∷ S ∷ S ∷ []) Unpacked
  pub ffs : UpgradeEnds (F ∷ F ∷ S ∷ []) Installed
  pub fff : UpgradeEnds (F ∷ F ∷ F ∷ []) HalfConfigured
  pub sfss : UpgradeEnds (S ∷ F ∷ S ∷ S ∷ []) Installed
  pub sff : UpgradeEnds (S ∷ F ∷ F ∷ []) HalfInstalled
  pub ssffsss : UpgradeEnds (S ∷ S ∷ F ∷ F ∷ S ∷ S ∷ S ∷ []) Installed
  pub fresh_fs : FreshLeavesNone (F ∷ S ∷ [])
  pub remove_fs : RemoveEnds (F ∷ S ∷ []) Installed
