-- Which calls are refused, and what a call does.
use Rattle.std.specs.Prelude.{◌≡◌, ℕ, ◌+◌, Bool, cond, not, ◌&&◌, List, [], ◌∷◌, length, is_some, Some, None, Ok, Err, Option, Result, nat_le, nat_lt}
use Rattle.base.specs.declared.texts.ShortText.{ShortText}
use Rattle.base.specs.declared.reasons.Reason.{Reason}
use Rattle.base.specs.declared.reasons.Reason.TheVariants.{TraceFull, RecordsFull, OwnedByOther, KindDiffers, NoRecord, WrongState, OwnersFull}
use Rattle.base.specs.declared.reasons.Refusal.{Refusal}
use Rattle.base.specs.Refusals.{state_refusal}
use Rattle.package.specs.Accepted.{package_refusal, name_refusal}
use Rattle.status.specs.declared.rows.Owned.{Owned}
use Rattle.store.specs.Sides.{Sides}
use Rattle.package.specs.Wares.{Ware}
use Rattle.steps.specs.Goods.{Goods, goods_in, name_row_in}
use Rattle.books.specs.Limits.{records_most, owners_most}
use Rattle.books.specs.Owners.{any_of, foreign_at, differs_at, fresh_count}
use Rattle.plans.specs.declared.calls.Operation.{Operation}
use Rattle.plans.specs.declared.calls.Operation.TheVariants.{Install, Configure, Remove, Purge}
use Rattle.plans.specs.declared.calls.Report.{Report}
use Rattle.plans.specs.Plans.{Plan}
use Rattle.plans.specs.Moments.{Row, Moment, After, Came, rows, owns}
use Rattle.plans.specs.Named.{configure_plan, remove_plan, purge_plan, may_configure, may_remove, may_purge}
use Rattle.plans.specs.Installs.{start_of, install_plan}

-- A call is refused, or goes on by its plan.
pub data Verdict : Type 0 where
  refuse : Refusal → Verdict
  go : Plan After → Verdict

-- how many trace lines a call must find free
abbrev pub most_scripts : ℕ
most_scripts = 8

-- a reason, if the test holds
pub record Check : Type 0 where
  pub fails : Bool
  pub reason : Reason

-- The first reason whose test holds, else on.
abbrev pub judged : List Check → Verdict → Verdict
judged [] on = on
judged (c ∷ cs) on = cond c.fails (refuse (state_refusal c.reason)) (judged cs on)

abbrev pub few_lines : Moment → Bool
few_lines b = nat_lt b.space (length b.lines + most_scripts)

-- A path that the package carries is owned by another, or as the other kind.
abbrev pub some_foreign : ShortText → (ℕ → Option Owned) → List Ware → Bool
some_foreign n w xs = any_of (λ x. foreign_at n (w x.path)) xs

abbrev pub some_differ : (ℕ → Option Owned) → List Ware → Bool
some_differ w xs = any_of (λ x. differs_at x.kind (w x.path)) xs

-- Install is refused for these reasons, in this order.
abbrev pub install_checks : Goods → Moment → List Check
install_checks p b =
    record { fails = few_lines b; reason = TraceFull }
    ∷ record { fails = not (is_some (rows b p.name)) && nat_le records_most (length b.records); reason = RecordsFull }
    ∷ record { fails = some_foreign p.name (owns b) p.files; reason = OwnedByOther }
    ∷ record { fails = some_differ (owns b) p.files; reason = KindDiffers }
    ∷ record { fails = nat_lt owners_most (length b.owners + fresh_count (owns b) p.files); reason = OwnersFull }
    ∷ []

abbrev pub install_verdict : Goods → Moment → Verdict
install_verdict p b =
    judged (install_checks p b) (go (install_plan p (start_of (rows b p.name)) b.block b.units (owns b) b.sides))

-- A call that takes a name: its record is there, and the state allows the call. A record without a version is one to be
-- installed anew, and allows none of these.
abbrev pub allowed : Bool → Option ShortText → (ShortText → Plan After) → Verdict
allowed may None plan = refuse (state_refusal WrongState)
allowed may (Some v) plan = cond may (go (plan v)) (refuse (state_refusal WrongState))

abbrev pub recorded : (Row → Bool) → (Row → ShortText → Plan After) → Option Row → Verdict
recorded may plan None = refuse (state_refusal NoRecord)
recorded may plan (Some r) = allowed (may r) r.version (plan r)

abbrev pub named_verdict : (Row → Bool) → (ShortText → Row → (ℕ → Option Owned) → (ℕ → Sides) → ShortText → Plan After) → ShortText → Moment → Verdict
named_verdict may plan n b =
    judged (record { fails = few_lines b; reason = TraceFull } ∷ [])
    (recorded may (λ r. plan n r (owns b) b.sides) (rows b n))

-- The input's refusals come first.
abbrev pub read_first : Option Refusal → Verdict → Verdict
read_first (Some refused) v = refuse refused
read_first None v = v

abbrev pub verdict : Operation → List ℕ → Moment → Verdict
verdict Install words b = read_first (package_refusal words) (install_verdict (goods_in words) b)
verdict Configure words b = read_first (name_refusal words) (named_verdict may_configure configure_plan (name_row_in words) b)
verdict Remove words b = read_first (name_refusal words) (named_verdict may_remove remove_plan (name_row_in words) b)
verdict Purge words b = read_first (name_refusal words) (named_verdict may_purge purge_plan (name_row_in words) b)

-- How a call of the package n ends: refused, and nothing has changed, or by its plan.
abbrev pub Ends : ShortText → Verdict → Moment → Moment → Result Report Refusal → Type 0
Ends n (refuse refused) b e r = (r ≡ Err refused) × (e ≡ b)
Ends n (go plan) b e r = (d : Report) × (r ≡ Ok d) × Came n plan b e d

-- What a call of the station does, from one moment to the next.
abbrev pub Calls : Operation → List ℕ → Moment → Moment → Result Report Refusal → Type 0
Calls op words b e r = Ends (name_row_in words) (verdict op words b) b e r
