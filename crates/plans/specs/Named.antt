-- Configure, remove and purge: which scripts are asked, and what each comes to when it works or fails.
use Rattle.std.specs.Prelude.{ℕ, Bool, true, false, cond, Some, None, Option}
use Rattle.base.specs.declared.texts.ShortText.{ShortText}
use Rattle.base.specs.declared.files.FileKind.{FileKind}
use Rattle.base.specs.declared.files.FileKind.TheVariants.{Plain, Conffile}
use Rattle.host.specs.declared.calls.Script.{Script}
use Rattle.host.specs.declared.calls.Script.TheVariants.{Postinst, Prerm, Postrm}
use Rattle.host.specs.declared.calls.Action.{Action}
use Rattle.host.specs.declared.calls.Action.TheVariants.{Configure, Remove, Purge, AbortRemove}
use Rattle.host.specs.declared.calls.Argument.{Argument}
use Rattle.host.specs.declared.calls.Argument.TheVariants.{Version, Null, Nothing}
use Rattle.status.specs.declared.rows.Flag.{Flag}
use Rattle.status.specs.declared.rows.Flag.TheVariants.{Ok, Reinstreq}
use Rattle.status.specs.declared.rows.State.{State}
use Rattle.status.specs.declared.rows.State.TheVariants.{ConfigFiles, HalfInstalled, Unpacked, HalfConfigured, Installed}
use Rattle.status.specs.declared.rows.Owned.{Owned}
use Rattle.store.specs.Sides.{Sides}
use Rattle.steps.specs.declared.pass.Pass.{Pass}
use Rattle.steps.specs.declared.pass.Pass.TheVariants.{Settle, Clear, Wipe}
use Rattle.steps.specs.Owners.{own_sides}
pub use Rattle.books.specs.Owners.{same_kind, unowned}
use Rattle.plans.specs.declared.calls.Outcome.{Outcome}
use Rattle.plans.specs.declared.calls.Outcome.TheVariants.{Done, Stopped, Late}
use Rattle.plans.specs.Plans.{Ask, Plan, done, ask}
use Rattle.plans.specs.Moments.{Row, After}

-- a script of the version v of the package n
abbrev pub asks : ShortText → ShortText → Script → Action → Argument ShortText → Ask
asks n v s a g = record { name = n; version = v; script = s; action = a; argument = g }

-- the same record with another flag and state
abbrev pub turned : Row → Flag → State → Option Row
turned r g s = Some (record { flag = g; state = s; version = r.version; configured = r.configured })

-- the configured version, or the null argument
abbrev pub or_null : Option ShortText → Argument ShortText
or_null None = Null
or_null (Some v) = Version v

-- From Installed and Half-Configured a package's prerm comes first.
abbrev pub set_up : State → Bool
set_up ConfigFiles = false
set_up HalfInstalled = false
set_up Unpacked = false
set_up HalfConfigured = true
set_up Installed = true

-- the paths that the package n owns as this kind lose their owner
abbrev pub disowned : ShortText → FileKind → (ℕ → Option Owned) → ℕ → Option Owned
disowned n k w q = unowned n k false (w q)

-- what a pass over the package's paths leaves
abbrev pub passing : Pass → ShortText → (ℕ → Option Owned) → (ℕ → Sides) → ℕ → Sides
passing pass n w f q = own_sides n false pass (w q) (f q)

-- the call ends; no file was set aside
abbrev pub ends : Outcome → Option Row → (ℕ → Option Owned) → (ℕ → Sides) → Plan After
ends o r w f = done (record { outcome = o; row = r; owns = w; sides = f; aside = 0; back = 0; discarded = 0 })

-- Configure. Each pending conffile takes its place; then postinst `configure` with the configured version.
abbrev pub configure_plan : ShortText → Row → (ℕ → Option Owned) → (ℕ → Sides) → ShortText → Plan After
configure_plan n r w f v =
    ask (asks n v Postinst Configure (or_null r.configured))
    λ works. cond works
    (ends Done (Some (record { flag = Ok; state = Installed; version = r.version; configured = r.version })) w (passing Settle n w f))
    (ends Late (turned r Ok HalfConfigured) w (passing Settle n w f))

-- Remove, past its point. Plain files go and lose their owner, pending ones go; then postrm `remove`.
abbrev pub clear_plan : ShortText → Row → (ℕ → Option Owned) → (ℕ → Sides) → ShortText → Plan After
clear_plan n r w f v =
    ask (asks n v Postrm Remove Nothing)
    λ works. cond works
    (ends Done (turned r Ok ConfigFiles) (disowned n Plain w) (passing Clear n w f))
    (ends Late (turned r Ok HalfInstalled) (disowned n Plain w) (passing Clear n w f))

-- A prerm that fails stops a remove: postinst `abort-remove`.
abbrev pub stay_plan : ShortText → Row → (ℕ → Option Owned) → (ℕ → Sides) → ShortText → Plan After
stay_plan n r w f v =
    ask (asks n v Postinst AbortRemove Nothing)
    λ works. cond works (ends Stopped (turned r Ok Installed) w f) (ends Stopped (turned r Ok HalfConfigured) w f)

abbrev pub leave_plan : ShortText → Row → (ℕ → Option Owned) → (ℕ → Sides) → ShortText → Plan After
leave_plan n r w f v = ask (asks n v Prerm Remove Nothing) λ works. cond works (clear_plan n r w f v) (stay_plan n r w f v)

abbrev pub remove_plan : ShortText → Row → (ℕ → Option Owned) → (ℕ → Sides) → ShortText → Plan After
remove_plan n r w f v = cond (set_up r.state) (leave_plan n r w f v) (clear_plan n r w f v)

-- Purge. Conffiles go and lose their owner; then postrm `purge`.
abbrev pub purge_plan : ShortText → Row → (ℕ → Option Owned) → (ℕ → Sides) → ShortText → Plan After
purge_plan n r w f v =
    ask (asks n v Postrm Purge Nothing)
    λ works. cond works
    (ends Done None (disowned n Conffile w) (passing Wipe n w f))
    (ends Late (turned r Ok ConfigFiles) (disowned n Conffile w) (passing Wipe n w f))

-- Which states allow the call.
abbrev pub may_configure : Row → Bool
may_configure r = elim r.state [ ConfigFiles ↦ false | HalfInstalled ↦ false | Unpacked ↦ true | HalfConfigured ↦ true | Installed ↦ false ]

abbrev pub is_ok : Flag → Bool
is_ok Ok = true
is_ok Reinstreq = false

abbrev pub may_remove : Row → Bool
may_remove r = elim r.state [ ConfigFiles ↦ false | HalfInstalled ↦ is_ok r.flag | Unpacked ↦ true | HalfConfigured ↦ true | Installed ↦ true ]

abbrev pub may_purge : Row → Bool
may_purge r = elim r.state [ ConfigFiles ↦ true | HalfInstalled ↦ false | Unpacked ↦ false | HalfConfigured ↦ false | Installed ↦ false ]
