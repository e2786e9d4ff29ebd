-- Install: which scripts are asked, and what each comes to when it works or fails.
use Rattle.std.specs.Prelude.{ℕ, false, cond, take, Some, None, Option}
use Rattle.base.specs.declared.texts.ShortText.{ShortText}
use Rattle.base.specs.declared.files.FileKind.TheVariants.{Plain}
use Rattle.host.specs.declared.calls.Script.TheVariants.{Preinst, Postinst, Prerm, Postrm}
use Rattle.host.specs.declared.calls.Action.TheVariants.{Install, Upgrade, AbortInstall, AbortUpgrade, FailedUpgrade}
use Rattle.host.specs.declared.calls.Argument.TheVariants.{Version, Nothing}
use Rattle.status.specs.declared.rows.Flag.TheVariants.{Ok, Reinstreq}
use Rattle.status.specs.declared.rows.State.{State}
use Rattle.status.specs.declared.rows.State.TheVariants.{ConfigFiles, HalfInstalled, Unpacked, HalfConfigured, Installed}
use Rattle.status.specs.declared.rows.Owned.{Owned}
use Rattle.store.specs.Sides.{Sides}
use Rattle.package.specs.Wares.{Ware}
use Rattle.steps.specs.declared.pass.Pass.TheVariants.{Clear}
use Rattle.steps.specs.declared.pass.Unwind.TheVariants.{PutBack}
use Rattle.steps.specs.Steps.{discarded}
use Rattle.steps.specs.Wares.{Tally, lay_all, unwind_all}
use Rattle.steps.specs.Goods.{Goods, carried_at}
use Rattle.steps.specs.Owners.{own_sides}
use Rattle.plans.specs.declared.calls.Outcome.TheVariants.{Done, Stopped}
use Rattle.plans.specs.Plans.{Ask, Plan, done, ask}
use Rattle.plans.specs.Moments.{Row, After}
use Rattle.plans.specs.Named.{asks, turned, unowned}

-- From where an install starts: what is recorded of the package, and its recorded version, the old one.
pub data Start : Type 0 where
  -- no version is recorded
  fresh : Start
  -- Config-Files
  remains : Row → ShortText → Start
  -- Half-Installed or Unpacked
  over : Row → ShortText → Start
  -- Half-Configured or Installed
  over_set_up : Row → ShortText → Start

abbrev pub start_by : State → Row → ShortText → Start
start_by ConfigFiles r old = remains r old
start_by HalfInstalled r old = over r old
start_by Unpacked r old = over r old
start_by HalfConfigured r old = over_set_up r old
start_by Installed r old = over_set_up r old

abbrev pub start_with : Row → Option ShortText → Start
start_with r None = fresh
start_with r (Some old) = start_by r.state r old

abbrev pub start_of : Option Row → Start
start_of None = fresh
start_of (Some r) = start_with r r.version

-- The new package's preinst: `install`, `install old` or `upgrade old`.
abbrev pub preinst_ask : Goods → Start → Ask
preinst_ask p fresh = asks p.name p.version Preinst Install Nothing
preinst_ask p (remains r old) = asks p.name p.version Preinst Install (Version old)
preinst_ask p (over r old) = asks p.name p.version Preinst Upgrade (Version old)
preinst_ask p (over_set_up r old) = asks p.name p.version Preinst Upgrade (Version old)

-- Its postrm, when the install is unwound: `abort-install`, `abort-install old` or `abort-upgrade old`.
abbrev pub abort_ask : Goods → Start → Ask
abort_ask p fresh = asks p.name p.version Postrm AbortInstall Nothing
abort_ask p (remains r old) = asks p.name p.version Postrm AbortInstall (Version old)
abort_ask p (over r old) = asks p.name p.version Postrm AbortUpgrade (Version old)
abort_ask p (over_set_up r old) = asks p.name p.version Postrm AbortUpgrade (Version old)

-- The row of an install that could not be unwound: Half-Installed, to be installed anew.
abbrev pub broken : Start → Option Row
broken fresh = Some (record { flag = Reinstreq; state = HalfInstalled; version = None; configured = None })
broken (remains r old) = turned r Reinstreq HalfInstalled
broken (over r old) = turned r Reinstreq HalfInstalled
broken (over_set_up r old) = turned r Reinstreq HalfInstalled

abbrev pub configured_before : Start → Option ShortText
configured_before fresh = None
configured_before (remains r old) = r.configured
configured_before (over r old) = r.configured
configured_before (over_set_up r old) = r.configured

-- the row of a package that is unpacked
abbrev pub unpacked_row : Goods → Start → Option Row
unpacked_row p s = Some (record { flag = Ok; state = Unpacked; version = Some p.version; configured = configured_before s })

-- The install stops short of its point; so many files were set aside and put back.
abbrev pub stops : ℕ → Option Row → (ℕ → Option Owned) → (ℕ → Sides) → Plan After
stops n r w f = done (record { outcome = Stopped; row = r; owns = w; sides = f; aside = n; back = n; discarded = 0 })

-- Past the point, at one path, by the file that the package carries for it: it becomes owned, and what was set aside goes.
-- Where it carries none, a plain file that the package owns goes and loses its owner, and so does a conffile's pending file.
abbrev pub owner_then : ShortText → Option Ware → Option Owned → Option Owned
owner_then n (Some x) o = Some (record { path = x.path; owner = n; kind = x.kind })
owner_then n None o = unowned n Plain false o

abbrev pub sides_then : ShortText → Option Ware → Option Owned → Sides → Sides
sides_then n (Some x) o s = discarded x.kind s
sides_then n None o s = own_sides n false Clear o s

-- all that was laid is put back
abbrev pub returned : Goods → Tally → (ℕ → Sides) → ℕ → Sides
returned p t f = unwind_all PutBack (take t.touched p.files) f

-- Past the point: the package is unpacked.
abbrev pub commit_plan : Goods → Start → Tally → (ℕ → Option Owned) → (ℕ → Sides) → Plan After
commit_plan p s t w f = done (record {
  outcome = Done;
  row = unpacked_row p s;
  owns = λ q. owner_then p.name (carried_at q p.files) (w q);
  sides = λ q. sides_then p.name (carried_at q p.files) (w q) (f q);
  aside = t.aside;
  back = 0;
  discarded = t.aside;
})

-- Unwinding, after the new postrm worked. Where the old prerm was asked, old postinst `abort-upgrade new` comes last;
-- else the package is where it was before the call.
abbrev pub rejoin_plan : Goods → Row → ShortText → ℕ → (ℕ → Option Owned) → (ℕ → Sides) → Plan After
rejoin_plan p r old n w f =
    ask (asks p.name old Postinst AbortUpgrade (Version p.version))
    λ works. cond works (stops n (turned r Ok Installed) w f) (stops n (turned r Ok Unpacked) w f)

abbrev pub restore_plan : Goods → Start → ℕ → (ℕ → Option Owned) → (ℕ → Sides) → Plan After
restore_plan p fresh n w f = stops n None w f
restore_plan p (remains r old) n w f = stops n (turned r Ok ConfigFiles) w f
restore_plan p (over r old) n w f = stops n (Some r) w f
restore_plan p (over_set_up r old) n w f = rejoin_plan p r old n w f

-- Unwinding: the new package's postrm first.
abbrev pub unwind_plan : Goods → Start → ℕ → (ℕ → Option Owned) → (ℕ → Sides) → Plan After
unwind_plan p s n w f = ask (abort_ask p s) λ works. cond works (restore_plan p s n w f) (stops n (broken s) w f)

-- Over an old version, once all files are laid: old postrm `upgrade new`; failing it, new postrm `failed-upgrade old`; failing
-- that, all is put back, and old preinst `abort-upgrade new` comes before the unwinding.
abbrev pub retreat_plan : Goods → Start → ShortText → ℕ → (ℕ → Option Owned) → (ℕ → Sides) → Plan After
retreat_plan p s old n w f =
    ask (asks p.name old Preinst AbortUpgrade (Version p.version))
    λ works. cond works (unwind_plan p s n w f) (stops n (broken s) w f)

abbrev pub retry_plan : Goods → Start → ShortText → Tally → (ℕ → Option Owned) → (ℕ → Sides) → Plan After
retry_plan p s old t w f =
    ask (asks p.name p.version Postrm FailedUpgrade (Version old))
    λ works. cond works (commit_plan p s t w f) (retreat_plan p s old t.aside w (returned p t f))

abbrev pub replace_plan : Goods → Start → ShortText → Tally → (ℕ → Option Owned) → (ℕ → Sides) → Plan After
replace_plan p s old t w f =
    ask (asks p.name old Postrm Upgrade (Version p.version))
    λ works. cond works (commit_plan p s t w f) (retry_plan p s old t w f)

abbrev pub laid_plan : Goods → Start → Tally → (ℕ → Option Owned) → (ℕ → Sides) → Plan After
laid_plan p fresh t w f = commit_plan p fresh t w f
laid_plan p (remains r old) t w f = commit_plan p (remains r old) t w f
laid_plan p (over r old) t w f = replace_plan p (over r old) old t w f
laid_plan p (over_set_up r old) t w f = replace_plan p (over_set_up r old) old t w f

-- The new preinst, and the files laid one by one; where the store refuses one, all is put back.
abbrev pub unpack_plan : Goods → Start → ℕ → ℕ → (ℕ → Option Owned) → (ℕ → Sides) → Plan After
unpack_plan p s block units w f =
    ask (preinst_ask p s)
    λ works. cond works
    (cond (lay_all block units p.files f).0.all
    (laid_plan p s (lay_all block units p.files f).0 w (lay_all block units p.files f).1)
    (unwind_plan p s (lay_all block units p.files f).0.aside w (returned p (lay_all block units p.files f).0 (lay_all block units p.files f).1)))
    (unwind_plan p s 0 w f)

-- Over a package that is set up: old prerm `upgrade new`; failing it, new prerm `failed-upgrade old`; failing that, old
-- postinst `abort-upgrade new`, and the install ends here. (A conflicting package would be removed behind these.)
abbrev pub keep_plan : Goods → Row → ShortText → (ℕ → Option Owned) → (ℕ → Sides) → Plan After
keep_plan p r old w f =
    ask (asks p.name old Postinst AbortUpgrade (Version p.version))
    λ works. cond works (stops 0 (turned r Ok Installed) w f) (stops 0 (turned r Ok HalfConfigured) w f)

abbrev pub insist_plan : Goods → Row → ShortText → ℕ → ℕ → (ℕ → Option Owned) → (ℕ → Sides) → Plan After
insist_plan p r old block units w f =
    ask (asks p.name p.version Prerm FailedUpgrade (Version old))
    λ works. cond works (unpack_plan p (over_set_up r old) block units w f) (keep_plan p r old w f)

abbrev pub begin_plan : Goods → Row → ShortText → ℕ → ℕ → (ℕ → Option Owned) → (ℕ → Sides) → Plan After
begin_plan p r old block units w f =
    ask (asks p.name old Prerm Upgrade (Version p.version))
    λ works. cond works (unpack_plan p (over_set_up r old) block units w f) (insist_plan p r old block units w f)

abbrev pub install_plan : Goods → Start → ℕ → ℕ → (ℕ → Option Owned) → (ℕ → Sides) → Plan After
install_plan p fresh block units w f = unpack_plan p fresh block units w f
install_plan p (remains r old) block units w f = unpack_plan p (remains r old) block units w f
install_plan p (over r old) block units w f = unpack_plan p (over r old) block units w f
install_plan p (over_set_up r old) block units w f = begin_plan p r old block units w f
