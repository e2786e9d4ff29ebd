-- The numbers of scripts and actions.
use Rattle.std.specs.Prelude.{ℕ}
use Rattle.host.specs.declared.calls.Script.{Script}
use Rattle.host.specs.declared.calls.Script.TheVariants.{Preinst, Postinst, Prerm, Postrm}
use Rattle.host.specs.declared.calls.Action.{Action}
use Rattle.host.specs.declared.calls.Action.TheVariants.{Install, Upgrade, Configure, Remove, Purge, AbortInstall, AbortUpgrade, AbortRemove, FailedUpgrade}

abbrev pub script_number : Script → ℕ
script_number Preinst = 1
script_number Postinst = 2
script_number Prerm = 3
script_number Postrm = 4

abbrev pub action_number : Action → ℕ
action_number Install = 1
action_number Upgrade = 2
action_number Configure = 3
action_number Remove = 4
action_number Purge = 5
action_number AbortInstall = 6
action_number AbortUpgrade = 7
action_number AbortRemove = 8
action_number FailedUpgrade = 9
