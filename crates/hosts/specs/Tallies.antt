-- What a host remembers of its runs.
use Rattle.std.specs.Prelude.{ℕ, ◌+◌, ◌%◌, ◌^◌, Some, None}
use Rattle.host.specs.declared.calls.Call.{Call}
use Rattle.host.specs.Hosts.{Meaning}
use Rattle.hosts.specs.declared.tallied.Tallied.{Tallied}
use Rattle.hosts.specs.declared.tally.Tally.{Tally}

-- before the first run
abbrev pub fresh : Tally
fresh = record { latest = None; count = 0 }

-- one run more
abbrev pub counted : Tally → Call → Tally
counted t c = record { latest = Some c; count = (t.count + 1) % 2 ^ 64 }

-- a host of such answers, where `gives` says what they give to a call
abbrev pub told : {A : Type 0} → (A → Call → ℕ) → Tallied A → Meaning
told gives h = record { status = gives h.answers; latest = h.tally.latest; count = h.tally.count }
