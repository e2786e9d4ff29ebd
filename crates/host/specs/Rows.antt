-- Which rows tell of a call, and of which.
use Rattle.std.specs.Prelude.{◌≡◌, Bool, true, false, cond, ◌&&◌, Some, None, Decides, Option, ◌==◌}
use Rattle.std.specs.Str.{bytes_eq}
use Rattle.base.specs.Texts.{name_row, version_row}
use Rattle.base.specs.declared.texts.ShortText.{ShortText}
use Rattle.base.specs.Named.{Version}
use Rattle.host.specs.declared.calls.Argument.{Argument}
use Rattle.host.specs.declared.calls.Call.{Call}
use Rattle.host.specs.declared.calls.Argument.TheVariants.{Version as version_of, Null, Nothing}
use Rattle.host.specs.declared.line.Line.{Line}
use Rattle.host.specs.Calls.{script_number, action_number}
use Rattle.host.specs.Hosts.{argument_row, line}

-- the version of an argument is allowed
abbrev pub sound_argument : Argument ShortText → Bool
sound_argument (version_of row) = version_row row.bytes
sound_argument Null = true
sound_argument Nothing = true

-- Name and versions are allowed: a call can have left this line.
abbrev pub sound : Line → Bool
sound l = name_row l.name.bytes && (version_row l.version.bytes && sound_argument l.argument)

abbrev pub argument_if : Argument ShortText → Option (Argument ShortText)
argument_if row = cond (sound_argument row) (Some row) None

abbrev pub argument_rows : Option (Argument Version) → Option (Argument ShortText)
argument_rows None = None
argument_rows (Some a) = Some (argument_row a)

abbrev pub line_if : Line → Option Line
line_if l = cond (sound l) (Some l) None

abbrev pub same_row : ShortText → ShortText → Bool
same_row a b = bytes_eq a.bytes b.bytes

abbrev pub same_argument : Argument ShortText → Argument ShortText → Bool
same_argument (version_of a) (version_of b) = same_row a b
same_argument Null Null = true
same_argument Nothing Nothing = true
same_argument _ _ = false

-- Both lines tell of one call: all five parts are equal.
abbrev pub same_call : Line → Line → Bool
same_call l k =
    same_row l.name k.name
    && (same_row l.version k.version
    && (script_number l.script == script_number k.script
    && (action_number l.action == action_number k.action
    && same_argument l.argument k.argument)))

-- The line tells of the call c.
abbrev pub tells : Line → Call → Bool
tells l c = same_call l (line c l.status)

-- The line tells of a call exactly where it is that call's line, with its own status.
abbrev pub TellsItsCall : Type 0
TellsItsCall = (l : Line) (c : Call) → Decides (tells l c) (l ≡ line c l.status)
