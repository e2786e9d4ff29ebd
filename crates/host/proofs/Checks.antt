-- Rows that tell of a call.
use Rattle.std.proofs.Common.{◌≡◌, Bool, true, false, cond, ◌&&◌, is_some, Some, None, Option, sym, refl, ap}
use Rattle.std.proofs.lemmas.Bool.{and_from, and_left, and_right}
use Rattle.base.specs.Texts.{name_row, version_row}
use Rattle.base.specs.Named.{Name}
use Rattle.base.specs.Named.{Version}
use Rattle.host.specs.declared.calls.Argument.{Argument}
use Rattle.host.specs.declared.calls.Call.{Call}
use Rattle.host.specs.declared.line.Line.{Line}
use Rattle.host.specs.Hosts.{argument_row, line, call_line}
use Rattle.host.specs.Rows.{sound, sound_argument, argument_if, line_if}

-- a value that passed its test, and one that did not
pub passed : {A : Type 0} (b : Bool) (x y : A) → Some x ≡ cond b (Some y) None → (b ≡ true) × (x ≡ y)
passed true x y e = (refl, cc)
passed false x y e = cc

pub failed : {A : Type 0} (b : Bool) (y : A) → None ≡ cond b (Some y) None → b ≡ false
failed true y e = cc
failed false y e = refl

pub kept : {A : Type 0} (b : Bool) (x y : A) → b ≡ true → x ≡ y → Some x ≡ cond b (Some y) None
kept {A = A} true x y h e = ap (λ (a : A). Some a) e
kept false x y h e = cc

pub lost : {A : Type 0} (b : Bool) (y : A) → b ≡ false → None ≡ cond b (Some y) None
lost true y h = cc
lost false y h = refl

pub call_some : (n : Name) (v : Version) (a : Argument Version) (l : Line) → Some n.row ≡ cond (name_row l.name.bytes) (Some l.name) None
    → Some v.row ≡ cond (version_row l.version.bytes) (Some l.version) None → Some (argument_row a) ≡ argument_if l.argument
    → call_line (Some (record { name = n; version = v; script = l.script; action = l.action; argument = a })) l.status ≡ line_if l
call_some n v a l e f g =
    let p = passed (name_row l.name.bytes) n.row l.name e in
    let q = passed (version_row l.version.bytes) v.row l.version f in
    let r = passed (sound_argument l.argument) (argument_row a) l.argument g in
    let c : Call = record { name = n; version = v; script = l.script; action = l.action; argument = a } in
    let same : line c l.status ≡ l = λ i. record { name = p.1 i; version = q.1 i; script = l.script; action = l.action; argument = r.1 i; status = l.status } in
    kept (sound l) (line c l.status) l
    (and_from (name_row l.name.bytes) (version_row l.version.bytes && sound_argument l.argument) p.0 (and_from (version_row l.version.bytes) (sound_argument l.argument) q.0 r.0)) same

pub no_name : (l : Line) → None ≡ cond (name_row l.name.bytes) (Some l.name) None → None ≡ line_if l
no_name l e = lost (sound l) l (and_left (name_row l.name.bytes) _ (failed (name_row l.name.bytes) l.name e))

pub no_version : (l : Line) → None ≡ cond (version_row l.version.bytes) (Some l.version) None → None ≡ line_if l
no_version l e =
    lost (sound l) l (and_right (name_row l.name.bytes) _ (and_left (version_row l.version.bytes) (sound_argument l.argument) (failed (version_row l.version.bytes) l.version e)))

pub no_argument : (l : Line) → None ≡ argument_if l.argument → None ≡ line_if l
no_argument l e =
    lost (sound l) l (and_right (name_row l.name.bytes) _ (and_right (version_row l.version.bytes) (sound_argument l.argument) (failed (sound_argument l.argument) l.argument e)))

pub ruleset calls = (call_some, no_name, no_version, no_argument)

-- the check of a line is whether its call was made
pub sound_is : (r : Option Call) (l : Line) → call_line r l.status ≡ line_if l → is_some r ≡ sound l
sound_is None l e = sym (failed (sound l) l e)
sound_is (Some c) l e = sym (passed (sound l) (line c l.status) l e).0
