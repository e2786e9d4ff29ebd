-- Parts that are equal make equal lines.
use Rattle.std.proofs.Common.{◌≡◌, Bool, true, false, Decides, ◌&&◌, eqb, sym, refl, ap, rules, arith}
use denote.Enum.Bare.{sameb, same_true, true_same}
use Rattle.std.proofs.lemmas.Slice.Eq.{bytes_eq-Decides}
use Rattle.std.proofs.Math.Bool.{and-true}
use Rattle.std.proofs.lemmas.Bool.{true≢false, eq-eqb}
use Rattle.std.proofs.lemmas.Bool.Decides.{same_from_decides, Decides-and, Decides-eqb, Decides-like}
use Rattle.base.specs.declared.texts.ShortText.{ShortText}
use Rattle.host.specs.declared.calls.Script.{Script}
use Rattle.host.specs.declared.calls.Action.{Action}
use Rattle.host.specs.declared.calls.Argument.{Argument}
use Rattle.host.specs.declared.calls.Argument.TheVariants.{Version, Null, Nothing}
use Rattle.host.specs.declared.line.Line.{Line}
use Rattle.host.specs.declared.calls.Call.{Call}
use Rattle.host.specs.contracts.calls.Script.{the_type as script_type}
use Rattle.host.specs.contracts.calls.Action.{the_type as action_type}
use Rattle.host.specs.contracts.line.LinePartialEq.TheImpl as lines
use Rattle.host.specs.Calls.{script_number, action_number}
use Rattle.host.specs.Hosts.{argument_row, line}
use Rattle.host.specs.Rows.{same_row, same_argument, same_call, tells, TellsItsCall}

row_decides : (a b : ShortText) → Decides (same_row a b) (a ≡ b)
row_decides a b = Decides-like _ (λ e. λ i. record { bytes = e i }) (ap (λ (x : ShortText). x.bytes)) (bytes_eq-Decides a.bytes b.bytes)

argument_decides : (a b : Argument ShortText) → Decides (same_argument a b) (a ≡ b)
argument_decides (Version a) (Version b) = Decides-like _ (ap (λ (x : ShortText). Version x)) (λ e. cc) (row_decides a b)
argument_decides Null Null = (λ e. refl, λ e. refl)
argument_decides Nothing Nothing = (λ e. refl, λ e. refl)
argument_decides _ _ = (λ e. absurd (true≢false (sym e)), λ e. cc)

script_decides : (a b : Script) → Decides (eqb (script_number a) (script_number b)) (a ≡ b)
script_decides a b = Decides-like _ (λ e. grind arith) (ap script_number) (Decides-eqb (script_number a) (script_number b))

action_decides : (a b : Action) → Decides (eqb (action_number a) (action_number b)) (a ≡ b)
action_decides a b = Decides-like _ (λ e. grind arith) (ap action_number) (Decides-eqb (action_number a) (action_number b))

pub tells_its_call : TellsItsCall
tells_its_call l c =
    let k = line c l.status in
    Decides-like (tells l c)
    (λ p i. record { name = p.0 i; version = p.1.0 i; script = p.1.1.0 i; action = p.1.1.1.0 i; argument = p.1.1.1.1 i; status = l.status })
    (λ e. (cc, (cc, (cc, (cc, cc)))))
    (Decides-and _ _ (row_decides l.name k.name)
    (Decides-and _ _ (row_decides l.version k.version)
    (Decides-and _ _ (script_decides l.script k.script)
    (Decides-and _ _ (action_decides l.action k.action)
    (argument_decides l.argument k.argument)))))

-- `==` of lines compares the same parts
script_test : (a b : Script) → sameb script_type a b ≡ eqb (script_number a) (script_number b)
script_test a b = same_from_decides _ _ (same_true script_type (search rules) a b, true_same script_type a b) (script_decides a b)

action_test : (a b : Action) → sameb action_type a b ≡ eqb (action_number a) (action_number b)
action_test a b = same_from_decides _ _ (same_true action_type (search rules) a b, true_same action_type a b) (action_decides a b)

test_parts : (l k : Line) (p q r : Bool) → (p && (q && (sameb script_type l.script k.script && (sameb action_type l.action k.action && (r && eqb l.status l.status)))))
    ≡ (p && (q && (eqb (script_number l.script) (script_number k.script) && (eqb (action_number l.action) (action_number k.action) && r))))
test_parts l k p q r = rw (script_test l.script k.script, action_test l.action k.action, eq-eqb l.status l.status refl, and-true r) refl

line_test_at : (l k : Line) (a b : Argument ShortText) → lines.ghosts.eq (record l { argument = a }) (record k { argument = b; status = l.status }) ≡ same_call (record l { argument = a }) (record k { argument = b })
line_test_at l k (Version a) (Version b) = test_parts l k _ _ (same_row a b)
line_test_at l k (Version a) Null = test_parts l k _ _ false
line_test_at l k (Version a) Nothing = test_parts l k _ _ false
line_test_at l k Null (Version b) = test_parts l k _ _ false
line_test_at l k Null Null = test_parts l k _ _ true
line_test_at l k Null Nothing = test_parts l k _ _ false
line_test_at l k Nothing (Version b) = test_parts l k _ _ false
line_test_at l k Nothing Null = test_parts l k _ _ false
line_test_at l k Nothing Nothing = test_parts l k _ _ true

pub line_test : (l : Line) (c : Call) → lines.ghosts.eq l (line c l.status) ≡ tells l c
line_test l c = line_test_at l (line c l.status) l.argument (argument_row c.argument)
