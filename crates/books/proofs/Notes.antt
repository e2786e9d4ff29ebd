-- One line more in the trace, by whether there was room.
use Rattle.std.proofs.Common.{◌≡◌, Bool, true, false, ltb, [], ◌∷◌, ◌++◌, length, Ok, Err, Result, sym, ap, ◌∙◌, arith, length-take}
use Rattle.std.specs.Prelude.{is_ok}
use Rattle.std.proofs.lemmas.Bool.{lt-ltb, le-ltb, true≢false, false≢true}
use Rattle.writer.specs.declared.lent.Lent.{Lent}
use Rattle.writer.specs.declared.lent.Full.{Full}
use Rattle.writer.specs.Items.{Adds, items_in, space as room}
use Rattle.host.specs.declared.line.Line.{Line}

pub record Noted (line : Line) (r : Bool) (t t' : Lent Line) : Type 0 where
  pub told : r ≡ ltb (length (items_in t)) (room t)
  pub added : r ≡ true → items_in t' ≡ items_in t ++ (line ∷ [])
  pub same : r ≡ false → t' ≡ t
  pub space : room t' ≡ room t

used_is : (t : Lent Line) → length (items_in t) ≡ t.count
used_is t = let f = t.fits in simp length-take (omega arith)

pub noted : (line : Line) (r : Result (Unit {0}) Full) (b : Bool) (t t' : Lent Line) → b ≡ is_ok r → Adds r line t t' → Noted line b t t'
noted line (Ok u) b t t' e a =
    let h = a.room in
    let n = used_is t in
    record {
      told = e ∙ sym (lt-ltb (length (items_in t)) (room t) (omega arith));
      added = λ _. a.one_item;
      same = λ z. absurd (true≢false (sym e ∙ z));
      space = a.same_space;
    }
noted line (Err x) b t t' e a =
    let h = a.0 in
    let n = used_is t in
    record {
      told = e ∙ sym (le-ltb (length (items_in t)) (room t) (omega arith));
      added = λ z. absurd (false≢true (sym e ∙ z));
      same = λ _. a.1;
      space = ap room a.1;
    }
