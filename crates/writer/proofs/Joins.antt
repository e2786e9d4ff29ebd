-- Pieces of text, one after the other.
use Rattle.std.proofs.Common.{◌≡◌, ℕ, ◌+◌, ◌-◌, ◌≤◌, List, ◌++◌, take, drop, Ok, Err, Result, sym, ap, ◌∙◌, append_assoc, arith, length-append, length-take-le, take-take, take_at}
use Rattle.std.proofs.lemmas.Bool.{false≢true}
use Rattle.std.proofs.lemmas.List.{drop-drop}
use Rattle.std.specs.Result.{IsErr}
use Rattle.writer.specs.declared.lent.Lent.{Lent}
use Rattle.writer.specs.declared.lent.Full.{Full}
use Rattle.writer.specs.Pages.{Wrote, Stopped, Writes}

-- what lies behind the end of two pieces
rest_on : (xs ys zs : List ℕ) (n n' : ℕ) → n ≤ n' → drop n' zs ≡ drop n' ys → drop n ys ≡ drop n xs → drop n' zs ≡ drop n' xs
rest_on xs ys zs n n' h e k =
    let m : n + (n' - n) ≡ n' = omega arith in
    let at : (l : List ℕ) → drop n' l ≡ drop (n' - n) (drop n l) = λ l. ap (λ (i : ℕ). drop i l) (sym m) ∙ sym (drop-drop (n' - n) n l) in
    e ∙ at ys ∙ ap (drop (n' - n)) k ∙ sym (at xs)

-- a piece behind a piece
pub wrote_both : {a b : List ℕ} {p p' p'' : Lent ℕ} → Wrote a p p' → Wrote b p' p'' → Wrote (a ++ b) p p''
wrote_both {a = a} {b = b} {p = p} {p' = p'} {p'' = p''} f g = record {
  count = omega (arith, f.count, g.count, length-append a b);
  front = g.front ∙ ap (λ (x : List ℕ). x ++ b) f.front ∙ append_assoc (take p.count p.items.now) a b;
  rest = rest_on p.items.now p'.items.now p''.items.now p'.count p''.count (omega (arith, g.count)) g.rest f.rest;
  room = g.room ∙ f.room;
  same_reference = g.same_reference ∙ f.same_reference;
}

pub second_stopped : {a b : List ℕ} {p p' p'' : Lent ℕ} → Wrote a p p' → Stopped b p' p'' → Stopped (a ++ b) p p''
second_stopped {a = a} {b = b} {p = p} {p' = p'} {p'' = p''} f g = record {
  lacks = omega (arith, f.count, f.room, g.lacks, length-append a b);
  front = sym (take-take p.count p'.count p''.items.now (omega (arith, f.count)))
      ∙ ap (take p.count) (g.front ∙ f.front)
      ∙ take_at (take p.count p.items.now) a p.count (length-take-le p.count p.items.now p.fits);
  room = g.room ∙ f.room;
  same_reference = g.same_reference ∙ f.same_reference;
}

pub first_stopped : {a : List ℕ} {p p' : Lent ℕ} (b : List ℕ) → Stopped a p p' → Stopped (a ++ b) p p'
first_stopped {a = a} b f = record {
  lacks = omega (arith, f.lacks, length-append a b);
  front = f.front;
  room = f.room;
  same_reference = f.same_reference;
}

-- the same of a text that may not fit
pub then_on : {r : Result (Unit {0}) Full} {a b : List ℕ} {p p' p'' : Lent ℕ} → Wrote a p p' → Writes r b p' p'' → Writes r (a ++ b) p p''
then_on {r = Ok u} f g = record { whole = wrote_both f g.whole; short = tt }
then_on {r = Err e} f g = record { whole = tt; short = second_stopped f g.short }

pub stops : {r : Result (Unit {0}) Full} {a : List ℕ} {p p' : Lent ℕ} → IsErr r → Stopped a p p' → Writes r a p p'
stops {r = Ok u} h f = absurd (false≢true h)
stops {r = Err e} h f = record { whole = tt; short = f }
