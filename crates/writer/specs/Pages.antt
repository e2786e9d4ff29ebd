-- What a writer has written: the first items of lent memory. The items behind them are free.
use Rattle.std.specs.Prelude.{◌≡◌, ◌+◌, ◌<◌, List, ◌++◌, length, take, drop, Ok, Err, Result, OnOk, OnErr}
use Rattle.writer.specs.declared.lent.Lent.{Lent}
use Rattle.writer.specs.declared.lent.Full.{Full}

-- Exactly the text stands behind what was written before; every other item is as it was.
pub record Wrote {A : Type 0} (text : List A) (p p' : Lent A) : Type 0 where
  pub count : p'.count ≡ p.count + length text
  pub front : take p'.count p'.items.now ≡ take p.count p.items.now ++ text
  pub rest : drop p'.count p'.items.now ≡ drop p'.count p.items.now
  pub room : length p'.items.now ≡ length p.items.now
  pub same_reference : p'.items.ghost_name ≡ p.items.ghost_name

-- The text did not fit; what was written before stands as it was.
pub record Stopped {A : Type 0} (text : List A) (p p' : Lent A) : Type 0 where
  pub lacks : length p.items.now < p.count + length text
  pub front : take p.count p'.items.now ≡ take p.count p.items.now
  pub room : length p'.items.now ≡ length p.items.now
  pub same_reference : p'.items.ghost_name ≡ p.items.ghost_name

-- The text was put as one piece: where it did not fit, nothing changed.
abbrev pub Puts : {A : Type 0} → Result (Unit {0}) Full → List A → Lent A → Lent A → Type 0
Puts (Ok u) text p p' = Wrote text p p'
Puts (Err e) text p p' = (length p.items.now < p.count + length text) × (p' ≡ p)

-- The text was put in several pieces, up to the first that did not fit.
pub record Writes {A : Type 0} (r : Result (Unit {0}) Full) (text : List A) (p p' : Lent A) : Type 0 where
  pub whole : OnOk r (Wrote text p p')
  pub short : OnErr r (Stopped text p p')
