-- What a found key and a changed list of rows say of the table.
use Rattle.std.proofs.Common.{◌≡◌, ℕ, ◌<◌, Bool, true, List, length, get_or, set, take, sym, ap, ◌∙◌, arith, length-set, length-take-le}
use Rattle.std.specs.List.{insert, remove}
use Rattle.std.proofs.Math.Seq.{take-set-lt}
use Rattle.std.proofs.lemmas.List.{get_or-take}
use Rattle.std.proofs.lemmas.List.Edits.{length-insert, length-remove}
use Rattle.table.specs.declared.key.Element as element
use Rattle.table.specs.declared.key.Key as key
use Rattle.table.specs.declared.table.Table.{Table}
use Rattle.table.specs.Order.{Total}
use Rattle.table.specs.Rows.{rising, Stands, Missing, lookup}
use Rattle.table.specs.Spots.{rank}
use Rattle.table.specs.Answers.{live, room, Found, Absent, Entered, Replaced, Removed}
use Rattle.table.proofs.Meets.{self_meets}
use Rattle.table.proofs.Ranks.{rank_within, stands_within, stands_from}
use Rattle.table.proofs.Looks.{look_missing, look_stands, only_inserted, only_removed, only_set}

module _ {E K : Type 0} {below : K → K → Bool} {same : K → K → Type 0} (total : Total below same) (keyed : E → K) where
  pub found : (k : K) (xs : List E) (i : ℕ) → rising below keyed xs ≡ true → Stands below keyed k xs i → Found below keyed k xs i
  found k xs i r st = record { stands = st; row = λ x at. look_stands total keyed k xs i x r at st }

  -- a row stands at its own place
  pub found_self : (xs : List E) (i : ℕ) (x : E) → rising below keyed xs ≡ true → i < length xs → x ≡ get_or xs i x → Found below keyed (keyed x) xs i
  found_self xs i x r h at = found (keyed x) xs i r (stands_from below keyed (keyed x) xs i x h at (self_meets total (keyed x)))

  pub absent : (k : K) (xs : List E) → Missing below keyed k xs → Absent below keyed k xs
  absent k xs m = record { missing = m; row = look_missing total keyed k xs m }

module _ {E K : Type 0} {g : element.Ghosts E K} {h : key.Ghosts K} (t : Table E K g h) where
  -- `len` counts the rows in use
  pub live_len : length (live t) ≡ t.len
  live_len = length-take-le t.len t.rows.now t.within

  -- what is read of the memory, and what is written over it, at a place in use
  pub live_at : (i : ℕ) (x : E) → i < length (live t) → x ≡ get_or t.rows.now i x → x ≡ get_or (live t) i x
  live_at i x lt at = at ∙ sym (get_or-take t.len t.rows.now i x (omega (arith, live_len)))

  pub live_set : (i : ℕ) (e : E) (rows : List E) → i < length (live t) → rows ≡ set t.rows.now i e → take t.len rows ≡ set (live t) i e
  live_set i e rows lt is = ap (take t.len) is ∙ take-set-lt t.len t.rows.now i e (omega (arith, live_len))

module _ {E K : Type 0} {g : element.Ghosts E K} {h : key.Ghosts K} (total : Total h.below h.same) (t t' : Table E K g h) (i : ℕ) where
  pub entered : (e : E) → i ≡ rank h.below g.keyed (g.keyed e) (live t) → Absent h.below g.keyed (g.keyed e) (live t) → length (live t) < room t
      → live t' ≡ insert (live t) i e → Entered h.below g.keyed e t i t'
  entered e at no_row f is = record {
    new = no_row;
    fits = f;
    rows = is;
    order = (t'.within, t'.order);
    count = ap length is ∙ length-insert (live t) i e (omega (arith, rank_within h.below g.keyed (g.keyed e) (live t)));
    law = λ q. ap (lookup h.below g.keyed q) is ∙ only_inserted total g.keyed e (live t) i no_row.missing q;
  }

  pub replaced : (e x : E) → Found h.below g.keyed (g.keyed e) (live t) i → x ≡ get_or (live t) i x → live t' ≡ set (live t) i e
      → Replaced h.below g.keyed e t x t' i
  replaced e x f at is = record {
    stood = f;
    was = at;
    rows = is;
    order = (t'.within, t'.order);
    count = ap length is ∙ length-set (live t) i e;
    law = λ q. ap (lookup h.below g.keyed q) is ∙ only_set total g.keyed e (live t) i t.order f.stands q;
  }

  pub removed : (k : K) (x : E) → Found h.below g.keyed k (live t) i → x ≡ get_or (live t) i x → live t' ≡ remove (live t) i
      → Removed h.below g.keyed k t x t' i
  removed k x f at is = record {
    stood = f;
    was = at;
    rows = is;
    order = (t'.within, t'.order);
    count = rw is (length-remove (live t) i (stands_within h.below g.keyed k (live t) i f.stands));
    law = λ q. ap (lookup h.below g.keyed q) is ∙ only_removed total g.keyed k (live t) i t.order f.stands q;
  }
