-- What a removal by key leaves, whether or not a row has the key.
use Rattle.std.proofs.Common.{◌≡◌, ℕ, zero, suc, Bool, true, false, cond, List, [], ◌∷◌, length, take, Some, None, Option, refl, ap, ◌∙◌, ap₂, add-zero}
use Rattle.table.specs.declared.key.Element as element
use Rattle.table.specs.declared.key.Key as key
use Rattle.table.specs.declared.table.Table.{Table}
use Rattle.table.specs.Order.{Total, meets}
use Rattle.table.specs.Rows.{Stands, lookup, Only}
use Rattle.table.specs.Answers.{live, Absent, Removes}
use Rattle.table.proofs.Meets.{meets_sym, meets_meets}
use Rattle.table.proofs.Looks.{look_missing}
use Rattle.books.specs.Changes.{Out}

module _ {E K : Type 0} {below : K → K → Bool} {same : K → K → Type 0} (total : Total below same) (keyed : E → K) where
  -- a row of a key is a row of every key that meets it
  stands_like : (k q : K) (xs : List E) (i : ℕ) → meets below k q ≡ true → Stands below keyed q xs i → Stands below keyed k xs i
  stands_like k q [] i m s = absurd s
  stands_like k q (x ∷ xs) zero m s = meets_sym total (keyed x) k ∙ meets_meets total k q (keyed x) m ∙ meets_sym total q (keyed x) ∙ s
  stands_like k q (x ∷ xs) (suc i) m s = stands_like k q xs i m s

  -- where no row has the key, nothing is to be taken out
  pub only_absent : (k : K) (xs : List E) → Absent below keyed k xs → Only below keyed k None xs xs
  only_absent k xs a q =
      (elim (meets below k q) as (λ b. meets below k q ≡ b → lookup below keyed q xs ≡ cond b None (lookup below keyed q xs))
      [ true ↦ λ m. look_missing total keyed q xs (λ i s. a.missing i (stands_like k q xs i m s)) | false ↦ λ _. refl ]) refl

  pub removes_out : {g : element.Ghosts E K} {h : key.Ghosts K} (k : K) (t t' : Table E K g h) (r : Option E) → Removes below keyed k t r t' → Out below keyed k (live t) (live t')
  removes_out k t t' (Some old) h = record { law = h.1.law; count = rw (h.1.stood.row old h.1.was) h.1.count }
  removes_out k t t' None h =
      let e : live t' ≡ live t = ap₂ take h.1.0 h.1.1 in
      record {
        law = λ q. ap (lookup below keyed q) e ∙ only_absent k (live t) h.0 q;
        count = rw (h.0.row, add-zero) (ap length e);
      }
