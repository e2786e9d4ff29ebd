-- What the files of an image cost.
use Rattle.std.specs.Prelude.{◌≡◌, ℕ, suc, ◌+◌, ◌<◌, ◌≤◌, List, [], ◌∷◌, map, length, take, Option, Some, None, sum_by, refl}
use Rattle.std.proofs.Common.{◌∙◌, arith}
use Rattle.std.proofs.lemmas.List.{length-take}
use Rattle.std.proofs.lemmas.List.Sums.{sum_by-cons}
use Rattle.store.specs.Files.{units_of, used}
use Rattle.flat_store.specs.Images.{extent_of, extent_at, words_at, extent_file, entry_file, image_files, Fits, extent_units, units, Kept}
use Rattle.flat_store.specs.declared.cells.Entry.{Entry}
use Rattle.flat_store.specs.declared.cells.Extent.{Extent}
use Rattle.flat_store.specs.declared.cells.Slot.{Slot}

module _ (ss : List Slot) where
  pub length_file : (e : Extent) → Fits ss (Some e) → length (take e.len (words_at ss e.slot)) ≡ e.len
  length_file e f = length-take e.len (words_at ss e.slot) ∙ omega (arith, f e refl)

  pub units_file : (o : Option Extent) → Fits ss o → units_of 32 (extent_file ss o) ≡ extent_units o
  units_file None f = refl
  units_file (Some e) f = omega (arith, length_file e f, f e refl)

  used_from : (es : List Entry) → ((k : ℕ) → k < length es → Fits ss (extent_at es k)) → used 32 (map (entry_file ss) es) ≡ sum_by units es
  used_from [] h = refl
  used_from (e ∷ es) h =
      sum_by-cons (units_of 32) (entry_file ss e) (map (entry_file ss) es)
      ∙ omega (arith, units_file (extent_of e) (h 0 (omega arith)), used_from es (λ k l. h (suc k) (omega arith)), sum_by-cons units e es)

  pub used_slots : (dir : List Entry) (free : ℕ) → Kept dir ss free → used 32 (image_files dir ss) + free ≡ length ss
  used_slots dir free kept = omega (arith, kept.1, used_from dir (λ k l. kept.2 k (omega (arith, kept.0))))

  -- what is used is within the slots
  pub room_all : (dir : List Entry) (free : ℕ) → Kept dir ss free → used 32 (image_files dir ss) ≤ length ss
  room_all dir free kept = omega (arith, used_slots dir free kept)
