use Rattle.std.proofs.Common.{◌≡◌, List, length, replicate, ◌∙◌, ap, sym, subst, rules, arith}
use Rattle.store.specs.Files.{key_count}
use Rattle.flat_store.specs.Images.{none, Kept, image_files}
use Rattle.flat_store.specs.declared.cells.Entry.{Entry}
use Rattle.flat_store.proofs.Images.{new_kept, files_none}
use Rattle.flat_store.proofs.making.wipe.Goals as goal

pub returns : goal.returns
returns c =
    let ss = c.loop-i.slots in
    let e : c.fill.new.self ≡ replicate key_count none = c.fill.ensures.after (λ y h. search rules) ∙ ap (λ n. replicate n none) c.told-dir in
    let P : List Entry → Type 0 = λ d. Kept d ss (length ss) in
    record {
      sound = subst P (sym e) (new_kept ss (λ i h. c.loop-i.invariant i (omega (arith, c.loop-i.auto.slots))));
      files = ap (λ d. image_files d ss) e ∙ files_none ss key_count;
    }
