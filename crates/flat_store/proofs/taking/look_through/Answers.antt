use Rattle.std.proofs.Common.{◌≡◌, sym, refl, ◌∙◌, subst, arith}
use Rattle.store.specs.Files.{key_count}
use Rattle.flat_store.specs.Taking.{Marks}
use Rattle.flat_store.proofs.Marks.{no_marks, next_marks}
use Rattle.flat_store.proofs.taking.look_through.Goals as goal

pub loop-k-init : goal.loop-k-init
loop-k-init c = (no_marks c.args.dir.now c.unmark.new.slots c.unmark.ensures.spare, λ p. refl)

pub loop-k-preserved : goal.loop-k-preserved
loop-k-preserved c =
    let n =
    next_marks c.args.dir.now c.loop-k.slots c.loop-k.k c.told-dir (omega arith) c.loop-k.invariant.0 c.in-Some.extent (sym c.extent.ensures ∙ c.in-Some.is) c.if-not-mark.ensures.answer (c.if-not-mark.ensures.fits refl) c.mark.new.slots c.if-not-mark.ensures.slots in
    (n.0, λ p. n.1 p ∙ c.loop-k.invariant.1 p)

pub returns-clause-marks : goal.returns-clause-marks
returns-clause-marks c = let e : c.loop-k.k ≡ key_count = omega arith in subst (Marks c.args.dir.now c.loop-k.slots) e c.loop-k.invariant.0
