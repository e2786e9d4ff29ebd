use Rattle.std.proofs.Common.{◌≡◌, ℕ, ◌<◌, refl, sym, ◌∙◌, subst, arith}
use Rattle.std.proofs.lemmas.Bool.{both_ways}
use Rattle.std.proofs.lemmas.List.{get_or-take, length-take}
use Rattle.store.specs.Files.{key_count}
use Rattle.block_store.specs.Chained.{none, Full}
use Rattle.block_store.specs.declared.cells.Chain.{Chain}
use Rattle.block_store.specs.Taking.{Fresh, Marked, Marks}
use Rattle.block_store.proofs.Marks.{no_marks, more_marks, bad_full, bad_stale, whole, damaged, same_then}
use Rattle.block_store.proofs.taking.look_through.Goals as goal

pub slice_bounds-chain-items-end : goal.slice_bounds-chain-items-end
slice_bounds-chain-items-end c = omega (arith, length-take 1024 c.args.dir.now)

pub offset_bounds-chain-items-k : goal.offset_bounds-chain-items-k
offset_bounds-chain-items-k c = omega (arith, length-take 1024 c.args.dir.now)

pub loop-k-init : goal.loop-k-init
loop-k-init c = (no_marks c.args.dir.now c.unmark.new.blocks c.unmark.ensures.seen, (λ q. refl, λ q. refl))

pub loop-k-preserved : goal.loop-k-preserved
loop-k-preserved c =
    let dir = c.args.dir.now in
    let bs = c.loop-k.blocks in
    let new = c.mark.new.blocks in
    let kl : c.loop-k.k < key_count = omega (arith, length-take key_count dir) in
    let at = get_or-take key_count dir c.loop-k.k none kl in
    let full = subst (λ (e : Chain). Full e) at (c.full.ensures.0 c.if-not-full.false) in
    let fresh = subst (λ (e : Chain). Fresh bs e.blocks e.first) at (c.mark.ensures.fresh.0 c.if-not-mark.false) in
    let marked = subst (λ (e : Chain). Marked bs new e.blocks e.first) at (c.mark.ensures.marks c.if-not-mark.false) in
    (more_marks dir bs c.loop-k.k (omega arith) kl c.loop-k.invariant.0 new c.mark.auto.blocks c.mark.ensures.same full fresh marked, same_then new bs _ c.mark.ensures.same c.loop-k.invariant.1)

pub returns-then-not-full-clause-found : goal.returns-then-not-full-clause-found
returns-then-not-full-clause-found c =
    let dir = c.args.dir.now in
    let bs = c.loop-k.blocks in
    let kl : c.loop-k.k < key_count = omega (arith, length-take key_count dir) in
    let at = sym (get_or-take key_count dir c.loop-k.k none kl) in
    damaged dir c.args.blocks.now bs c.loop-k.k kl (c.loop-k.auto.blocks ∙ c.unmark.auto.blocks) (same_then bs c.unmark.new.blocks _ c.loop-k.invariant.1 c.unmark.ensures.same) c.loop-k.invariant.0
    (bad_full dir bs c.loop-k.k (omega arith) kl c.loop-k.invariant.0 (λ h. both_ways _ c.if-not-full.true (c.full.ensures.1 (subst (λ (e : Chain). Full e) at h))))

pub returns-then-not-mark-clause-found : goal.returns-then-not-mark-clause-found
returns-then-not-mark-clause-found c =
    let dir = c.args.dir.now in
    let bs = c.loop-k.blocks in
    let kl : c.loop-k.k < key_count = omega (arith, length-take key_count dir) in
    let at = sym (get_or-take key_count dir c.loop-k.k none kl) in
    damaged dir c.args.blocks.now bs c.loop-k.k kl (c.loop-k.auto.blocks ∙ c.unmark.auto.blocks) (same_then bs c.unmark.new.blocks _ c.loop-k.invariant.1 c.unmark.ensures.same) c.loop-k.invariant.0
    (bad_stale dir bs c.loop-k.k (omega arith) kl c.loop-k.invariant.0 (λ h. both_ways _ c.if-not-mark.true (c.mark.ensures.fresh.1 (subst (λ (e : Chain). Fresh bs e.blocks e.first) at h))))

pub returns-clause-found : goal.returns-clause-found
returns-clause-found c =
    let e : c.loop-k.k ≡ key_count = omega (arith, length-take key_count c.args.dir.now) in
    whole c.args.dir.now c.args.blocks.now c.loop-k.blocks c.loop-k.k e (c.loop-k.auto.blocks ∙ c.unmark.auto.blocks) (same_then c.loop-k.blocks c.unmark.new.blocks _ c.loop-k.invariant.1 c.unmark.ensures.same) c.loop-k.invariant.0

pub returns-clause-marks : goal.returns-clause-marks
returns-clause-marks c =
    let e : c.loop-k.k ≡ key_count = omega (arith, length-take key_count c.args.dir.now) in
    subst (λ (k : ℕ). Marks c.args.dir.now c.loop-k.blocks k) e c.loop-k.invariant.0
