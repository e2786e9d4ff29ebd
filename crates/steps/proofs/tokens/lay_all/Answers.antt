use Rattle.std.proofs.Common.{ℕ, List, length, sym, ap, ◌∙◌, arith}
use Rattle.std.proofs.lemmas.Bool.{not-true, not-false}
use Rattle.package.specs.Files.{ware_of}
use Rattle.package.specs.Wares.{Ware}
use Rattle.store.specs.Sides.{sides_at}
use Rattle.steps.specs.Steps.{room_for}
use Rattle.steps.specs.Wares.{lay_all}
use Rattle.steps.proofs.Goods.{files_read}
use Rattle.steps.proofs.Layings.{turn_end, turn_stop, turn_on, byte_small}
use Rattle.steps.proofs.tokens.lay_all.Goals as goal

pub overflow_add-touched : goal.overflow_add-touched
overflow_add-touched g c =
    let l = ap length c.in-Some.ensures.steps in
    let i = c.loop-file.invariant in
    let e = ap length c.files-file-items.ensures.files in
    omega (arith, c.files-file-items.ensures.few)

pub overflow_add-aside : goal.overflow_add-aside
overflow_add-aside g c =
    let l = ap length c.in-Some.ensures.steps in
    let i = c.loop-file.invariant in
    let e = ap length c.files-file-items.ensures.files in
    omega (arith, c.files-file-items.ensures.few, byte_small c.lay-one.result.aside)

pub returns-then-not-one-clause-laid : goal.returns-then-not-one-clause-laid
returns-then-not-one-clause-laid g c =
    let x = ware_of c.in-Some.file in
    let f = sides_at (g.S.Store.files c.loop-file.store) in
    c.loop-file.invariant.laid
    ∙ turn_stop _ _ _ _ x _ _ f _ c.lay-one.result.admitted c.lay-one.result.aside c.in-Some.ensures.steps
    (c.lay-one.ensures.admitted ∙ ap (λ (n : ℕ). room_for g.S.Store.block n x.kind x.path x.words f) c.loop-file.invariant.units)
    c.lay-one.ensures.sides c.lay-one.ensures.aside (not-true _ c.if-not-one.true)

pub returns-then-not-one-clause-laid_goods : goal.returns-then-not-one-clause-laid_goods
returns-then-not-one-clause-laid_goods g c =
    ap (λ (xs : List Ware). lay_all g.S.Store.block (g.S.Store.units c.args.store.now) xs (sides_at (g.S.Store.files c.args.store.now))) (sym (files_read c.args.new.now))
    ∙ returns-then-not-one-clause-laid g c

pub loop-file-preserved : goal.loop-file-preserved
loop-file-preserved g c =
    let x = ware_of c.in-Some.file in
    let f = sides_at (g.S.Store.files c.loop-file.store) in
    let l = ap length c.in-Some.ensures.steps in
    let i = c.loop-file.invariant in
    let s = byte_small c.lay-one.result.aside in
    record {
      laid =
          c.loop-file.invariant.laid
          ∙ turn_on _ _ _ _ x _ _ f _ c.lay-one.result.admitted c.lay-one.result.aside c.in-Some.ensures.steps
          (c.lay-one.ensures.admitted ∙ ap (λ (n : ℕ). room_for g.S.Store.block n x.kind x.path x.words f) c.loop-file.invariant.units)
          c.lay-one.ensures.sides c.lay-one.ensures.aside (not-false _ c.if-not-one.false);
      units = c.lay-one.ensures.units ∙ c.loop-file.invariant.units;
      few = omega arith;
      fewer = omega arith;
    }

pub returns-clause-laid_goods : goal.returns-clause-laid_goods
returns-clause-laid_goods g c =
    ap (λ (xs : List Ware). lay_all g.S.Store.block (g.S.Store.units c.args.store.now) xs (sides_at (g.S.Store.files c.args.store.now))) (sym (files_read c.args.new.now))
    ∙ c.loop-file.invariant.laid
    ∙ turn_end _ _ _ _ _ _ c.in-None.ensures.steps.0
