use Rattle.std.proofs.Common.{List, length, is_some, not, Option, ap, ◌∙◌, subst, arith}
use Rattle.package.specs.Files.{ware_of}
use Rattle.package.specs.Wares.{Ware}
use Rattle.status.specs.declared.rows.Owned.{Owned}
use Rattle.steps.specs.Wares.{one_if}
use Rattle.books.specs.Ledger.{ledger}
use Rattle.books.specs.Changes.{owners_in}
use Rattle.books.specs.Owners.{foreign_at, differs_at, Surveyed}
use Rattle.steps.proofs.Goods.{files_read}
use Rattle.books.proofs.Surveys.{any_turn, any_end, fresh_turn, fresh_end}
use Rattle.books.proofs.books.Books.survey.Goals as goal

pub loop-file-preserved : goal.loop-file-preserved
loop-file-preserved c =
    let i = c.loop-file.invariant in
    let f = owners_in (ledger c.args.self.now).owners in
    let name = c.args.name in
    let x = ware_of c.in-Some.file in
    let e = c.in-Some.ensures.steps in
    let here = c.survey_one-here.ensures in
    let l = ap length e in
    let s = here.small in
    record {
      foreign = any_turn (λ (w : Ware). foreign_at name (f w.path)) _ _ x _ _ e (here.foreign ∙ ap (foreign_at name) c.owner.ensures) ∙ i.foreign;
      differing = any_turn (λ (w : Ware). differs_at w.kind (f w.path)) _ _ x _ _ e (here.differing ∙ ap (differs_at x.kind) c.owner.ensures) ∙ i.differing;
      fresh = fresh_turn f _ _ x _ _ e (here.fresh ∙ ap (λ (o : Option Owned). one_if (not (is_some o))) c.owner.ensures) ∙ i.fresh;
      few = omega arith;
    }

pub returns : goal.returns
returns c =
    let i = c.loop-file.invariant in
    let f = owners_in (ledger c.args.self.now).owners in
    let z = c.in-None.ensures.steps.0 in
    subst (λ (xs : List Ware). Surveyed c.args.name f xs c.loop-file.survey) (files_read c.args.new.now) (record {
      foreign = any_end (λ (w : Ware). foreign_at c.args.name (f w.path)) _ _ z ∙ i.foreign;
      differing = any_end (λ (w : Ware). differs_at w.kind (f w.path)) _ _ z ∙ i.differing;
      fresh = fresh_end f _ _ z ∙ i.fresh;
    })
