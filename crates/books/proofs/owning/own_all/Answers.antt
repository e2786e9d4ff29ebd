use Rattle.std.proofs.Common.{◌≡◌, ℕ, ltb, List, sym, ◌∙◌, subst, rules}
use Rattle.std.specs.Prelude.{is_ok}
use Rattle.package.specs.Files.{ware_of, files_of, files_left}
use Rattle.package.specs.Wares.{Ware}
use Rattle.status.specs.declared.rows.Owned.{Owned}
use Rattle.table.specs.Answers.{live, room}
use Rattle.steps.specs.Wares.{Distinct}
use Rattle.steps.proofs.Goods.{files_read, files_distinct}
use Rattle.books.specs.Changes.{Put}
use Rattle.books.proofs.Ownings.{Onwards, owned_room, owned_more, owned_end}
use Rattle.books.proofs.owning.own_all.Goals as goal

pub loop-file-init : goal.loop-file-init
loop-file-init c =
    let e : files_of c.args.new.now ≡ files_left c.into_iter-file-iterator.result = search rules in
    let d : Distinct (files_of c.args.new.now) = subst Distinct (sym (files_read c.args.new.now)) (files_distinct c.args.new.now) in
    let o = c.args.owners.now in
    record {
      places = search rules;
      apart = subst Distinct e d;
      owned = λ fits.
          subst (λ (xs : List Ware). Onwards c.args.name (files_of c.args.new.now) xs (room o) (live o) (live o)) e
          (record { room = fits; last = λ new h. h });
    }

pub loop-file-preserved : goal.loop-file-preserved
loop-file-preserved c =
    let i = c.loop-file.invariant in
    let start = c.args.owners.now in
    let now = live c.loop-file.owners in
    let next = live c.put.new.table in
    let all = files_of c.args.new.now in
    let x = ware_of c.in-Some.file in
    let rest = files_left c.next.new.self in
    let e = c.in-Some.ensures.steps in
    let row : Owned = record { path = x.path; owner = c.args.name; kind = x.kind } in
    let put : Put ltb (λ (o : Owned). o.path) row (room start) now (is_ok c.put.result) next =
    subst (λ (n : ℕ). Put ltb (λ (o : Owned). o.path) row n now (is_ok c.put.result) next) i.places c.put.ensures.put in
    record {
      places = c.put.ensures.room ∙ i.places;
      apart = (subst Distinct e i.apart).1;
      owned = λ fits.
          let o = i.owned fits in
          record {
            room = owned_room c.args.name x rest _ (room start) now next (is_ok c.put.result) e i.apart o.room put;
            last = λ new h. o.last new (owned_more c.args.name x rest _ (room start) now next (is_ok c.put.result) e i.apart o.room put new h);
          };
    }

pub returns : goal.returns
returns c = record {
  room = c.loop-file.invariant.places;
  owned = λ fits. (c.loop-file.invariant.owned fits).last _ (owned_end c.args.name _ _ c.in-None.ensures.steps.0);
}
