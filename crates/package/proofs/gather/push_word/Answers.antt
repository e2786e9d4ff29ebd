use Rattle.std.proofs.Common.{◌≡◌, ℕ, ◌-◌, min, List, [], ◌∷◌, ◌++◌, get_or, take, sym, ap, ◌∙◌, rules}
use Rattle.std.proofs.lemmas.List.{take_all, take_more}
use Rattle.package.specs.Words.{byte_count}
use Rattle.package.proofs.Fields.{carried}
use Rattle.package.proofs.Gathers.{cap_none, cap_more, push_cap, on_err_ap}
use Rattle.package.proofs.gather.push_word.Goals as goal

pub loop-b-init : goal.loop-b-init
loop-b-init c = record { text = cap_none c.args.gathered.now.items c.requires; fits = c.requires }

pub loop-b-preserved : goal.loop-b-preserved
loop-b-preserved c =
    let items = take (c.min-n.result - 0) c.three_bytes-three.result in
    let p = push_cap c.try_push.result 16 (get_or items c.loop-b.b-index 0) c.loop-b.gathered.items c.try_push.new.self.items c.loop-b.invariant.fits c.try_push.ensures.ok (on_err_ap (λ v. v.items) c.try_push.result c.try_push.new.self c.loop-b.gathered c.try_push.ensures.err) c.try_push.ensures.full c.try_push.ensures.variant in
    record {
      text = cap_more 16 c.args.gathered.now.items c.loop-b.gathered.items c.try_push.new.self.items (take c.loop-b.b-index items) (get_or items c.loop-b.b-index 0 ∷ []) c.loop-b.invariant.text p.0
          ∙ ap (λ (t : List ℕ). take 16 (c.args.gathered.now.items ++ t)) (sym (take_more items c.loop-b.b-index 0 c.loop-b-test.true));
      fits = p.1;
    }

pub returns : goal.returns
returns c =
    let items = take (c.min-n.result - 0) c.three_bytes-three.result in
    let m : c.min-n.result ≡ min (byte_count c.args.word.0) 3 = search rules in
    record {
      text = c.loop-b.invariant.text ∙ ap (λ (t : List ℕ). take 16 (c.args.gathered.now.items ++ t)) (take_all c.loop-b.b-index items c.loop-b-test.false ∙ carried c.args.word.0 c.min-n.result c.three_bytes-three.result c.three_bytes-three.ensures m);
      fits = c.loop-b.invariant.fits;
    }
