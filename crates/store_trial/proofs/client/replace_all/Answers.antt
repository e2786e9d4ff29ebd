use Rattle.std.proofs.Common.{◌∙◌}
use Rattle.std.proofs.lemmas.Bool.{true≢false, false≢true}
use Rattle.store.specs.Sides.{sides_at}
use Rattle.store_trial.proofs.Rounds.{all_replaced, all_found}
use Rattle.store_trial.proofs.client.replace_all.Goals as goal

pub returns-then-put_all-paths : goal.returns-then-put_all-paths
returns-then-put_all-paths g c = record {
  done = λ t d. all_replaced c.args.words.now c.args.paths.now (sides_at (g.S.Store.files c.args.store.now)) d c.put_all.result _ _ c.if-put_all-paths.true c.pass_all.ensures.sides c.put_all.ensures.sides;
  found = λ t. absurd (true≢false t);
  units = c.put_all.ensures.units ∙ c.pass_all.ensures.units;
}

pub returns : goal.returns
returns g c = record {
  done = λ t. absurd (false≢true t);
  found = λ t d. all_found c.args.words.now c.args.paths.now (sides_at (g.S.Store.files c.args.store.now)) d c.put_all.result _ _ _ c.pass_all.ensures.sides c.put_all.ensures.sides c.pass_all-2.ensures.sides;
  units = c.pass_all-2.ensures.units ∙ c.put_all.ensures.units ∙ c.pass_all.ensures.units;
}
