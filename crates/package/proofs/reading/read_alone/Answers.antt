use Rattle.std.proofs.Common.{ℕ, List, drop, Some, ap, ◌∙◌}
use Rattle.std.proofs.lemmas.Result.{err_from_is_err_and}
use Rattle.package.specs.declared.items.Stage.TheVariants.{NameAlone}
use Rattle.package.specs.Checks.{refusal}
use Rattle.package.specs.Items.{due_at}
use Rattle.package.proofs.Parting.{at_start, lost_name, lost_behind, lone_read}
use Rattle.package.proofs.reading.read_alone.Goals as goal

pub returns-in_err-named : goal.returns-in_err-named
returns-in_err-named c =
    let p = err_from_is_err_and c.from_residual.result c.from_residual.ensures.1 in
    let o = c.of_name.ensures in
    rw (p.1, p.2)
    (lost_name c.args.words.now c.in_err-named.field-0.0 (c.in_err-named.ensures.item ∙ at_start NameAlone _ _ _ c.args.words.now o.0 o.1 o.2))

pub returns-in_err-finish : goal.returns-in_err-finish
returns-in_err-finish c =
    let p = err_from_is_err_and c.from_residual-in_err-finish.result c.from_residual-in_err-finish.ensures.1 in
    let o = c.of_name.ensures in
    let s = c.in_ok-named.named.rest in
    rw (p.1, p.2)
    (lost_behind c.args.words.now _ (Some c.in_err-finish.field-0.0)
    (c.in_ok-named.ensures.item ∙ at_start NameAlone _ _ _ c.args.words.now o.0 o.1 o.2)
    (c.in_err-finish.ensures ∙ ap (λ (ws : List ℕ). refusal (due_at s.stage) s.place (drop s.place ws)) (c.in_ok-named.ensures.same ∙ o.0)))

pub returns : goal.returns
returns c =
    let o = c.of_name.ensures in
    let s = c.in_ok-named.named.rest in
    let r = lone_read c.args.words.now _
    (c.in_ok-named.ensures.item ∙ at_start NameAlone _ _ _ c.args.words.now o.0 o.1 o.2)
    (c.in_ok-finish.ensures ∙ ap (λ (ws : List ℕ). refusal (due_at s.stage) s.place (drop s.place ws)) (c.in_ok-named.ensures.same ∙ o.0)) in
    rw c.text_words.ensures r
