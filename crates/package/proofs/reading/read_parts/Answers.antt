use Rattle.std.proofs.Common.{ℕ, List, drop, Some, ap, ◌∙◌}
use Rattle.std.proofs.lemmas.Result.{err_from_is_err_and}
use Rattle.package.specs.declared.items.Stage.TheVariants.{Package}
use Rattle.package.specs.Checks.{refusal}
use Rattle.package.specs.Items.{due_at, item_at}
use Rattle.package.proofs.Parting.{at_start, lost_first, lost_second, lost_rest, parts_read}
use Rattle.package.proofs.reading.read_parts.Goals as goal

pub returns-in_err-named : goal.returns-in_err-named
returns-in_err-named c =
    let p = err_from_is_err_and c.from_residual.result c.from_residual.ensures.1 in
    let o = c.of_package.ensures in
    rw (p.1, p.2)
    (lost_first c.args.words.now c.in_err-named.field-0.0 (c.in_err-named.ensures.item ∙ at_start Package _ _ _ c.args.words.now o.0 o.1 o.2))

pub returns-in_err-versioned : goal.returns-in_err-versioned
returns-in_err-versioned c =
    let p = err_from_is_err_and c.from_residual-in_err-versioned.result c.from_residual-in_err-versioned.ensures.1 in
    let o = c.of_package.ensures in
    let s = c.in_ok-named.named.rest in
    rw (p.1, p.2)
    (lost_second c.args.words.now _ c.in_err-versioned.field-0.0
    (c.in_ok-named.ensures.item ∙ at_start Package _ _ _ c.args.words.now o.0 o.1 o.2)
    (c.in_err-versioned.ensures.item ∙ ap (λ (ws : List ℕ). item_at s.stage s.place (drop s.place ws)) (c.in_ok-named.ensures.same ∙ o.0)))

pub returns-in_err-finish : goal.returns-in_err-finish
returns-in_err-finish c =
    let p = err_from_is_err_and c.from_residual-in_err-finish.result c.from_residual-in_err-finish.ensures.1 in
    let o = c.of_package.ensures in
    let s = c.in_ok-named.named.rest in
    let v = c.in_ok-versioned.versioned.rest in
    rw (p.1, p.2)
    (lost_rest c.args.words.now _ _ (Some c.in_err-finish.field-0.0)
    (c.in_ok-named.ensures.item ∙ at_start Package _ _ _ c.args.words.now o.0 o.1 o.2)
    (c.in_ok-versioned.ensures.item ∙ ap (λ (ws : List ℕ). item_at s.stage s.place (drop s.place ws)) (c.in_ok-named.ensures.same ∙ o.0))
    (c.in_err-finish.ensures ∙ ap (λ (ws : List ℕ). refusal (due_at v.stage) v.place (drop v.place ws)) (c.in_ok-versioned.ensures.same ∙ c.in_ok-named.ensures.same ∙ o.0)))

pub returns : goal.returns
returns c =
    let o = c.of_package.ensures in
    let s = c.in_ok-named.named.rest in
    let v = c.in_ok-versioned.versioned.rest in
    let r = parts_read c.args.words.now _ _
    (c.in_ok-named.ensures.item ∙ at_start Package _ _ _ c.args.words.now o.0 o.1 o.2)
    (c.in_ok-versioned.ensures.item ∙ ap (λ (ws : List ℕ). item_at s.stage s.place (drop s.place ws)) (c.in_ok-named.ensures.same ∙ o.0))
    (c.in_ok-finish.ensures ∙ ap (λ (ws : List ℕ). refusal (due_at v.stage) v.place (drop v.place ws)) (c.in_ok-versioned.ensures.same ∙ c.in_ok-named.ensures.same ∙ o.0)) in
    rw (c.text_words-name.ensures, c.text_words-version.ensures) r
