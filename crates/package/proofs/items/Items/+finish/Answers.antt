use Rattle.std.proofs.Common.{ℕ, List, length, drop, ap, ◌∙◌, arith}
use Rattle.std.proofs.lemmas.Result.{err_from_is_err_and}
use Rattle.package.specs.Items.{due_at}
use Rattle.package.specs.Checks.{refusal}
use Rattle.package.proofs.ItemRuns.{got_on, got_run, lost_run}
use Rattle.package.proofs.items.Items.+finish.Goals as goal

pub returns-in_err-step : goal.returns-in_err-step
returns-in_err-step t c =
    let p = err_from_is_err_and c.from_residual.result c.from_residual.ensures.1 in
    rw (p.1, p.2)
    (lost_run c.args.self.now.stage c.args.self.now.place (drop c.args.self.now.place c.args.self.now.words.now) c.in_err-step.field-0.0 c.in_default.not-Done c.in_err-step.ensures.item)

pub finish-requires : goal.finish-requires
finish-requires t c =
    let on = got_on c.args.self.now.stage c.args.self.now.place c.args.self.now.words.now _ c.in_ok-step.ensures.item in
    let w = ap length c.in_ok-step.ensures.same in
    let m = c.decreases in
    (omega arith, tt)

pub returns : goal.returns
returns t c =
    let s = c.in_ok-step.step.rest in
    c.finish.ensures
    ∙ ap (λ (ws : List ℕ). refusal (due_at s.stage) s.place (drop s.place ws)) c.in_ok-step.ensures.same
    ∙ got_run c.args.self.now.stage c.args.self.now.place c.args.self.now.words.now _ c.in_ok-step.ensures.item
