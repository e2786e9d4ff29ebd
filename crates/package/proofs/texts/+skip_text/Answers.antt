use Rattle.std.proofs.Common.{◌≤◌, length, Some, sym, ap, ◌∙◌, arith}
use Rattle.std.proofs.lemmas.Bool.{ltb-false}
use Rattle.package.specs.Checks.{text_fault}
use Rattle.package.proofs.TextRuns.{text_ends, text_bad, text_last, text_on, behind_on}
use Rattle.package.proofs.texts.+skip_text.Goals as goal

pub returns-in_default : goal.returns-in_default
returns-in_default t c =
    let h : length c.args.words.now ≤ c.args.place = ltb-false _ _ (sym c.in_default.ensures.lookup.0) in
    record {
      fault = ap (λ r. Some r) c.in_words.ensures ∙ text_ends c.args.rule c.args.left c.args.begun c.args.place c.args.words.now h;
      behind = tt;
    }

pub returns-in-Some-text_fault : goal.returns-in-Some-text_fault
returns-in-Some-text_fault t c =
    let h = c.in-Some.ensures.lookup.3 in
    record {
      fault = ap (λ r. Some r) c.in_words-in-Some-text_fault.ensures ∙ text_bad c.args.rule c.args.left c.args.begun c.args.place c.args.words.now c.in-Some-text_fault.reason h.0 (c.in-Some-text_fault.ensures ∙ ap (text_fault c.args.rule c.args.left c.args.begun) (h.1 0));
      behind = tt;
    }

pub returns-then-left-le3 : goal.returns-then-left-le3
returns-then-left-le3 t c =
    let h = c.in-Some.ensures.lookup.3 in
    let l = h.0 in
    record {
      fault = text_last c.args.rule c.args.left c.args.begun c.args.place c.args.words.now h.0 (c.in_default-text_fault.ensures ∙ ap (text_fault c.args.rule c.args.left c.args.begun) (h.1 0)) c.if-left-le3.true;
      behind = (omega arith, omega arith);
    }

pub returns : goal.returns
returns t c =
    let h = c.in-Some.ensures.lookup.3 in
    record {
      fault = c.skip_text.ensures.fault ∙ text_on c.args.rule c.args.left c.args.begun c.args.place c.args.words.now h.0 (c.in_default-text_fault.ensures ∙ ap (text_fault c.args.rule c.args.left c.args.begun) (h.1 0)) c.if-left-le3.false;
      behind = behind_on c.args.place c.args.left (length c.args.words.now) c.skip_text.result c.if-left-le3.false c.skip_text.ensures.behind;
    }
