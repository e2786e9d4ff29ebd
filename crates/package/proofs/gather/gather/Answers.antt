use Rattle.std.proofs.Common.{◌<◌, ◌≤◌, [], length, get_or, take, sym, ap, ◌∙◌, rules}
use Rattle.std.specs.List.{flat_map}
use Rattle.std.proofs.lemmas.List.{take_all}
use Rattle.package.specs.Words.{bytes}
use Rattle.package.proofs.Gathers.{cap_more, joined_take}
use Rattle.package.proofs.gather.gather.Goals as goal

pub loop-w-preserved : goal.loop-w-preserved
loop-w-preserved c =
    let h : c.loop-w.w-index < length c.args.text.now = search rules in
    record {
      text = cap_more 16 [] c.loop-w.gathered.items c.push_word.new.gathered.items (flat_map bytes (take c.loop-w.w-index c.args.text.now)) (bytes (get_or c.args.text.now c.loop-w.w-index 0)) c.loop-w.invariant.text c.push_word.ensures.text
          ∙ ap (take 16) (sym (joined_take bytes c.args.text.now c.loop-w.w-index 0 h));
      fits = c.push_word.ensures.fits;
    }

pub returns : goal.returns
returns c =
    let h : length c.args.text.now ≤ c.loop-w.w-index = search rules in
    c.loop-w.invariant.text ∙ ap (λ t. take 16 (flat_map bytes t)) (take_all c.loop-w.w-index c.args.text.now h)
