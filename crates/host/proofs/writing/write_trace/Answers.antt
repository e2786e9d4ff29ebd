use Rattle.std.proofs.Common.{Some, None, sym, rules}
use Rattle.base.specs.declared.reasons.Reason.TheVariants.{WrongValue, BufferShort}
use Rattle.host.proofs.Lines.{ends, goes_bad, goes_short, goes_out}
use Rattle.host.proofs.writing.write_trace.Goals as goal

pub returns-then-not-is_sound : goal.returns-then-not-is_sound
returns-then-not-is_sound c =
    ends c.args.lines.now _ c.loop-line.page.count c.loop-line.page.items.now _ (Some WrongValue) _ (search rules) (search rules) c.loop-line.page.fits
    (goes_bad _ c.loop-line.page _ c.loop-line.line-index c.args.lines.now _ (search rules) (sym c.if-not-is_sound.ensures) c.loop-line.invariant)

pub returns-in_err-map_err : goal.returns-in_err-map_err
returns-in_err-map_err c =
    ends c.args.lines.now _ c.loop-line.page.count c.put_line.new.page.items.now _ (Some BufferShort) _ (search rules) (search rules) (search rules)
    (goes_short _ c.loop-line.page c.put_line.new.page _ c.loop-line.line-index c.args.lines.now _ (search rules) (sym c.if-not-is_sound.ensures) c.loop-line.invariant (search rules))

pub returns : goal.returns
returns c =
    ends c.args.lines.now _ c.loop-line.page.count c.loop-line.page.items.now _ None _ (search rules) (search rules) c.loop-line.page.fits
    (goes_out _ c.loop-line.page _ c.loop-line.line-index c.args.lines.now (search rules) c.loop-line.invariant)
