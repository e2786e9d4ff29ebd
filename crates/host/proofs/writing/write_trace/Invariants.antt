use Rattle.std.proofs.Common.{length}
use Rattle.host.proofs.Lines.{Goes}
use Rattle.host.proofs.writing.write_trace.Given as goal

abbrev pub invariant-loop-line : goal.invariant-loop-line
invariant-loop-line l = Goes (length l.fn.out) l.page l.initial.page l.line-index l.lines
