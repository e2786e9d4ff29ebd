use Rattle.steps.specs.Owners.{member}
use Rattle.books.proofs.Disowns.{Between}
use Rattle.books.proofs.disowning.disown_rows.Given as goal

abbrev pub invariant-loop-i : goal.invariant-loop-i
invariant-loop-i l = Between l.name l.kind (member l.except) l.initial.owners l.owners l.i
