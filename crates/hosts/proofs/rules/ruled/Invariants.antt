use Rattle.std.proofs.Common.{◌≡◌, drop}
use Rattle.hosts.specs.Meanings.{ruled}
use Rattle.hosts.proofs.rules.ruled.Given as goal

abbrev pub invariant-loop-rule : goal.invariant-loop-rule
invariant-loop-rule l = ruled (drop l.rule-index l.rules) l.call ≡ ruled l.rules l.call
