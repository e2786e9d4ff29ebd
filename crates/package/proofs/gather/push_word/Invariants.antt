use Rattle.std.proofs.Common.{◌≡◌, ◌≤◌, ◌++◌, length, take}
use Rattle.package.proofs.gather.push_word.Given as goal

abbrev pub invariant-loop-b : goal.invariant-loop-b
invariant-loop-b l = record {
  text : l.gathered.items ≡ take 16 (l.initial.gathered.items ++ take l.b-index l.b-items);
  fits : length l.gathered.items ≤ 16;
}
