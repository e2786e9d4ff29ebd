use Rattle.std.proofs.Common.{◌≡◌, ◌≤◌, length, take}
use Rattle.std.specs.List.{flat_map}
use Rattle.package.specs.Words.{bytes}
use Rattle.package.proofs.gather.gather.Given as goal

abbrev pub invariant-loop-w : goal.invariant-loop-w
invariant-loop-w l = record {
  text : l.gathered.items ≡ take 16 (flat_map bytes (take l.w-index l.text));
  fits : length l.gathered.items ≤ 16;
}
