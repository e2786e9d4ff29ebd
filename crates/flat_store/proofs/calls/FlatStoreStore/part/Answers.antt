use Rattle.std.proofs.Common.{◌≡◌, ◌<◌, Some, rules, arith}
use Rattle.store.specs.Files.{key_count}
use Rattle.flat_store.specs.Images.{extent_at}
use Rattle.flat_store.proofs.Images.{part_first}
use Rattle.flat_store.proofs.calls.FlatStoreStore.part.Goals as goal

pub returns-in-Some : goal.returns-in-Some
returns-in-Some c =
    let m = c.args.self.now in
    let kl : c.args.key < key_count = search rules in
    let on : extent_at m.dir.now c.args.key ≡ Some c.in-Some.extent = search rules in
    part_first m.dir.now m.slots.now m.free m.sound c.args.key kl c.in-Some.extent on c.args.at (omega arith)
