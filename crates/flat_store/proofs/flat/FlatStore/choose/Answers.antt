use Rattle.std.proofs.Common.{◌<◌, rules}
use Rattle.flat_store.proofs.Images.{free_slot}
use Rattle.flat_store.proofs.flat.FlatStore.choose.Goals as goal

pub returns-clause-inside : goal.returns-clause-inside
returns-clause-inside c =
    let m = c.args.self.now in
    let l : c.in_ok-left.left < m.free = search rules in
    free_slot m.dir.now m.slots.now m.free c.in_ok-left.left m.sound l
