use Rattle.std.proofs.Common.{sym, refl, ◌∙◌}
use Rattle.flat_store.proofs.Images.{left_files, freed_kept, freed_files}
use Rattle.flat_store.proofs.calls.FlatStoreStore.clear.Goals as goal

pub returns-in_default-clause-files : goal.returns-in_default-clause-files
returns-in_default-clause-files c =
    let m = c.args.self.now in
    left_files m.dir.now m.slots.now c.args.key (sym c.extent.ensures ∙ c.in_default.is)

pub invariant_of-self-2 : goal.invariant_of-self-2
invariant_of-self-2 c =
    let m = c.args.self.now in
    record { sound = freed_kept m.dir.now m.slots.now m.free c.args.key c.in-Some.extent _ m.sound c.if-key-ge-KEYS.false (sym c.extent.ensures ∙ c.in-Some.is) refl refl }

pub returns-clause-files : goal.returns-clause-files
returns-clause-files c =
    let m = c.args.self.now in
    freed_files m.dir.now m.slots.now m.free c.args.key c.in-Some.extent _ m.sound c.if-key-ge-KEYS.false (sym c.extent.ensures ∙ c.in-Some.is) refl refl
