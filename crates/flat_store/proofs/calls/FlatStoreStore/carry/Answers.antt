use Rattle.std.proofs.Common.{sym, ◌∙◌}
use Rattle.flat_store.specs.Stores.{files_in}
use Rattle.flat_store.proofs.Images.{renamed_kept, renamed_files}
use Rattle.flat_store.proofs.calls.FlatStoreStore.carry.Goals as goal

pub invariant_of-self : goal.invariant_of-self
invariant_of-self c =
    let n = c.clear.new.self in
    record { sound = renamed_kept n.dir.now n.slots.now n.free (files_in c.args.self.now) c.args.from c.args.to n.sound c.if-to-ge-KEYS.false c.if-from-to.false (sym c.held.ensures ∙ c.if-not-held.false) c.clear.ensures.files }

pub returns-clause-files : goal.returns-clause-files
returns-clause-files c =
    let n = c.clear.new.self in
    renamed_files n.dir.now n.slots.now n.free (files_in c.args.self.now) c.args.from c.args.to n.sound c.if-to-ge-KEYS.false c.if-from-to.false (sym c.held.ensures ∙ c.if-not-held.false) c.clear.ensures.files
