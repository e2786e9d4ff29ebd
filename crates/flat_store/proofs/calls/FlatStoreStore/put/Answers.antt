use Rattle.std.proofs.Common.{refl}
use Rattle.flat_store.specs.Images.{extent_at}
use Rattle.flat_store.proofs.Images.{take_same, none_chosen, laid_kept, laid_files, chosen_admits, full_admits}
use Rattle.flat_store.proofs.calls.FlatStoreStore.put.Goals as goal

pub returns-in_default-clause-answer : goal.returns-in_default-clause-answer
returns-in_default-clause-answer c =
    let m = c.args.self.now in
    full_admits m.dir.now m.slots.now m.free m.sound c.args.key c.args.words.now c.if-key-ge-KEYS.false c.if-words-gt-LONGEST.false (none_chosen m.slots.now m.free (extent_at m.dir.now c.args.key) c.in_default.ensures.is)

pub invariant_of-self : goal.invariant_of-self
invariant_of-self c =
    let m = c.args.self.now in
    let ws = c.args.words.now in
    record { sound = laid_kept m.dir.now m.slots.now m.free c.args.key c.in-Some.slot c.in-Some.free m.sound c.if-key-ge-KEYS.false c.in-Some.ensures.is _ ws refl (take_same _ _ ws c.copy_from_slice.ensures.after) c.if-words-gt-LONGEST.false }

pub returns-clause-answer : goal.returns-clause-answer
returns-clause-answer c =
    let m = c.args.self.now in
    chosen_admits m.dir.now m.slots.now m.free c.args.key c.in-Some.slot c.in-Some.free m.sound c.if-key-ge-KEYS.false c.in-Some.ensures.is c.args.words.now c.if-words-gt-LONGEST.false

pub returns-clause-files : goal.returns-clause-files
returns-clause-files c =
    let m = c.args.self.now in
    let ws = c.args.words.now in
    laid_files m.dir.now m.slots.now m.free c.args.key c.in-Some.slot c.in-Some.free m.sound c.if-key-ge-KEYS.false c.in-Some.ensures.is _ ws refl (take_same _ _ ws c.copy_from_slice.ensures.after) c.if-words-gt-LONGEST.false
