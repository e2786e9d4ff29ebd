use Rattle.flat_store.proofs.Images.{files_same}
use Rattle.flat_store.proofs.flat.FlatStore.damage.Goals as goal

pub returns-clause-files : goal.returns-clause-files
returns-clause-files c = files_same c.args.slots.now c.look_through.new.slots c.look_through.ensures.words c.args.dir.now
