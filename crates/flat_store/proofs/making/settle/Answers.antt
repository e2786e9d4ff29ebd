use Rattle.std.proofs.Common.{◌∙◌, rules}
use Rattle.store.specs.Files.{key_count}
use Rattle.flat_store.specs.Taking.{Marks}
use Rattle.flat_store.proofs.Images.{files_same}
use Rattle.flat_store.proofs.Marks.{taken_kept}
use Rattle.flat_store.proofs.making.settle.Goals as goal

pub returns-clause-sound : goal.returns-clause-sound
returns-clause-sound c =
    let old = c.look_through.new.slots in
    let marks : Marks c.args.dir.now old key_count = search rules in
    taken_kept c.args.dir.now c.list_free.new.slots old c.list_free.result c.told-dir c.list_free.auto.slots marks c.list_free.ensures.count c.list_free.ensures.free c.list_free.ensures.rising c.list_free.ensures.words

pub returns-clause-whole : goal.returns-clause-whole
returns-clause-whole c = λ h. files_same _ c.list_free.new.slots (λ p. c.list_free.ensures.words p ∙ c.look_through.ensures.words p) c.args.dir.now
