use Rattle.package.proofs.Handing.{hands_no_fault, file_turn}
use Rattle.package.proofs.packages.FilesIterator.next.Goals as goal

pub returns-in_default-clause-steps : goal.returns-in_default-clause-steps
returns-in_default-clause-steps c = absurd (hands_no_fault c.args.self.now.items c.args.self.now.sound c.in_default.field-0 c.in_default.ensures.item)

pub invariant_of-self : goal.invariant_of-self
invariant_of-self c =
    let t = file_turn c.args.self.now.items c.in-Ok.step.rest c.in-Ok.step.item c.in-Ok.step.place c.in-File.file c.args.self.now.sound c.in-File.is c.in-Ok.ensures.item c.in-Ok.ensures.same in
    record { sound = t.behind }

pub returns-clause-steps : goal.returns-clause-steps
returns-clause-steps c =
    (file_turn c.args.self.now.items c.in-Ok.step.rest c.in-Ok.step.item c.in-Ok.step.place c.in-File.file c.args.self.now.sound c.in-File.is c.in-Ok.ensures.item c.in-Ok.ensures.same).first

pub returns-clause-goes : goal.returns-clause-goes
returns-clause-goes c =
    let t = file_turn c.args.self.now.items c.in-Ok.step.rest c.in-Ok.step.item c.in-Ok.step.place c.in-File.file c.args.self.now.sound c.in-File.is c.in-Ok.ensures.item c.in-Ok.ensures.same in
    record { on = λ _. (tt, tt, t.fewer); keeps = tt; rests = λ _. tt }
