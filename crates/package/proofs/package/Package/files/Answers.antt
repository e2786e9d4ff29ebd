use Rattle.std.proofs.Common.{not, is_some, ap}
use Rattle.package.proofs.Few.{files_few}
use Rattle.package.proofs.Placed.{files_sound}
use Rattle.package.proofs.package.Package.files.Goals as goal

pub invariant_of-result : goal.invariant_of-result
invariant_of-result c =
    let p = c.args.self.now in
    record { sound = ap (λ o. not (is_some o)) (files_sound p.words.now p.first_file p.accepted p.placed) }

pub returns-clause-few : goal.returns-clause-few
returns-clause-few c =
    let p = c.args.self.now in
    files_few p.words.now p.first_file p.accepted p.placed
