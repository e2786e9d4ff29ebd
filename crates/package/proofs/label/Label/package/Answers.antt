use Rattle.package.proofs.Bearing.{faulty, another}
use Rattle.package.proofs.label.Label.package.Goals.{in_default-via-in-Ok+else-is_of, in_default-via-in_default}
use Rattle.package.proofs.label.Label.package.Goals as goal

pub returns-in_default : goal.returns-in_default
returns-in_default c = λ b.
    elim c.in_default.branch [
      | in_default-via-in-Ok+else-is_of w ↦ another _ _ _ w.is_of.result w.is_of.ensures w.if-is_of.false w.in-Ok.ensures b
      | in_default-via-in_default w ↦ faulty _ _ _ w.in_default.ensures b
    ]
