use Rattle.table.proofs.Meets.{meets_same, same_meets}
use Rattle.table.specs.Orders.{numbers_total, names_total}
use Rattle.table.proofs.laws.one_key.Goals as goal

pub returns : goal.returns
returns c = (
  λ a b. (meets_same numbers_total a b, same_meets numbers_total a b),
  λ a b. (meets_same names_total a b, same_meets names_total a b),
)
