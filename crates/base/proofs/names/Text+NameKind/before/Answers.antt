use Rattle.std.proofs.Common.{◌∙◌}
use Rattle.base.specs.declared.texts.TextKind.TheVariants.{Name as name}
use Rattle.base.proofs.Rows.{before_rows}
use Rattle.base.proofs.names.Text+NameKind.before.Goals as goal

pub returns : goal.returns
returns c =
    c.before-2.ensures ∙ before_rows name c.args.self.now.row.bytes c.args.other.now.row.bytes c.args.self.now.allowed c.args.other.now.allowed
