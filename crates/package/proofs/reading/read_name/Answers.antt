use Rattle.std.proofs.Common.{sym, ap, ◌∙◌}
use Rattle.std.specs.List.{flat_map}
use Rattle.base.specs.declared.texts.TextKind.TheVariants.{Name as name}
use Rattle.base.specs.Named.{row_in}
use Rattle.package.specs.Words.{bytes}
use Rattle.package.proofs.Parting.{text_found, text_spelt}
use Rattle.package.proofs.reading.read_name.Goals as goal

pub unwrap-requires : goal.unwrap-requires
unwrap-requires c = text_found name c.spelled.result (flat_map bytes c.in_ok-text.text.now) c.in_ok-text.ensures.spelled c.spelled.ensures

pub returns : goal.returns
returns c =
    let p = c.in_ok-text.ensures in
    record {
      accepted = p.accepted;
      named = text_spelt name c.unwrap.result (flat_map bytes c.in_ok-text.text.now) p.spelled (ap row_in (sym c.unwrap.ensures) ∙ c.spelled.ensures) ∙ p.named;
    }
