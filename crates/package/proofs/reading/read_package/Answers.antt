use Rattle.std.proofs.Common.{not, is_some, sym, ap, ◌∙◌}
use Rattle.std.specs.List.{flat_map}
use Rattle.base.specs.declared.texts.TextKind.TheVariants.{Name as name, Version as version}
use Rattle.base.specs.Named.{row_in}
use Rattle.package.specs.Words.{bytes}
use Rattle.package.proofs.Parting.{text_found, text_spelt}
use Rattle.package.proofs.Placed.{reading_of}
use Rattle.package.proofs.reading.read_package.Goals as goal

pub unwrap-name-requires : goal.unwrap-name-requires
unwrap-name-requires c = text_found name c.spelled.result (flat_map bytes c.in_ok-parts.parts.name.now) c.in_ok-parts.ensures.spelled c.spelled.ensures

pub unwrap-version-requires : goal.unwrap-version-requires
unwrap-version-requires c = text_found version c.spelled-2.result (flat_map bytes c.in_ok-parts.parts.version.now) c.in_ok-parts.ensures.numbered c.spelled-2.ensures

pub invariant_of-result : goal.invariant_of-result
invariant_of-result c =
    let p = c.in_ok-parts.ensures in
    record {
      accepted = ap (λ o. not (is_some o)) p.accepted;
      named = text_spelt name c.unwrap-name.result (flat_map bytes c.in_ok-parts.parts.name.now) p.spelled (ap row_in (sym c.unwrap-name.ensures) ∙ c.spelled.ensures) ∙ p.named;
      versioned = text_spelt version c.unwrap-version.result (flat_map bytes c.in_ok-parts.parts.version.now) p.numbered (ap row_in (sym c.unwrap-version.ensures) ∙ c.spelled-2.ensures) ∙ p.versioned;
      placed = p.placed;
    }

pub returns : goal.returns
returns c = reading_of _
