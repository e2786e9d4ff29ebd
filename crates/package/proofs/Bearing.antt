-- Words that do not bear a label's name and version.
use Rattle.std.proofs.Common.{◌≡◌, ℕ, Bool, false, List, Some, sym, ◌∙◌}
use Rattle.std.specs.Prelude.{Decides}
use Rattle.std.proofs.lemmas.Bool.{false≢true}
use Rattle.base.specs.declared.reasons.Refusal.{Refusal}
use Rattle.base.proofs.Rows.{told_text}
use Rattle.package.specs.declared.label.Label.{Label}
use Rattle.package.specs.declared.package.Package.{Package}
use Rattle.package.specs.Accepted.{package_refusal}
use Rattle.package.specs.Labels.{Bears}
use Rattle.package.specs.Readings.{Reading}
use Rattle.package.proofs.Tests.{some_none}

pub faulty : (words : List ℕ) (l : Label) (e : Refusal) → package_refusal words ≡ Some e → Bears words l → ⊥
faulty words l e h b = some_none e (sym h ∙ b.accepted)

-- a package of another name or version was not read from words that bear the label's
pub another : (words : List ℕ) (l : Label) (p : Package) (same : Bool) → Decides same ((p.name ≡ l.name) × (p.version ≡ l.version)) → same ≡ false → Reading words p → Bears words l → ⊥
another words l p same d z r b =
    false≢true (sym z ∙ d.1 (told_text p.name l.name (r.named ∙ sym b.named), told_text p.version l.version (r.versioned ∙ sym b.versioned)))
