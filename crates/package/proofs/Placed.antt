-- Words without a fault: where their files begin, and what stands there.
use Rattle.std.proofs.Common.{◌≡◌, ℕ, ◌+◌, true, not, List, [], ◌∷◌, drop, is_some, Some, None, Ok, Option, sym, refl, ap, ◌∙◌}
use Rattle.std.proofs.lemmas.Bool.{false≢true}
use Rattle.base.specs.declared.reasons.Refusal.{Refusal}
use Rattle.package.specs.declared.items.Stage.{Stage}
use Rattle.package.specs.declared.items.Stage.TheVariants.{Package, Version}
use Rattle.package.specs.declared.package.Package.{Package as Contained}
use Rattle.package.specs.Accepted.{package_refusal, accepts, files_place}
use Rattle.package.specs.Checks.{item, refusal}
use Rattle.package.specs.Items.{Handed, due_at, handed, item_at, judged, words_for}
use Rattle.package.specs.Packages.{files_in}
use Rattle.package.specs.Checks.{package_head}
use Rattle.package.specs.Readings.{Parted, Reading}
use Rattle.package.specs.Words.{name_length, version_length}
use Rattle.package.proofs.Tests.{some_none}
use Rattle.package.proofs.TextSound.{or_run}
use Rattle.package.proofs.ItemRuns.{item_run, got_run}
use Rattle.package.proofs.Parting.{parts_read}

pub none_from : {X : Type 0} (o : Option X) → not (is_some o) ≡ true → o ≡ None
none_from None h = refl
none_from (Some x) h = absurd (false≢true h)

or_run_left : (a b : Option Refusal) → or_run a b ≡ None → a ≡ None
or_run_left None b h = refl
or_run_left (Some r) b h = some_none r h

pub or_run_right : (a b : Option Refusal) → or_run a b ≡ None → b ≡ None
or_run_right None b h = h
or_run_right (Some r) b h = some_none r h

-- a first word without a fault begins an item
item_there : (stage : Stage) (place w : ℕ) (ws : List ℕ) → refusal (due_at stage) place (w ∷ ws) ≡ None → Ok (handed stage place w ws) ≡ item_at stage place (w ∷ ws)
item_there stage place w ws h =
    sym (ap (λ (o : Option Refusal). judged o (handed stage place w ws)) (or_run_left _ _ (sym (item_run stage place w ws) ∙ h)))

record Placed (words : List ℕ) : Type 0 where
  pub name : List ℕ
  pub version : List ℕ
  pub parted : Parted words name version (files_place words)

placed : (words : List ℕ) → package_refusal words ≡ None → Placed words
placed [] h = some_none _ h
placed (w ∷ ws) h = second (drop p (w ∷ ws)) refl (got_run Package 0 (w ∷ ws) first e ∙ h)
  where
    p : ℕ
    p = 0 + 1 + words_for (name_length w)

    v : ℕ
    v = version_length w

    first : Handed
    first = handed Package 0 w ws

    e : Ok first ≡ item_at Package 0 (w ∷ ws)
    e = item_there Package 0 w ws h

    second : (xs : List ℕ) → drop p (w ∷ ws) ≡ xs → refusal (due_at (Version v)) p xs ≡ None → Placed (w ∷ ws)
    second [] d k = some_none _ k
    second (x ∷ xs) d k =
        let f : Ok (handed (Version v) p x xs) ≡ item_at (Version v) p (drop p (w ∷ ws)) = item_there (Version v) p x xs k ∙ ap (item_at (Version v) p) (sym d) in
        let g = got_run (Version v) p (w ∷ ws) (handed (Version v) p x xs) f ∙ ap (refusal (due_at (Version v)) p) d ∙ k in
        record { name = _; version = _; parted = parts_read (w ∷ ws) first (handed (Version v) p x xs) e f (sym g) }

module _ (words : List ℕ) (first : ℕ) (accepted : accepts words ≡ true) (at : first ≡ files_place words) where
  parts : Placed words
  parts = placed words (none_from _ accepted)

  pub files_sound : refusal (item 0 0) first (drop first words) ≡ None
  files_sound = rw at parts.parted.sound

  pub files_filed : files_in (item 0 0) (drop first words) ≡ files_in package_head words
  files_filed = rw at parts.parted.filed

-- a package holds what was read
pub reading_of : (p : Contained) → Reading p.words.now p
reading_of p = record {
  own = refl;
  accepted = none_from _ p.accepted;
  named = p.named;
  versioned = p.versioned;
  filed = files_filed p.words.now p.first_file p.accepted p.placed;
  sound = files_sound p.words.now p.first_file p.accepted p.placed;
}
