-- Words without a fault are the encoding of the package, or of the name, that stands in them.
use Rattle.std.proofs.Common.{◌≡◌, ℕ, ◌+◌, ◌-◌, Bool, true, false, cond, ◌&&◌, eqb, leb, List, [], ◌∷◌, ◌++◌, length, Some, None, Ok, Err, Result, Decides, sym, refl, ap, ◌∙◌, subst, ap₂, append-nil, le_refl, arith}
use Rattle.std.specs.Prelude.{is_ok, MatchResult}
use Rattle.std.proofs.lemmas.Bool.{and_from, and_parts, eqb-true, both_ways}
use Rattle.base.specs.declared.reasons.Reason.TheVariants.{EndsEarly, WrongWord, OutsideLimits}
use Rattle.base.specs.declared.reasons.Refusal.{Refusal}
use Rattle.base.specs.declared.texts.TextKind.{TextKind}
use Rattle.base.specs.declared.texts.TextKind.TheVariants.{Name, Version}
use Rattle.base.specs.Refusals.{word_refusal}
use Rattle.base.specs.Texts.{allowed, fitting, spelled}
use Rattle.package.specs.declared.rules.TextRule.{TextRule}
use Rattle.package.specs.declared.rules.TextRule.TheVariants.{Spelled}
use Rattle.package.specs.Words.{bytes, is_head, name_length, version_length}
use Rattle.package.specs.Checks.{Due, package_head, name_head, text, item, nothing}
use Rattle.package.specs.Packages.{Carried, Contents, Within, text_words, head_word, encoded, name_encoded, text_in, behind_text, files_in, name_in, version_in, package_in}
use Rattle.package.specs.Accepted.{package_refusal, name_refusal}
use Rattle.package.proofs.Tests.{some_none, must_none, refusal_none}
use Rattle.encoding.specs.Laws.{PackageWords, NameWords}
use Rattle.encoding.proofs.Made.{head_made}
use Rattle.encoding.proofs.Accepted.{fitting_bounds}
use Rattle.encoding.proofs.Decodes.{Decoded, Filed, text_decodes, files_decode, nothing_left}
use Rattle.encoding.proofs.Whole.{laid, encoded_laid, encoded_accepted, name_accepted}

-- a text is the same whatever is due behind it
text_free : (ws : List ℕ) (rule : TextRule) (left : ℕ) (begun : Bool) (a b : Due) → text_in (text rule left begun a) ws ≡ text_in (text rule left begun b) ws
text_free [] rule left begun a b = refl
text_free (w ∷ ws) rule left begun a b = ap (λ (t : List ℕ). bytes w ++ cond (leb left 3) [] t) (text_free ws rule (left - 3) true a b)

behind_free : (ws : List ℕ) (rule : TextRule) (left : ℕ) (begun : Bool) (a b : Due) → behind_text (text rule left begun a) ws ≡ behind_text (text rule left begun b) ws
behind_free [] rule left begun a b = refl
behind_free (w ∷ ws) rule left begun a b = ap (λ (t : List ℕ). cond (leb left 3) ws t) (behind_free ws rule (left - 3) true a b)

sized_allowed : (kind : TextKind) (n : ℕ) (bs : List ℕ) → fitting kind n ≡ true → length bs ≡ n → spelled kind bs ≡ true → allowed kind bs ≡ true
sized_allowed kind n bs f e s = and_from (fitting kind (length bs)) (spelled kind bs) (ap (fitting kind) e ∙ f) s

-- from the parts: name and version words, and the files behind them
exact : (w : ℕ) (ws bn rn bv rv : List ℕ) (fs fn fv : List Carried) → is_head w ≡ true → fitting Name (name_length w) ≡ true → fitting Version (version_length w) ≡ true
    → Decoded (Spelled Name) (name_length w) false (text (Spelled Version) (version_length w) false (item 0 0)) (0 + 1) ws bn rn fn
    → Decoded (Spelled Version) (version_length w) false (item 0 0) (0 + 1 + length (text_words bn)) rn bv rv fv
    → Filed 0 0 (0 + 1 + length (text_words bn) + length (text_words bv)) rv fs
    → Within (record { name = bn; version = bv; files = fs }) × (encoded (record { name = bn; version = bv; files = fs }) ≡ w ∷ ws)
exact w ws bn rn bv rv fs fn fv h a b d e f = (
  record {
    named = sized_allowed Name (name_length w) bn a d.sized d.right;
    versioned = sized_allowed Version (version_length w) bv b e.sized e.right;
    few = let q = f.few in omega arith;
    rising = f.rising;
    fitting = f.fits;
  },
  encoded_laid bn bv fs
      ∙ ap₂ (λ (x y : ℕ). head_word x y ∷ laid bn bv fs) d.sized e.sized
      ∙ ap₂ (λ (x : ℕ) (t : List ℕ). x ∷ (text_words bn ++ (text_words bv ++ t))) (head_made w h) f.words
      ∙ ap (λ (t : List ℕ). w ∷ (text_words bn ++ t)) e.words
      ∙ ap (λ (t : List ℕ). w ∷ t) d.words,
)

same_contents : (n n' v v' : List ℕ) (fs fs' : List Carried) → n ≡ n' → v ≡ v' → fs ≡ fs' → ◌≡◌ {A = Contents} (record { name = n; version = v; files = fs }) (record { name = n'; version = v'; files = fs' })
same_contents n n' v v' fs fs' en ev ef = λ i. record { name = en i; version = ev i; files = ef i }

pub accepted_encoded : (words : List ℕ) → package_refusal words ≡ None → Within (package_in words) × (encoded (package_in words) ≡ words)
accepted_encoded [] h = some_none (word_refusal EndsEarly 0) h
accepted_encoded (w ∷ ws) h =
    let p = refusal_none package_head 0 w ws h in
    let m = must_none (is_head w) WrongWord _ p.0 in
    let l = and_parts (fitting Name (name_length w)) (fitting Version (version_length w)) (must_none (fitting Name (name_length w) && fitting Version (version_length w)) OutsideLimits None m.1).0 in
    go m.0 l.0 l.1 (text_decodes ws (Spelled Name) (name_length w) false (text (Spelled Version) (version_length w) false (item 0 0)) (0 + 1) (fitting_bounds Name (name_length w) l.0).0 p.1)
  where
    go : is_head w ≡ true → fitting Name (name_length w) ≡ true → fitting Version (version_length w) ≡ true
        → Decoded (Spelled Name) (name_length w) false (text (Spelled Version) (version_length w) false (item 0 0)) (0 + 1) ws (text_in (text (Spelled Name) (name_length w) false (text (Spelled Version) (version_length w) false (item 0 0))) ws) (behind_text (text (Spelled Name) (name_length w) false (text (Spelled Version) (version_length w) false (item 0 0))) ws) (files_in package_head (w ∷ ws))
        → Within (package_in (w ∷ ws)) × (encoded (package_in (w ∷ ws)) ≡ w ∷ ws)
    go i a b d =
        let dn = text (Spelled Name) (name_length w) false (text (Spelled Version) (version_length w) false (item 0 0)) in
        let dv = text (Spelled Version) (version_length w) false (item 0 0) in
        let bn = text_in dn ws in
        let rn = behind_text dn ws in
        let e = text_decodes rn (Spelled Version) (version_length w) false (item 0 0) (0 + 1 + length (text_words bn)) (fitting_bounds Version (version_length w) b).0 d.run in
        let bv = text_in dv rn in
        let rv = behind_text dv rn in
        let f = files_decode (length rv) rv 0 0 (0 + 1 + length (text_words bn) + length (text_words bv)) (le_refl (length rv)) (omega arith) e.run in
        subst (λ (c : Contents). Within c × (encoded c ≡ w ∷ ws))
        (same_contents bn (text_in (text (Spelled Name) (name_length w) false nothing) ws) bv (version_in (w ∷ ws)) (files_in (item 0 0) rv) (files_in package_head (w ∷ ws))
        (text_free ws (Spelled Name) (name_length w) false (text (Spelled Version) (version_length w) false (item 0 0)) nothing)
        (text_free rn (Spelled Version) (version_length w) false (item 0 0) nothing ∙ ap (text_in (text (Spelled Version) (version_length w) false nothing)) (behind_free ws (Spelled Name) (name_length w) false (text (Spelled Version) (version_length w) false (item 0 0)) nothing))
        (sym (d.same ∙ e.same)))
        (exact w ws bn rn bv rv (files_in (item 0 0) rv) (files_in package_head (w ∷ ws)) (files_in dv rn) i a b d e f)

-- the same of a name alone
pub name_exact : (words : List ℕ) → name_refusal words ≡ None → (allowed Name (name_in words) ≡ true) × (name_encoded (name_in words) ≡ words)
name_exact [] h = some_none (word_refusal EndsEarly 0) h
name_exact (w ∷ ws) h =
    let p = refusal_none name_head 0 w ws h in
    let m = must_none (is_head w) WrongWord _ p.0 in
    let l = and_parts (fitting Name (name_length w)) (eqb (version_length w) 0) (must_none (fitting Name (name_length w) && eqb (version_length w) 0) OutsideLimits None m.1).0 in
    go m.0 l.0 (eqb-true (version_length w) 0 l.1) (text_decodes ws (Spelled Name) (name_length w) false nothing (0 + 1) (fitting_bounds Name (name_length w) l.0).0 p.1)
  where
    go : is_head w ≡ true → fitting Name (name_length w) ≡ true → version_length w ≡ 0
        → Decoded (Spelled Name) (name_length w) false nothing (0 + 1) ws (text_in (text (Spelled Name) (name_length w) false nothing) ws) (behind_text (text (Spelled Name) (name_length w) false nothing) ws) (files_in (text (Spelled Name) (name_length w) false nothing) ws)
        → (allowed Name (name_in (w ∷ ws)) ≡ true) × (name_encoded (name_in (w ∷ ws)) ≡ w ∷ ws)
    go i a v d =
        let bn = text_in (text (Spelled Name) (name_length w) false nothing) ws in
        let z = nothing_left (0 + 1 + length (text_words bn)) (behind_text (text (Spelled Name) (name_length w) false nothing) ws) d.run in (
          sized_allowed Name (name_length w) bn a d.sized d.right,
          ap₂ (λ (x y : ℕ). head_word x y ∷ text_words bn) d.sized (sym v)
              ∙ ap₂ (λ (x : ℕ) (t : List ℕ). x ∷ t) (head_made w i) (sym (append-nil (text_words bn)) ∙ ap (λ (t : List ℕ). text_words bn ++ t) (sym z) ∙ d.words),
        )

-- whether words are a package, or a name, by whether they have a fault
pub package_yes : (words : List ℕ) → package_refusal words ≡ None → Decides true (PackageWords words)
package_yes words h = (λ t. (package_in words, (accepted_encoded words h).0, (accepted_encoded words h).1), λ p. refl)

pub package_no : (words : List ℕ) (refused : Refusal) → package_refusal words ≡ Some refused → Decides false (PackageWords words)
package_no words refused h =
    (λ t. absurd (both_ways false refl t), λ p. some_none refused (sym h ∙ ap package_refusal (sym p.2) ∙ (encoded_accepted p.0 p.1).0))

pub name_yes : (words : List ℕ) → name_refusal words ≡ None → Decides true (NameWords words)
name_yes words h = (λ t. (name_in words, (name_exact words h).0, (name_exact words h).1), λ p. refl)

pub name_no : (words : List ℕ) (refused : Refusal) → name_refusal words ≡ Some refused → Decides false (NameWords words)
name_no words refused h =
    (λ t. absurd (both_ways false refl t), λ p. some_none refused (sym h ∙ ap name_refusal (sym p.2) ∙ (name_accepted p.0 p.1).0))

-- what a reading answers decides it
pub by_reading : {X E P : Type 0} {A : X → Type 0} {B : E → Type 0} (r : Result X E) (b : Bool) → b ≡ is_ok r → MatchResult r A B
    → ((x : X) → A x → Decides true P) → ((e : E) → B e → Decides false P) → Decides b P
by_reading {P = P} (Ok x) b e h taken lost = subst (λ (t : Bool). Decides t P) (sym e) (taken x h)
by_reading {P = P} (Err x) b e h taken lost = subst (λ (t : Bool). Decides t P) (sym e) (lost x h)
