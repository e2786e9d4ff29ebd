-- A package taken apart by its first two items.
use Rattle.std.proofs.Common.{◌≡◌, ℕ, suc, ◌+◌, ◌≤◌, Bool, true, false, cond, ◌&&◌, eqb, List, ◌∷◌, length, take, drop, is_some, Some, None, Ok, Err, Option, sym, refl, ap, ◌∙◌, subst, arith}
use Rattle.std.specs.List.{flat_map}
use Rattle.std.proofs.lemmas.List.{drop-drop, take_all}
use Rattle.std.proofs.lemmas.Bool.{and_parts, and_from}
use Rattle.base.specs.declared.reasons.Reason.TheVariants.{WrongWord, OutsideLimits}
use Rattle.base.specs.declared.texts.TextKind.{TextKind}
use Rattle.base.specs.declared.texts.TextKind.TheVariants.{Name as name, Version as version}
use Rattle.base.specs.Texts.{allowed, fitting, spelled, padded, spelt}
use Rattle.base.specs.declared.kinds.Kind.{Ghosts as Kind}
use Rattle.base.specs.declared.text.Text.{Text}
use Rattle.base.specs.declared.texts.ShortText.{ShortText}
use Rattle.base.specs.Named.{row_in, text as text_of, row_of}
use Rattle.base.proofs.Rows.{padded_spelt}
use Rattle.std.proofs.lemmas.Bool.Decides.{nat_tests}
use Rattle.package.specs.declared.rules.TextRule.TheVariants.{Spelled}
use Rattle.base.specs.declared.reasons.Refusal.{Refusal}
use Rattle.package.specs.declared.items.Stage.{Stage}
use Rattle.package.specs.declared.items.Stage.TheVariants.{Package, NameAlone, Version}
use Rattle.package.specs.Words.{bytes, is_head, name_length, version_length}
use Rattle.package.specs.Checks.{package_head, name_head, text, item, nothing, fault, refusal}
use Rattle.package.specs.Items.{Handed, due_at, item_at, item_refusal, part_words, text_refusal, words_for}
use Rattle.package.specs.Packages.{text_in, files_in, version_due, name_in, version_in}
use Rattle.package.specs.Accepted.{name_refusal, package_refusal, files_place}
use Rattle.package.specs.Readings.{Alone, Parted}
use Rattle.package.proofs.Tests.{some_none, must_none, or_else_none}
use Rattle.package.proofs.TextSound.{text_sound, text_spelled}
use Rattle.package.proofs.ItemRuns.{Got, got, got_run, lost_run}

-- a text of an allowed length without a fault is allowed
pub text_allowed : (kind : TextKind) (n place : ℕ) (ws : List ℕ) → fitting kind n ≡ true → text_refusal (Spelled kind) n false place ws ≡ None
    → allowed kind (flat_map bytes (take (words_for n) ws)) ≡ true
text_allowed kind n place ws f h =
    let s = text_spelled ws kind n false place h in
    and_from (fitting kind (length (flat_map bytes (take (words_for n) ws)))) (spelled kind (flat_map bytes (take (words_for n) ws)))
    (ap (fitting kind) s.0 ∙ f) s.1

-- the two items at the front of words that begin with w, and the second with v
parted : (words : List ℕ) (w : ℕ) (ws : List ℕ) → words ≡ w ∷ ws
    → fitting name (name_length w) ≡ true → fitting version (version_length w) ≡ true
    → text_refusal (Spelled name) (name_length w) false (0 + 1) ws ≡ None
    → text_refusal (Spelled version) (version_length w) false (0 + 1 + words_for (name_length w)) (drop (0 + 1 + words_for (name_length w)) words) ≡ None
    → package_refusal words ≡ None
    → refusal (item 0 0) (0 + 1 + words_for (name_length w) + words_for (version_length w)) (drop (0 + 1 + words_for (name_length w) + words_for (version_length w)) words) ≡ None
    → Parted words (take (words_for (name_length w)) ws) (take (words_for (version_length w)) (drop (0 + 1 + words_for (name_length w)) words)) (0 + 1 + words_for (name_length w) + words_for (version_length w))
parted words w ws e f g h k a s =
    let n = name_length w in
    let v = version_length w in
    let p = 0 + 1 + words_for n in
    let q : p ≡ suc (words_for n) = omega arith in
    let d : drop p words ≡ drop (words_for n) ws = ap (drop p) e ∙ ap (λ (m : ℕ). drop m (w ∷ ws)) q in
    let one = text_sound ws (Spelled name) n false (text (Spelled version) v false (item 0 0)) (0 + 1) h in
    let two = text_sound ws (Spelled name) n false nothing (0 + 1) h in
    let three = text_sound (drop p words) (Spelled version) v false (item 0 0) p k in
    let four = text_sound (drop p words) (Spelled version) v false nothing p k in
    record {
      accepted = a;
      named = sym (ap name_in e ∙ two.spelt);
      spelled = text_allowed name n (0 + 1) ws f h;
      versioned = sym (ap version_in e ∙ ap (text_in (version_due w)) (two.behind ∙ sym d) ∙ four.spelt);
      numbered = text_allowed version v p (drop p words) g k;
      filed = sym (ap (files_in package_head) e ∙ one.files ∙ ap (files_in (text (Spelled version) v false (item 0 0))) (sym d) ∙ three.files ∙ ap (files_in (item 0 0)) (drop-drop (words_for v) p words));
      sound = s;
      placed = sym (ap files_place e);
    }

-- whatever the reader handed out first and second, if the rest is in order
pub parts_read : (words : List ℕ) (h₁ h₂ : Handed) → Ok h₁ ≡ item_at Package 0 words → Ok h₂ ≡ item_at h₁.stage h₁.behind (drop h₁.behind words)
    → None ≡ refusal (due_at h₂.stage) h₂.behind (drop h₂.behind words)
    → Parted words (part_words h₁.part) (part_words h₂.part) h₂.behind
parts_read words h₁ h₂ e₁ e₂ f =
    let a : package_refusal words ≡ None = sym (got_run Package 0 words h₁ e₁) ∙ sym (got_run h₁.stage h₁.behind words h₂ e₂) ∙ sym f in
    let g = got Package 0 words h₁ e₁ in
    first g a
  where
    second : (w : ℕ) (ws : List ℕ) → words ≡ w ∷ ws → item_refusal Package 0 w ws ≡ None → package_refusal words ≡ None
        → Ok h₂ ≡ item_at (Version (version_length w)) (0 + 1 + words_for (name_length w)) (drop (0 + 1 + words_for (name_length w)) words)
        → Parted words (take (words_for (name_length w)) ws) (part_words h₂.part) h₂.behind
    second w ws e c a e₃ =
        let p = 0 + 1 + words_for (name_length w) in
        let v = version_length w in
        let g = got (Version v) p (drop p words) h₂ e₃ in
        let o = or_else_none (fault package_head 0 w) 0 (text_refusal (Spelled name) (name_length w) false (0 + 1) ws) c in
        let m = must_none (is_head w) WrongWord _ o.0 in
        let l = and_parts (fitting name (name_length w)) (fitting version v) (must_none (fitting name (name_length w) && fitting version v) OutsideLimits None m.1).0 in
        let k : text_refusal (Spelled version) v false p (drop p words) ≡ None = ap (text_refusal (Spelled version) v false p) g.words ∙ g.clean in
        let s : refusal (item 0 0) (p + words_for v) (drop (p + words_for v) words) ≡ None = sym (f ∙ ap (λ (h : Handed). refusal (due_at h.stage) h.behind (drop h.behind words)) g.item) in
        subst (λ (h : Handed). Parted words (take (words_for (name_length w)) ws) (part_words h.part) h.behind) (sym g.item)
        (subst (λ (t : List ℕ). Parted words (take (words_for (name_length w)) ws) (take (words_for v) t) (p + words_for v)) g.words (parted words w ws e l.0 l.1 o.1 k a s))

    first : Got Package 0 words h₁ → package_refusal words ≡ None → Parted words (part_words h₁.part) (part_words h₂.part) h₂.behind
    first g a =
        subst (λ (h : Handed). Parted words (part_words h.part) (part_words h₂.part) h₂.behind) (sym g.item)
        (second g.word g.rest g.words g.clean a (e₂ ∙ ap (λ (h : Handed). item_at h.stage h.behind (drop h.behind words)) g.item))

-- the name or the version in an allowed text
fits_cap : (kind : TextKind) (bs : List ℕ) → allowed kind bs ≡ true → length bs ≤ 16
fits_cap name bs h = grind (arith, nat_tests)
fits_cap version bs h = grind (arith, nat_tests)

pub row_found : (kind : TextKind) (bs : List ℕ) → allowed kind bs ≡ true → row_of kind (take 16 bs) ≡ Some (record { bytes = padded bs })
row_found kind bs h = ap (row_of kind) (take_all 16 bs (fits_cap kind bs h)) ∙ ap (λ (b : Bool). cond b (Some (record { bytes = padded bs })) None) h

pub text_found : {K : Type 0} {g : Kind K} (kind : TextKind) (r : Option (Text K g)) (bs : List ℕ) → allowed kind bs ≡ true → row_in r ≡ row_of kind (take 16 bs) → is_some r ≡ true
text_found kind None bs h e = some_none (record { bytes = padded bs }) (sym (row_found kind bs h) ∙ sym e)
text_found kind (Some n) bs h e = refl

pub text_spelt : {K : Type 0} {g : Kind K} (kind : TextKind) (n : Text K g) (bs : List ℕ) → allowed kind bs ≡ true → Some n.row ≡ row_of kind (take 16 bs) → text_of n ≡ bs
text_spelt kind n bs h e =
    let f : Some n.row ≡ Some (record { bytes = padded bs }) = e ∙ row_found kind bs h in
    let g : n.row ≡ record { bytes = padded bs } = cc in
    ap (λ (r : ShortText). spelt r.bytes) g ∙ padded_spelt kind bs h

-- the reader's first answer, from the start of the words
pub at_start : (start stage : Stage) (place : ℕ) (ws words : List ℕ) → ws ≡ words → place ≡ 0 → stage ≡ start → item_at stage place (drop place ws) ≡ item_at start 0 words
at_start start stage place ws words e p s = λ i. item_at (s i) (p i) (drop (p i) (e i))

-- a fault in the first item, in the second, or behind them
pub lost_first : (words : List ℕ) (refused : Refusal) → Err refused ≡ item_at Package 0 words → package_refusal words ≡ Some refused
lost_first words refused e = sym (lost_run Package 0 words refused (λ d. let z : ◌≡◌ {A = ℕ} 0 1 = cc in omega arith) e)

pub lost_second : (words : List ℕ) (h : Handed) (refused : Refusal) → Ok h ≡ item_at Package 0 words → Err refused ≡ item_at h.stage h.behind (drop h.behind words) → package_refusal words ≡ Some refused
lost_second words h refused e f =
    let g = got Package 0 words h e in
    let s = ap (λ (x : Handed). x.stage) g.item in
    sym (got_run Package 0 words h e) ∙ sym (lost_run h.stage h.behind (drop h.behind words) refused (λ d. let z : ◌≡◌ {A = ℕ} 0 1 = cc in omega arith) f)

pub lost_rest : (words : List ℕ) (h₁ h₂ : Handed) (o : Option Refusal) → Ok h₁ ≡ item_at Package 0 words → Ok h₂ ≡ item_at h₁.stage h₁.behind (drop h₁.behind words)
    → o ≡ refusal (due_at h₂.stage) h₂.behind (drop h₂.behind words) → package_refusal words ≡ o
lost_rest words h₁ h₂ o e₁ e₂ f = sym (got_run Package 0 words h₁ e₁) ∙ sym (got_run h₁.stage h₁.behind words h₂ e₂) ∙ sym f

-- a name alone, by its only item
pub lone_read : (words : List ℕ) (h : Handed) → Ok h ≡ item_at NameAlone 0 words → None ≡ refusal (due_at h.stage) h.behind (drop h.behind words)
    → Alone words (part_words h.part)
lone_read words h e f = go (got NameAlone 0 words h e) (sym (got_run NameAlone 0 words h e) ∙ sym f)
  where
    go : Got NameAlone 0 words h → name_refusal words ≡ None → Alone words (part_words h.part)
    go g a =
        let w = g.word in
        let o = or_else_none (fault name_head 0 w) 0 (text_refusal (Spelled name) (name_length w) false (0 + 1) g.rest) g.clean in
        let m = must_none (is_head w) WrongWord _ o.0 in
        let l = and_parts (fitting name (name_length w)) (eqb (version_length w) 0) (must_none (fitting name (name_length w) && eqb (version_length w) 0) OutsideLimits None m.1).0 in
        let t = text_sound g.rest (Spelled name) (name_length w) false nothing (0 + 1) o.1 in
        let p = ap (λ (x : Handed). part_words x.part) g.item in
        record {
          accepted = a;
          named = ap (flat_map bytes) p ∙ sym (ap name_in g.words ∙ t.spelt);
          spelled = ap (λ (x : List ℕ). allowed name (flat_map bytes x)) p ∙ text_allowed name (name_length w) (0 + 1) g.rest l.0 o.1;
        }

pub lost_name : (words : List ℕ) (refused : Refusal) → Err refused ≡ item_at NameAlone 0 words → name_refusal words ≡ Some refused
lost_name words refused e = sym (lost_run NameAlone 0 words refused (λ d. let z : ◌≡◌ {A = ℕ} 0 1 = cc in omega arith) e)

pub lost_behind : (words : List ℕ) (h : Handed) (o : Option Refusal) → Ok h ≡ item_at NameAlone 0 words
    → o ≡ refusal (due_at h.stage) h.behind (drop h.behind words) → name_refusal words ≡ o
lost_behind words h o e f = sym (got_run NameAlone 0 words h e) ∙ sym f
