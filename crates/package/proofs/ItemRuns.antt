-- Items that were handed out, and the checks of the whole input.
use Rattle.std.proofs.Common.{◌≡◌, ℕ, suc, ◌+◌, ◌-◌, ◌<◌, Bool, true, false, cond, List, [], ◌∷◌, length, drop, Some, None, Ok, Err, Option, sym, refl, ap, ◌∙◌, arith, length-drop}
use Rattle.std.proofs.lemmas.List.{drop-drop}
use Rattle.base.specs.declared.reasons.Reason.TheVariants.{EndsEarly, WrongWord}
use Rattle.base.specs.declared.reasons.Refusal.{Refusal}
use Rattle.base.specs.Refusals.{word_refusal}
use Rattle.base.specs.declared.texts.TextKind.TheVariants.{Name as name, Version as version}
use Rattle.package.specs.declared.rules.TextRule.TheVariants.{Spelled}
use Rattle.package.specs.declared.items.Stage.{Stage}
use Rattle.package.specs.declared.items.Stage.TheVariants.{Package, NameAlone, Version, Files, Done}
use Rattle.package.specs.Words.{name_length, version_length, content_length, is_end, path}
use Rattle.package.specs.Checks.{package_head, name_head, text, item, nothing, fault, contents, refusal}
use Rattle.package.specs.Items.{Handed, end_part, due_at, file_handed, handed, item_at, item_refusal, judged, text_refusal, content_refusal, words_for}
use Rattle.package.proofs.Tests.{some_none}
use Rattle.package.proofs.TextSound.{or_run, step_run, text_run, content_run}

-- an item that was handed out had a first word, no fault, and is the one that the definition names
pub record Got (stage : Stage) (place : ℕ) (ws : List ℕ) (h : Handed) : Type 0 where
  pub word : ℕ
  pub rest : List ℕ
  pub words : ws ≡ word ∷ rest
  pub clean : item_refusal stage place word rest ≡ None
  pub item : h ≡ handed stage place word rest

pub got : (stage : Stage) (place : ℕ) (ws : List ℕ) (h : Handed) → Ok h ≡ item_at stage place ws → Got stage place ws h
got stage place [] h e = let z : ◌≡◌ {A = ℕ} 0 1 = cc in absurd (omega arith)
got stage place (w ∷ ws) h e₀ = go (item_refusal stage place w ws) refl e₀
  where
    go : (o : Option Refusal) → item_refusal stage place w ws ≡ o → Ok h ≡ judged o (handed stage place w ws) → Got stage place (w ∷ ws) h
    go (Some refused) c e = let z : ◌≡◌ {A = ℕ} 0 1 = cc in absurd (omega arith)
    go None c e = record { word = w; rest = ws; words = refl; clean = c; item = cc }

-- what the checks say from an item on
abbrev onwards : Handed → ℕ → List ℕ → Option Refusal
onwards h place ws = refusal (due_at h.stage) h.behind (drop (h.behind - place) ws)

dropped : (place w : ℕ) (ws : List ℕ) (n : ℕ) → drop n ws ≡ drop (place + 1 + n - place) (w ∷ ws)
dropped place w ws n = let e : suc n ≡ place + 1 + n - place = omega arith in ap (λ (m : ℕ). drop m (w ∷ ws)) e

-- the checks of an item, and then those of what is due behind it
pub item_run : (stage : Stage) (place w : ℕ) (ws : List ℕ) → refusal (due_at stage) place (w ∷ ws) ≡ or_run (item_refusal stage place w ws) (onwards (handed stage place w ws) place (w ∷ ws))
item_run Package place w ws =
    step_run (fault package_head place w) place _ _ _
    (text_run ws (Spelled name) (name_length w) false (text (Spelled version) (version_length w) false (item 0 0)) (place + 1)
    ∙ ap (λ (t : List ℕ). or_run (text_refusal (Spelled name) (name_length w) false (place + 1) ws) (refusal (text (Spelled version) (version_length w) false (item 0 0)) (place + 1 + words_for (name_length w)) t)) (dropped place w ws (words_for (name_length w))))
item_run NameAlone place w ws =
    step_run (fault name_head place w) place _ _ _
    (text_run ws (Spelled name) (name_length w) false nothing (place + 1)
    ∙ ap (λ (t : List ℕ). or_run (text_refusal (Spelled name) (name_length w) false (place + 1) ws) (refusal nothing (place + 1 + words_for (name_length w)) t)) (dropped place w ws (words_for (name_length w))))
item_run (Version len) place w ws =
    let e : words_for len ≡ place + words_for len - place = omega arith in
    text_run (w ∷ ws) (Spelled version) len false (item 0 0) place
    ∙ ap (λ (n : ℕ). or_run (text_refusal (Spelled version) len false place (w ∷ ws)) (refusal (item 0 0) (place + words_for len) (drop n (w ∷ ws)))) e
item_run (Files count floor) place w ws = step_run (fault (item count floor) place w) place _ _ _ (go (is_end w))
  where
    go : (b : Bool) → refusal (cond b nothing (contents (content_length w) (item (count + 1) (path w + 1)))) (place + 1) ws
        ≡ or_run (cond b None (content_refusal (content_length w) (place + 1) ws))
        (onwards (cond b (record { part = end_part; place = place; behind = place + 1; stage = Done }) (file_handed count place w ws)) place (w ∷ ws))
    go true = let e : place + 1 - place ≡ 1 = omega arith in sym (ap (λ (n : ℕ). refusal nothing (place + 1) (drop n (w ∷ ws))) e)
    go false =
        content_run (content_length w) (item (count + 1) (path w + 1)) (place + 1) ws
        ∙ ap (λ (t : List ℕ). or_run (content_refusal (content_length w) (place + 1) ws) (refusal (item (count + 1) (path w + 1)) (place + 1 + content_length w) t)) (dropped place w ws (content_length w))
item_run Done place w ws = refl

-- an item moves the reader on
pub handed_on : (stage : Stage) (place w : ℕ) (ws : List ℕ) → item_refusal stage place w ws ≡ None → place < (handed stage place w ws).behind
handed_on Package place w ws h = omega arith
handed_on NameAlone place w ws h = omega arith
handed_on (Version len) place w ws h = omega arith
handed_on (Files count floor) place w ws h = go (is_end w)
  where
    go : (b : Bool) → place < (cond b (record { part = end_part; place = place; behind = place + 1; stage = Done }) (file_handed count place w ws)).behind
    go true = omega arith
    go false = omega arith
handed_on Done place w ws h = some_none (word_refusal WrongWord place) h

pub got_on : (stage : Stage) (place : ℕ) (words : List ℕ) (h : Handed) → Ok h ≡ item_at stage place (drop place words) → (place < length words) × (place < h.behind)
got_on stage place words h e =
    let g = got stage place (drop place words) h e in
    let l = length-drop place words in
    let m = ap length g.words in
    let b = ap (λ (x : Handed). x.behind) g.item in
    let n = handed_on stage place g.word g.rest g.clean in
    (omega arith, omega arith)

-- from an item on, the checks of the whole are those behind the item
pub got_run : (stage : Stage) (place : ℕ) (words : List ℕ) (h : Handed) → Ok h ≡ item_at stage place (drop place words)
    → refusal (due_at h.stage) h.behind (drop h.behind words) ≡ refusal (due_at stage) place (drop place words)
got_run stage place words h e =
    let g = got stage place (drop place words) h e in
    let on = got_on stage place words h e in
    let q : place + (h.behind - place) ≡ h.behind = omega arith in
    sym (ap (refusal (due_at stage) place) g.words
    ∙ item_run stage place g.word g.rest
    ∙ ap (λ (o : Option Refusal). or_run o (onwards (handed stage place g.word g.rest) place (g.word ∷ g.rest))) g.clean
    ∙ ap (λ (x : Handed). onwards x place (g.word ∷ g.rest)) (sym g.item)
    ∙ ap (λ (t : List ℕ). refusal (due_at h.stage) h.behind (drop (h.behind - place) t)) (sym g.words)
    ∙ ap (λ (t : List ℕ). refusal (due_at h.stage) h.behind t) (drop-drop (h.behind - place) place words ∙ ap (λ (n : ℕ). drop n words) q))

-- a fault of an item is the first of the whole, unless the end was there already
pub lost_run : (stage : Stage) (place : ℕ) (ws : List ℕ) (refused : Refusal) → (stage ≡ Done → ⊥) → Err refused ≡ item_at stage place ws → Some refused ≡ refusal (due_at stage) place ws
lost_run stage place [] refused n e = let f : refused ≡ word_refusal EndsEarly place = cc in ap (λ (r : Refusal). Some r) f ∙ go stage n
  where
    go : (s : Stage) → (s ≡ Done → ⊥) → Some (word_refusal EndsEarly place) ≡ refusal (due_at s) place []
    go Package m = refl
    go NameAlone m = refl
    go (Version len) m = refl
    go (Files count floor) m = refl
    go Done m = absurd (m refl)
lost_run stage place (w ∷ ws) refused n e = go (item_refusal stage place w ws) refl e
  where
    go : (o : Option Refusal) → item_refusal stage place w ws ≡ o → Err refused ≡ judged o (handed stage place w ws) → Some refused ≡ refusal (due_at stage) place (w ∷ ws)
    go (Some r) c f =
        let g : refused ≡ r = cc in
        ap (λ (x : Refusal). Some x) g ∙ sym (item_run stage place w ws ∙ ap (λ (x : Option Refusal). or_run x (onwards (handed stage place w ws) place (w ∷ ws))) c)
    go None c f = let z : ◌≡◌ {A = ℕ} 0 1 = cc in absurd (omega arith)
