-- The reader's answers, and the files in words.
use Rattle.std.proofs.Common.{◌≡◌, ℕ, zero, suc, ◌+◌, Bool, true, false, cond, not, ◌<◌, List, [], ◌∷◌, length, take, drop, is_some, None, Ok, Err, sym, refl, ap, ◌∙◌, subst, arith}
use Rattle.std.proofs.lemmas.List.{drop-drop}
use Rattle.std.proofs.lemmas.Bool.{and_parts, and_from, false≢true}
use Rattle.base.specs.declared.reasons.Refusal.{Refusal}
use Rattle.package.specs.declared.files.File.{File as Wared}
use Rattle.package.specs.declared.items.Item.{Item}
use Rattle.package.specs.declared.items.Item.TheVariants.{File}
use Rattle.package.specs.declared.items.Items.{Items}
use Rattle.package.specs.declared.items.Stage.{Stage}
use Rattle.package.specs.declared.items.Stage.TheVariants.{Package, NameAlone, Version, Files, Done}
use Rattle.package.specs.Words.{content_length, file_kind, path, is_end}
use Rattle.package.specs.Checks.{refusal}
use Rattle.package.specs.Items.{Part, name_part, version_part, file_part, end_part, Handed, due_at, file_handed, item_at, left_from, part_of}
use Rattle.package.specs.Files.{ware_of}
use Rattle.package.specs.Wares.{Ware, wares, filing, ready}
use Rattle.package.proofs.Tests.{some_none}
use Rattle.package.proofs.ItemRuns.{got, got_run, lost_run}
use Rattle.package.proofs.Placed.{none_from}

pub passed_over : (n : ℕ) (ws : List ℕ) → wares n ws ≡ wares 0 (drop n ws)
passed_over zero ws = refl
passed_over (suc n) [] = refl
passed_over (suc n) (w ∷ ws) = passed_over n ws

-- what an item that was handed out says of the files
abbrev pub Told : List ℕ → Part → ℕ → Stage → List ℕ → Type 0
Told ws (name_part t) behind stage words = ⊥
Told ws (version_part t) behind stage words = ⊥
Told ws (file_part k p c) behind stage words =
    (wares 0 ws ≡ record { kind = k; path = p; words = c } ∷ wares 0 (drop behind words)) × (filing stage ≡ true)
Told ws end_part behind stage words = wares 0 ws ≡ []

abbrev ended : ℕ → Handed
ended place = record { part = end_part; place = place; behind = place + 1; stage = Done }

told_file : (count place w : ℕ) (rest words : List ℕ) → drop place words ≡ w ∷ rest → (b : Bool) → is_end w ≡ b → (h : Handed) → h ≡ cond b (ended place) (file_handed count place w rest)
    → Told (drop place words) h.part h.behind h.stage words
told_file count place w rest words e true t h i =
    rw i (ap (wares 0) e ∙ ap (λ (b : Bool). cond b [] (record { kind = file_kind w; path = path w; words = take (content_length w) rest } ∷ wares (content_length w) rest)) t)
told_file count place w rest words e false t h i =
    let n = content_length w in
    let m : n + (place + 1) ≡ place + 1 + n = omega arith in
    let d : drop (place + 1) words ≡ rest = sym (drop-drop 1 place words) ∙ ap (drop 1) e in
    let r : drop n rest ≡ drop (place + 1 + n) words = ap (drop n) (sym d) ∙ drop-drop n (place + 1) words in
    rw i (
      ap (wares 0) e
          ∙ ap (λ (b : Bool). cond b [] (record { kind = file_kind w; path = path w; words = take n rest } ∷ wares n rest)) t
          ∙ ap (λ (xs : List Ware). record { kind = file_kind w; path = path w; words = take n rest } ∷ xs) (passed_over n rest ∙ ap (wares 0) r),
      refl,
    )

pub told_item : (stage : Stage) (place : ℕ) (words : List ℕ) (h : Handed) → filing stage ≡ true → Ok h ≡ item_at stage place (drop place words)
    → Told (drop place words) h.part h.behind h.stage words
told_item Package place words h on e = absurd (false≢true on)
told_item NameAlone place words h on e = absurd (false≢true on)
told_item (Version len) place words h on e = absurd (false≢true on)
told_item (Files count floor) place words h on e =
    let g = got (Files count floor) place (drop place words) h e in
    told_file count place g.word g.rest words g.words (is_end g.word) refl h g.item
told_item Done place words h on e = absurd (false≢true on)

pub no_fault : (stage : Stage) (place : ℕ) (ws : List ℕ) (refused : Refusal) → filing stage ≡ true → refusal (due_at stage) place ws ≡ None → Err refused ≡ item_at stage place ws → ⊥
no_fault Package place ws refused on s e = false≢true on
no_fault NameAlone place ws refused on s e = false≢true on
no_fault (Version len) place ws refused on s e = false≢true on
no_fault (Files count floor) place ws refused on s e =
    some_none refused (lost_run (Files count floor) place ws refused (λ d. let z : ◌≡◌ {A = ℕ} 0 1 = cc in omega arith) e ∙ s)
no_fault Done place ws refused on s e = false≢true on

-- a reader that is ready, and what it hands out
module _ (items : Items) (on : ready items ≡ true) where
  files_stage : filing items.stage ≡ true
  files_stage = (and_parts (filing items.stage) _ on).0

  clean : refusal (due_at items.stage) items.place (left_from items) ≡ None
  clean = none_from _ (and_parts (filing items.stage) _ on).1

  pub hands_no_fault : (refused : Refusal) → Err refused ≡ item_at items.stage items.place (left_from items) → ⊥
  hands_no_fault refused e = no_fault items.stage items.place (left_from items) refused files_stage clean e

  pub hands : (h : Handed) → Ok h ≡ item_at items.stage items.place (left_from items) → Told (left_from items) h.part h.behind h.stage items.words.now
  hands h e = told_item items.stage items.place items.words.now h files_stage e

  -- the reader behind a file is ready too
  pub ready_behind : (rest : Items) (h : Handed) → Ok h ≡ item_at items.stage items.place (left_from items) → rest.place ≡ h.behind → rest.stage ≡ h.stage
      → rest.words.now ≡ items.words.now → filing h.stage ≡ true → ready rest ≡ true
  ready_behind rest h e ep es ew fs =
      let k : refusal (due_at rest.stage) rest.place (left_from rest) ≡ None =
      (λ i. refusal (due_at (es i)) (ep i) (drop (ep i) (ew i))) ∙ got_run items.stage items.place items.words.now h e ∙ clean in
      and_from (filing rest.stage) _ (ap filing es ∙ fs) (ap (λ o. not (is_some o)) k)

-- a file that a ready reader hands out, and the reader behind it
pub record Turn (items rest : Items) (f : Wared) : Type 0 where
  pub first : wares 0 (left_from items) ≡ ware_of f ∷ wares 0 (left_from rest)
  pub behind : ready rest ≡ true
  pub fewer : length (wares 0 (left_from rest)) < length (wares 0 (left_from items))

pub file_turn : (items rest : Items) (it : Item) (place : ℕ) (f : Wared) → ready items ≡ true → it ≡ File f
    → Ok (record { part = part_of it; place = place; behind = rest.place; stage = rest.stage }) ≡ item_at items.stage items.place (left_from items)
    → rest.words.now ≡ items.words.now → Turn items rest f
file_turn items rest it place f on file e same =
    let t = subst (λ (x : Item). Told (left_from items) (part_of x) rest.place rest.stage items.words.now) file (hands items on _ e) in
    let g : wares 0 (left_from items) ≡ ware_of f ∷ wares 0 (left_from rest) =
    t.0 ∙ ap (λ (xs : List ℕ). ware_of f ∷ wares 0 (drop rest.place xs)) (sym same) in
    let l = ap length g in
    record { first = g; behind = ready_behind items on rest _ e refl refl same t.1; fewer = omega arith }
