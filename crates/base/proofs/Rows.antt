-- Rows and the texts in them.
use Rattle.std.proofs.Common.{◌≡◌, ℕ, zero, suc, ◌-◌, ◌≤◌, Bool, true, false, cond, eqb, ltb, List, [], ◌∷◌, ◌++◌, length, replicate, Some, None, sym, refl, ap, ◌∙◌, ap₂, arith}
use mathlib.Core.HLevel.{is_prop→PathP}
use mathlib.Core.Bool.{Bool-set}
use Rattle.std.specs.Str.{bytes_eq}
use Rattle.std.proofs.lemmas.Slice.Eq.{bytes_eq-Decides, slice_eq-Decides}
use Rattle.std.proofs.lemmas.Bool.{and_parts}
use Rattle.std.proofs.lemmas.Bool.Decides.{nat_tests, Decides-eqb}
use Rattle.std.specs.Prelude.{Decides, nat_eq}
use Rattle.std.specs.Cmp.Lexicographic.{pointwise}
use Rattle.base.specs.declared.texts.ShortText.{ShortText}
use Rattle.base.specs.declared.texts.TextKind.{TextKind}
use Rattle.base.specs.declared.texts.TextKind.TheVariants.{Name as name, Version as version}
use Rattle.base.specs.declared.kinds.Kind.{Ghosts as Kind}
use Rattle.base.specs.declared.text.Text.{Text}
use Rattle.base.specs.Texts.{allowed, spelled, all, fitting, may_begin, may_follow, holds, padded, spelt, before}
use Rattle.base.proofs.Order.{before_padded}
use Rattle.base.specs.Named.{row_of, row_if, text}

pub same_row : (a b : ShortText) → a.bytes ≡ b.bytes → a ≡ b
same_row a b e = λ i. record { bytes = e i }

pub row_yes : (kind : TextKind) (row : ShortText) → allowed kind (spelt row.bytes) ≡ true → padded (spelt row.bytes) ≡ row.bytes → Some row ≡ row_if kind row
row_yes kind row a e =
    rw (a, (bytes_eq-Decides (padded (spelt row.bytes)) row.bytes).1 e) refl

pub row_no : (kind : TextKind) (row : ShortText) → allowed kind (spelt row.bytes) ≡ true → (padded (spelt row.bytes) ≡ row.bytes → ⊥) → None ≡ row_if kind row
row_no kind row a ne =
    go (bytes_eq (padded (spelt row.bytes)) row.bytes) refl
  where
    go : (b : Bool) → bytes_eq (padded (spelt row.bytes)) row.bytes ≡ b → None ≡ row_if kind row
    go true e = absurd (ne ((bytes_eq-Decides (padded (spelt row.bytes)) row.bytes).0 e))
    go false e = rw (a, e) refl

-- the text in sixteen bytes, and the bytes of a text, are each other's inverse
pub begin_no_zero : (kind : TextKind) (b : ℕ) → may_begin kind b ≡ true → eqb b 0 ≡ false
begin_no_zero name b h = grind (arith, nat_tests)
begin_no_zero version b h = grind (arith, nat_tests)

pub follow_no_zero : (kind : TextKind) (b : ℕ) → may_follow kind b ≡ true → eqb b 0 ≡ false
follow_no_zero name b h = grind (arith, nat_tests)
follow_no_zero version b h = grind (arith, nat_tests)

above_zero : (b : ℕ) → eqb b 0 ≡ false → ltb 0 b ≡ true
above_zero b h = grind (arith, nat_tests)

fitting_most : (kind : TextKind) (n : ℕ) → fitting kind n ≡ true → n ≤ 16
fitting_most name n h = grind (arith, nat_tests)
fitting_most version n h = grind (arith, nat_tests)

zeros_spelt : (n : ℕ) → spelt (replicate n 0) ≡ []
zeros_spelt zero = refl
zeros_spelt (suc n) = refl

tail_spelt : (kind : TextKind) (bs : List ℕ) (n : ℕ) → all (may_follow kind) bs ≡ true → spelt (bs ++ replicate n 0) ≡ bs
tail_spelt kind [] n h = zeros_spelt n
tail_spelt kind (b ∷ bs) n h =
    let p = and_parts (may_follow kind b) (all (may_follow kind) bs) h in
    rw (follow_no_zero kind b p.0) (ap (λ (l : List ℕ). b ∷ l) (tail_spelt kind bs n p.1))

pub spelled_spelt : (kind : TextKind) (text : List ℕ) (n : ℕ) → spelled kind text ≡ true → spelt (text ++ replicate n 0) ≡ text
spelled_spelt kind [] n h = zeros_spelt n
spelled_spelt kind (b ∷ bs) n h =
    let p = and_parts (may_begin kind b) (all (may_follow kind) bs) h in
    rw (begin_no_zero kind b p.0) (ap (λ (l : List ℕ). b ∷ l) (tail_spelt kind bs n p.1))

pub padded_spelt : (kind : TextKind) (text : List ℕ) → allowed kind text ≡ true → spelt (padded text) ≡ text
padded_spelt kind text h = spelled_spelt kind text (16 - length text) (and_parts (fitting kind (length text)) (spelled kind text) h).1

-- an allowed text makes a row that holds it
pub padded_holds : (kind : TextKind) (text : List ℕ) → allowed kind text ≡ true → holds kind (padded text) ≡ true
padded_holds kind text h =
    rw (padded_spelt kind text h, h, (bytes_eq-Decides (padded text) (padded text)).1 refl) refl

pub row_made : (kind : TextKind) (text : List ℕ) (row : ShortText) → allowed kind text ≡ true → row.bytes ≡ padded text → Some row ≡ row_of kind text
row_made kind text row a e = rw a (ap (λ (r : ShortText). Some r) (same_row row (record { bytes = padded text }) e))

pub row_of_holds : (kind : TextKind) (text : List ℕ) (row : ShortText) → Some row ≡ row_of kind text → holds kind row.bytes ≡ true
row_of_holds kind text row = go (allowed kind text) refl
  where
    go : (b : Bool) → allowed kind text ≡ b → Some row ≡ cond b (Some (record { bytes = padded text })) None → holds kind row.bytes ≡ true
    go true a e = let r : row ≡ record { bytes = padded text } = cc in rw (r) (padded_holds kind text a)
    go false a e = let z : ◌≡◌ {A = ℕ} 0 1 = cc in absurd (omega arith)

pub row_if_holds : (kind : TextKind) (old row : ShortText) → Some row ≡ row_if kind old → holds kind row.bytes ≡ true
row_if_holds kind old row = go (holds kind old.bytes) refl
  where
    go : (b : Bool) → holds kind old.bytes ≡ b → Some row ≡ cond b (Some old) None → holds kind row.bytes ≡ true
    go true a e = let r : row ≡ old = cc in rw (r) a
    go false a e = let z : ◌≡◌ {A = ℕ} 0 1 = cc in absurd (omega arith)

-- what holds of a row that a name or a version has
pub held : (kind : TextKind) (bs : List ℕ) → holds kind bs ≡ true → (allowed kind (spelt bs) ≡ true) × (padded (spelt bs) ≡ bs)
held kind bs h =
    let p = and_parts (allowed kind (spelt bs)) (bytes_eq (padded (spelt bs)) bs) h in
    (p.0, (bytes_eq-Decides (padded (spelt bs)) bs).0 p.1)

-- a row is told by its text
told : (kind : TextKind) (xs ys : List ℕ) → holds kind xs ≡ true → holds kind ys ≡ true → spelt xs ≡ spelt ys → xs ≡ ys
told kind xs ys h k e = sym (held kind xs h).1 ∙ ap padded e ∙ (held kind ys k).1

pub same_text : {K : Type 0} {kind : Kind K} (s t : Text K kind) → s.row ≡ t.row → s ≡ t
same_text {kind = kind} s t e = λ i. record {
  row = e i;
  kind = record {};
  allowed = is_prop→PathP (λ j. holds kind.KIND (e j).bytes ≡ true) (λ j. Bool-set (holds kind.KIND (e j).bytes) true) s.allowed t.allowed i;
}

pub told_text : {K : Type 0} {kind : Kind K} (s t : Text K kind) → text s ≡ text t → s ≡ t
told_text {kind = kind} s t e = same_text s t (same_row s.row t.row (told kind.KIND s.row.bytes t.row.bytes s.allowed t.allowed e))

-- what `==` computes decides equality
pub rows_decide : (a b : ShortText) → Decides (pointwise nat_eq a.bytes b.bytes) (a ≡ b)
rows_decide a b =
    let d = slice_eq-Decides Decides-eqb a.bytes b.bytes _ refl in
    (λ t. same_row a b (d.0 t), λ e. d.1 (λ i. (e i).bytes))

pub texts_decide : {K : Type 0} {kind : Kind K} (s t : Text K kind) → Decides (pointwise nat_eq s.row.bytes t.row.bytes) (s ≡ t)
texts_decide s t =
    let d = rows_decide s.row t.row in
    (λ p. same_text s t (d.0 p), λ e. d.1 (λ i. (e i).row))

follow_solid : (kind : TextKind) (bs : List ℕ) → all (may_follow kind) bs ≡ true → all (ltb 0) bs ≡ true
follow_solid kind [] h = refl
follow_solid kind (b ∷ bs) h =
    let p = and_parts (may_follow kind b) (all (may_follow kind) bs) h in
    rw (above_zero b (follow_no_zero kind b p.0)) (follow_solid kind bs p.1)

spelled_solid : (kind : TextKind) (text : List ℕ) → spelled kind text ≡ true → all (ltb 0) text ≡ true
spelled_solid kind [] h = refl
spelled_solid kind (b ∷ bs) h =
    let p = and_parts (may_begin kind b) (all (may_follow kind) bs) h in
    rw (above_zero b (begin_no_zero kind b p.0)) (follow_solid kind bs p.1)

-- the order of rows is the order of the texts in them
pub before_rows : (kind : TextKind) (xs ys : List ℕ) → holds kind xs ≡ true → holds kind ys ≡ true → before xs ys ≡ before (spelt xs) (spelt ys)
before_rows kind xs ys h k =
    let p = held kind xs h in
    let q = held kind ys k in
    let f = and_parts (fitting kind (length (spelt xs))) (spelled kind (spelt xs)) p.0 in
    let g = and_parts (fitting kind (length (spelt ys))) (spelled kind (spelt ys)) q.0 in
    let l = fitting_most kind (length (spelt xs)) f.0 in
    let m = fitting_most kind (length (spelt ys)) g.0 in
    ap₂ before (sym p.1) (sym q.1) ∙ before_padded (spelt xs) (spelt ys) (16 - length (spelt xs)) (16 - length (spelt ys)) (spelled_solid kind (spelt xs) f.1) (spelled_solid kind (spelt ys) g.1) (omega arith)
