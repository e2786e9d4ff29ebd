-- The lines of a trace, one after the other.
use Rattle.std.proofs.Common.{◌≡◌, ℕ, suc, ◌+◌, ◌<◌, ◌≤◌, Bool, true, false, cond, leb, List, [], ◌∷◌, ◌++◌, length, get_or, take, drop, Some, None, Option, Result, sym, refl, ap, ◌∙◌, subst, append_assoc, append-nil, arith, length-append, length-take-le}
use Rattle.std.proofs.lemmas.List.{at_drop_more, at_drop_all}
use Rattle.std.proofs.lemmas.Bool.{lt-leb}
use Rattle.base.specs.declared.reasons.Reason.{Reason}
use Rattle.base.specs.declared.reasons.Reason.TheVariants.{WrongValue, BufferShort}
use Rattle.base.specs.declared.reasons.Refusal.{Refusal}
use Rattle.writer.specs.declared.lent.Lent.{Lent}
use Rattle.writer.specs.Pages.{Stopped}
use Rattle.host.specs.declared.line.Line.{Line}
use Rattle.host.specs.Rows.{sound}
use Rattle.host.specs.Lines.{line_text, trace_text, writes, answer, Whole, Written}

-- what is written is the text of the lines from the first on
abbrev Front : Option Reason → List ℕ → List ℕ → List Line → Type 0
Front None t text lines = t ≡ text ++ trace_text lines
Front (Some reason) t text lines = (k : ℕ) × (k < length lines) × (t ≡ text ++ trace_text (take k lines))

longer : (o : Option Reason) (t text : List ℕ) (l : Line) (ls : List Line) → Front o t (text ++ line_text l) ls → Front o t text (l ∷ ls)
longer None t text l ls e = e ∙ append_assoc text (line_text l) (trace_text ls)
longer (Some reason) t text l ls (k, h, e) = (suc k, omega (arith, h), e ∙ append_assoc text (line_text l) (trace_text (take k ls)))

front : (room : ℕ) (text : List ℕ) (lines : List Line) → Front (writes room text lines).0 (writes room text lines).1 text lines
front room text [] = sym (append-nil text)
front room text (l ∷ ls) = go (sound l) (leb (length (text ++ line_text l)) room) (front room (text ++ line_text l) ls)
  where
    go : (b c : Bool) → Front (writes room (text ++ line_text l) ls).0 (writes room (text ++ line_text l) ls).1 (text ++ line_text l) ls
        → Front (cond b (cond c (writes room (text ++ line_text l) ls) (Some BufferShort, text)) (Some WrongValue, text)).0 (cond b (cond c (writes room (text ++ line_text l) ls) (Some BufferShort, text)) (Some WrongValue, text)).1 text (l ∷ ls)
    go true true f = longer (writes room (text ++ line_text l) ls).0 (writes room (text ++ line_text l) ls).1 text l ls f
    go true false f = (0, omega arith, sym (append-nil text))
    go false c f = (0, omega arith, sym (append-nil text))

whole_of : (o : Option Reason) (t : List ℕ) (lines : List Line) (out : List ℕ) → Front o t [] lines → take (length t) out ≡ t → Whole (answer o (length t)) lines out
whole_of None t lines out f b = (ap length f, b ∙ f)
whole_of (Some reason) t lines out (k, h, e) b = (k, h, ap length e, b ∙ e)

-- the end of the writing, at any line
ended : (lines : List Line) (room n : ℕ) (out : List ℕ) (o : Option Reason) (r : Result ℕ Refusal) → r ≡ answer o n → n ≤ length out → (o, take n out) ≡ writes room [] lines → Written r lines room out
ended lines room n out o r q h e =
    let len = length-take-le n out h in
    let value : r ≡ answer (writes room [] lines).0 (length (writes room [] lines).1) =
    q ∙ ap (answer o) (sym len) ∙ ap (λ (w : Option Reason × List ℕ). answer w.0 (length w.1)) e in
    let bytes : take (length (writes room [] lines).1) out ≡ (writes room [] lines).1 =
    ap (λ (w : Option Reason × List ℕ). take (length w.1) out) (sym e) ∙ ap (λ (k : ℕ). take k out) len ∙ ap (λ (w : Option Reason × List ℕ). w.1) e in
    record {
      value = value;
      bytes = bytes;
      whole = subst (λ (x : Result ℕ Refusal). Whole x lines out) (sym value) (whole_of (writes room [] lines).0 (writes room [] lines).1 lines out (front room [] lines) bytes);
    }

pub ends : (lines : List Line) (room n : ℕ) (bytes out : List ℕ) (o : Option Reason) (r : Result ℕ Refusal) → out ≡ bytes → r ≡ answer o n → n ≤ length bytes → (o, take n bytes) ≡ writes room [] lines → Written r lines room out
ends lines room n bytes out o r same q h e = subst (Written r lines room) (sym same) (ended lines room n bytes o r q h e)

-- one turn at the line l
written_bad : (room : ℕ) (text : List ℕ) (l : Line) (ls : List Line) → sound l ≡ false → writes room text (l ∷ ls) ≡ (Some WrongValue, text)
written_bad room text l ls s = rw s refl

written_short : (room : ℕ) (text : List ℕ) (l : Line) (ls : List Line) → sound l ≡ true → room < length (text ++ line_text l) → writes room text (l ∷ ls) ≡ (Some BufferShort, text)
written_short room text l ls s h = rw (s, lt-leb (length (text ++ line_text l)) room h) refl

-- The page holds the text of the lines before the place i, and what is left comes to the same.
pub record Goes (room : ℕ) (page first : Lent ℕ) (i : ℕ) (lines : List Line) : Type 0 where
  pub left : writes room (take page.count page.items.now) (drop i lines) ≡ writes room [] lines
  pub room_kept : length page.items.now ≡ room
  pub same_reference : page.items.ghost_name ≡ first.items.ghost_name

at_line : (room : ℕ) (text : List ℕ) (i : ℕ) (lines : List Line) (d : Line) → i < length lines → writes room text (drop i lines) ≡ writes room text (get_or lines i d ∷ drop (i + 1) lines)
at_line room text i lines d h = at_drop_more (writes room text) lines i d h

pub goes_bad : (room : ℕ) (page first : Lent ℕ) (i : ℕ) (lines : List Line) (d : Line) → i < length lines → sound (get_or lines i d) ≡ false
    → Goes room page first i lines → (Some WrongValue, take page.count page.items.now) ≡ writes room [] lines
goes_bad room page first i lines d h s g =
    let text = take page.count page.items.now in
    sym (written_bad room text (get_or lines i d) (drop (i + 1) lines) s) ∙ sym (at_line room text i lines d h) ∙ g.left

pub goes_short : (room : ℕ) (page page' first : Lent ℕ) (i : ℕ) (lines : List Line) (d : Line) → i < length lines → sound (get_or lines i d) ≡ true
    → Goes room page first i lines → Stopped (line_text (get_or lines i d)) page page' → (Some BufferShort, take page.count page'.items.now) ≡ writes room [] lines
goes_short room page page' first i lines d h s g w =
    let l = get_or lines i d in
    let text = take page.count page.items.now in
    let wide : room < length (text ++ line_text l) = omega (arith, length-append text (line_text l), length-take-le page.count page.items.now page.fits, w.lacks, g.room_kept) in
    ap (λ (x : List ℕ). (Some BufferShort, x)) w.front ∙ sym (written_short room text l (drop (i + 1) lines) s wide) ∙ sym (at_line room text i lines d h) ∙ g.left

pub goes_out : (room : ℕ) (page first : Lent ℕ) (i : ℕ) (lines : List Line) → length lines ≤ i → Goes room page first i lines → (None, take page.count page.items.now) ≡ writes room [] lines
goes_out room page first i lines h g = sym (at_drop_all (writes room (take page.count page.items.now)) lines i h) ∙ g.left
