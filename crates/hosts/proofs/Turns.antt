-- What one run of each host gives, at its place and past the end.
use Rattle.std.proofs.Common.{◌≡◌, ℕ, zero, suc, ◌+◌, ◌<◌, ◌≤◌, Bool, cond, List, [], ◌∷◌, length, get_or, drop, sym, refl, ap, ◌∙◌, le_of_suc-le-suc, not-suc-le-zero}
use Rattle.std.proofs.lemmas.List.{at_drop_more, at_drop_all}
use Rattle.std.proofs.lemmas.Bool.{le-ltb}
use Rattle.host.specs.declared.calls.Call.{Call}
use Rattle.host.specs.declared.line.Line.{Line}
use Rattle.host.specs.Rows.{tells}
use Rattle.hosts.specs.declared.tables.Rule.{Rule}
use Rattle.hosts.specs.Meanings.{matches, ruled, due, played, mark_after, given_after}

-- the rule at the place i
pub rule_at : (rules : List Rule) (i : ℕ) (d : Rule) (c : Call) (b : Bool) → i < length rules → b ≡ matches (get_or rules i d) c → ruled (drop i rules) c ≡ cond b (get_or rules i d).status (ruled (drop (i + 1) rules) c)
rule_at rules i d c b h e =
    at_drop_more (λ (rs : List Rule). ruled rs c) rules i d h ∙ ap (λ (x : Bool). cond x (get_or rules i d).status (ruled (drop (i + 1) rules) c)) (sym e)

-- the line at the mark
pub played_at : (lines : List Line) (mark : ℕ) (d : Line) (c : Call) (b : Bool) → mark < length lines → b ≡ tells (get_or lines mark d) c → played (drop mark lines) c ≡ cond b (get_or lines mark d).status 127
played_at lines mark d c b h e =
    at_drop_more (λ (ls : List Line). played ls c) lines mark d h ∙ ap (λ (x : Bool). cond x (get_or lines mark d).status 127) (sym e)

pub moved_at : (lines : List Line) (mark : ℕ) (d : Line) (c : Call) (b : Bool) → mark < length lines → b ≡ tells (get_or lines mark d) c → mark_after lines mark c ≡ cond b (mark + 1) mark
moved_at lines mark d c b h e =
    ap (λ (x : Bool). cond x (mark + 1) mark) (at_drop_more (λ (ls : List Line). due ls c) lines mark d h ∙ sym e)

-- past the end of the lines
pub played_out : (lines : List Line) (mark : ℕ) (c : Call) → length lines ≤ mark → played (drop mark lines) c ≡ 127
played_out lines mark c h = at_drop_all (λ (ls : List Line). played ls c) lines mark h

pub moved_out : (lines : List Line) (mark : ℕ) (c : Call) → length lines ≤ mark → mark_after lines mark c ≡ mark
moved_out lines mark c h = ap (λ (x : Bool). cond x (mark + 1) mark) (at_drop_all (λ (ls : List Line). due ls c) lines mark h)

-- past the end of the answers
pub given_out : (xs : List ℕ) (i : ℕ) → length xs ≤ i → get_or xs i 0 ≡ 0
given_out [] i h = refl
given_out (x ∷ xs) zero h = absurd (not-suc-le-zero h)
given_out (x ∷ xs) (suc i) h = given_out xs i (le_of_suc-le-suc h)

pub stays_out : (xs : List ℕ) (i : ℕ) → length xs ≤ i → given_after xs i ≡ i
stays_out xs i h = ap (λ (x : Bool). cond x (i + 1) i) (le-ltb i (length xs) h)
