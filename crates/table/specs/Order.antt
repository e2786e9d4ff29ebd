-- The order of keys.
use Rattle.std.specs.Prelude.{◌≡◌, ℕ, Bool, true, false, not, ◌&&◌, Decides, nat_lt}
use Rattle.base.specs.Texts.{before}
use Rattle.base.specs.declared.texts.ShortText.{ShortText}

-- The law of a key's order: it is total.
pub record Total {K : Type 0} (below : K → K → Bool) (same : K → K → Type 0) : Type 0 where
  -- no key is below itself
  pub never : (a : K) → below a a ≡ false
  -- a key is below all that a key above it is below
  pub trans : (a b c : K) → below a b ≡ true → below b c ≡ true → below a c ≡ true
  -- two keys neither of which is below the other are the same key
  pub one : (a b : K) → below a b ≡ false → below b a ≡ false → same a b
  -- the same key is below the same keys
  pub like : (a b c : K) → same a b → below a c ≡ below b c

-- neither of two keys is below the other
abbrev pub meets : {K : Type 0} → (K → K → Bool) → K → K → Bool
meets below a b = not (below a b) && not (below b a)

-- the order of names: by bytes, a prefix first
abbrev pub by_bytes : ShortText → ShortText → Bool
by_bytes a b = before a.bytes b.bytes

-- paths that meet are equal, and so are names; and equal ones meet
abbrev pub OneKey : Type 0
OneKey = ((a b : ℕ) → Decides (meets nat_lt a b) (a ≡ b)) × ((a b : ShortText) → Decides (meets by_bytes a b) (a ≡ b))
