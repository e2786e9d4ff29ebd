-- The keys seen as paths, each with its sides.
use Rattle.std.specs.Prelude.{ℕ, ◌+◌, ◌*◌, ◌/◌, ◌%◌, Bool, cond, not, ◌&&◌, List, map, length, is_some, Some, None, ◌==◌, nat_le}
use Rattle.std.specs.List.{range_with_len}
use Rattle.store.specs.Files.{File, Files, side_count, key_count, longest, file_at, used}
use Rattle.store.specs.declared.side.Side.{Side}
use Rattle.store.specs.declared.side.Side.TheVariants.{Place, Aside, Pending, PendingAside}

abbrev pub side_no : Side → ℕ
side_no Place = 0
side_no Aside = 1
side_no Pending = 2
side_no PendingAside = 3

abbrev pub key_of : ℕ → Side → ℕ
key_of p s = side_count * p + side_no s

abbrev pub same_side : Side → Side → Bool
same_side s t = side_no s == side_no t

-- what the keys of a path hold
pub record Sides : Type 0 where
  pub place : File
  pub aside : File
  pub pending : File
  pub pending_aside : File

abbrev pub side_of : Side → Sides → File
side_of Place x = x.place
side_of Aside x = x.aside
side_of Pending x = x.pending
side_of PendingAside x = x.pending_aside

-- the sides of each path, in what a store holds
abbrev pub sides_at : Files → ℕ → Sides
sides_at fs p = record {
  place = file_at fs (key_of p Place);
  aside = file_at fs (key_of p Aside);
  pending = file_at fs (key_of p Pending);
  pending_aside = file_at fs (key_of p PendingAside);
}

-- one side holds f, the others what they held
abbrev pub with_side : Side → File → Sides → Sides
with_side s f x = record {
  place = cond (same_side s Place) f x.place;
  aside = cond (same_side s Aside) f x.aside;
  pending = cond (same_side s Pending) f x.pending;
  pending_aside = cond (same_side s PendingAside) f x.pending_aside;
}

-- a file goes to another side of its path; from an empty side, or onto itself, nothing does
abbrev pub carried : Side → Side → Sides → Sides
carried s t x = cond (is_some (side_of s x) && not (same_side s t)) (with_side s None (with_side t (side_of s x) x)) x

-- one path changes by g, the others stay
abbrev pub change : ℕ → (Sides → Sides) → (ℕ → Sides) → ℕ → Sides
change p g f q = cond (q == p) (g (f q)) (f q)

-- The files by key, of the sides of each path.
abbrev pub side_in : ℕ → Sides → File
side_in n x = cond (n == 0) x.place (cond (n == 1) x.aside (cond (n == 2) x.pending x.pending_aside))

unfoldable pub listed : (ℕ → Sides) → Files
listed f = map (λ (k : ℕ). side_in (k % side_count) (f (k / side_count))) (range_with_len 0 key_count)

-- whether the words may be put on the side of the path
abbrev pub admits_side : ℕ → ℕ → (ℕ → Sides) → ℕ → Side → List ℕ → Bool
admits_side b u f p s ws = nat_le (length ws) longest && nat_le (used b (listed (change p (with_side s (Some ws)) f))) u
