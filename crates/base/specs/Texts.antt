-- Which texts are names, which are versions, and how sixteen bytes hold one.
use Rattle.std.specs.Prelude.{ℕ, ◌-◌, Bool, true, false, cond, ◌&&◌, ◌||◌, List, [], ◌∷◌, ◌++◌, length, replicate, ◌==◌, nat_le, nat_lt}
use Rattle.std.specs.Str.{bytes_eq}
use Rattle.base.specs.declared.texts.TextKind.{TextKind}
use Rattle.base.specs.declared.texts.TextKind.TheVariants.{Name, Version}

abbrev pub between : ℕ → ℕ → ℕ → Bool
between low high n = nat_le low n && nat_le n high

abbrev pub lower : ℕ → Bool
lower b = between 97 122 b

abbrev pub upper : ℕ → Bool
upper b = between 65 90 b

abbrev pub digit : ℕ → Bool
digit b = between 48 57 b

-- one of + - .
abbrev pub joint : ℕ → Bool
joint b = b == 43 || b == 45 || b == 46

-- one of ~ :
abbrev pub mark : ℕ → Bool
mark b = b == 126 || b == 58

-- the byte that a text begins with
abbrev pub may_begin : TextKind → ℕ → Bool
may_begin Name b = lower b || digit b
may_begin Version b = digit b

-- the bytes after it
abbrev pub may_follow : TextKind → ℕ → Bool
may_follow Name b = lower b || digit b || joint b
may_follow Version b = lower b || upper b || digit b || joint b || mark b

abbrev pub all : (ℕ → Bool) → List ℕ → Bool
all test [] = true
all test (b ∷ bs) = test b && all test bs

abbrev pub spelled : TextKind → List ℕ → Bool
spelled kind [] = false
spelled kind (b ∷ bs) = may_begin kind b && all (may_follow kind) bs

-- the bytes of a part of a text, at its front or, where it has begun, behind that
abbrev pub spells : TextKind → Bool → List ℕ → Bool
spells kind false bs = spelled kind bs
spells kind true bs = all (may_follow kind) bs

abbrev pub shortest : TextKind → ℕ
shortest Name = 2
shortest Version = 1

-- the length of a text of this kind
abbrev pub fitting : TextKind → ℕ → Bool
fitting kind n = between (shortest kind) 16 n

-- a text of this kind: names have 2 to 16 bytes, versions 1 to 16
abbrev pub allowed : TextKind → List ℕ → Bool
allowed kind text = fitting kind (length text) && spelled kind text

-- the text in sixteen bytes: what stands before the first zero byte
abbrev pub spelt : List ℕ → List ℕ
spelt [] = []
spelt (b ∷ bs) = cond (b == 0) [] (b ∷ spelt bs)

-- a text with zero bytes behind it, to sixteen
abbrev pub padded : List ℕ → List ℕ
padded text = text ++ replicate (16 - length text) 0

-- sixteen bytes that hold an allowed text, and zero bytes behind it
abbrev pub holds : TextKind → List ℕ → Bool
holds kind bytes = allowed kind (spelt bytes) && bytes_eq (padded (spelt bytes)) bytes

abbrev pub name_row : List ℕ → Bool
name_row bytes = holds Name bytes

abbrev pub version_row : List ℕ → Bool
version_row bytes = holds Version bytes

-- the order of texts: by bytes, a prefix first
abbrev pub before : List ℕ → List ℕ → Bool
before [] [] = false
before [] (c ∷ cs) = true
before (b ∷ bs) [] = false
before (b ∷ bs) (c ∷ cs) = nat_lt b c || (b == c && before bs cs)
