-- How words lie in a file: four bytes to a word, the highest first.
use Rattle.std.specs.Prelude.{ℕ, ◌/◌, ◌%◌, ◌^◌, List, [], ◌∷◌}
use Rattle.std.specs.List.{flat_map}

abbrev pub four_bytes : ℕ → List ℕ
four_bytes w = (w / 2 ^ 24 % 2 ^ 8) ∷ (w / 2 ^ 16 % 2 ^ 8) ∷ (w / 2 ^ 8 % 2 ^ 8) ∷ (w % 2 ^ 8) ∷ []

abbrev pub file_bytes : List ℕ → List ℕ
file_bytes words = flat_map four_bytes words
