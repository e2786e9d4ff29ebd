-- How much the tables of a station hold.
use Rattle.std.specs.Prelude.{ℕ}

abbrev pub records_most : ℕ
records_most = 64

-- one for each path
abbrev pub owners_most : ℕ
owners_most = 256
