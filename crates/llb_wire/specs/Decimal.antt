-- The numbers that decimal digits spell.
use Rattle.std.specs.Prelude.{ℕ, ◌-◌, ◌^◌, ◌==◌, ◌&&◌, not, nat_lt, nat_le, if◌then◌else◌, Bool, List, length, Option}
use Rattle.std.specs.List.{list_all}
use Rattle.std.specs.Str.Parse.{digits_value}
use Rattle.llb_wire.specs.TextComparison.{where_so}

-- whether a byte is a decimal digit
abbrev pub is_digit : ℕ → Bool
is_digit b = nat_le 48 b && nat_le b 57

-- the number that one or more decimal digits spell; nothing for any other text
unfoldable pub magnitude : List ℕ → Option ℕ
magnitude text = where_so (not (length text == 0) && list_all is_digit text) (digits_value 10 text)

-- a number as the code keeps it in 64 bits: each number above 2^64 - 1 is kept as 2^64 - 1
abbrev pub capped : ℕ → ℕ
capped n = if nat_lt n (2 ^ 64) then n else 2 ^ 64 - 1

-- the number if it is below the limit, else nothing
abbrev pub below : ℕ → ℕ → Option ℕ
below limit n = where_so (nat_lt n limit) n
