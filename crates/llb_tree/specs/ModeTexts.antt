-- Modes as they are written: one to four octal digits.
use Rattle.std.specs.Prelude.{ℕ, ◌+◌, ◌-◌, ◌*◌, nat_le, Bool, ◌&&◌, if◌then◌else◌, List, length, fold, Option, Some, None}
use Rattle.std.specs.List.{list_all}

-- whether a byte is one of the digits `0` to `7`
abbrev pub is_octal_digit : ℕ → Bool
is_octal_digit b = nat_le 48 b && nat_le b 55

-- the number that octal digits spell
abbrev pub octal : List ℕ → ℕ
octal digits = fold (λ n b. 8 * n + (b - 48)) 0 digits

-- the mode that a word of one to four octal digits spells, at most 4095; any other word spells no mode
abbrev pub mode_of : List ℕ → Option ℕ
mode_of word = if nat_le 1 (length word) && nat_le (length word) 4 && list_all is_octal_digit word then Some (octal word) else None
