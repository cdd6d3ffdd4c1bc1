-- The lines of a text that are read as items: those that are neither empty nor comments.
use Rattle.std.specs.Prelude.{ℕ, ◌+◌, ◌==◌, ◌&&◌, ◌||◌, not, nat_eq, Bool, true, if◌then◌else◌, List, [], ◌∷◌, reverse, filter}
use Rattle.std.specs.List.{slice_split}
use Rattle.std.specs.Str.{is_utf8}

-- whether a byte is a space, a tab or a carriage return
abbrev pub is_blank : ℕ → Bool
is_blank b = (b == 32) || (b == 9) || (b == 13)

-- a line without the blanks at its start
abbrev pub without_front : List ℕ → List ℕ
without_front [] = []
without_front (b ∷ line) = if is_blank b then without_front line else b ∷ line

-- a line without the blanks at its end
abbrev pub without_end : List ℕ → List ℕ
without_end line = reverse (without_front (reverse line))

-- a line without the blanks at its start and at its end
unfoldable pub stripped : List ℕ → List ℕ
stripped line = without_end (without_front line)

-- whether a line is empty, or is a comment, which is UTF-8 that begins with `#`
abbrev pub is_dropped : List ℕ → Bool
is_dropped [] = true
is_dropped (b ∷ line) = (b == 35) && is_utf8 (b ∷ line)

-- a line with its number
abbrev pub Line : Type 0
Line = ℕ × List ℕ

-- the lines without blanks at either end, each with its number; the first line has number n
abbrev pub numbered : ℕ → List (List ℕ) → List Line
numbered n [] = []
numbered n (line ∷ lines) = (n, stripped line) ∷ numbered (n + 1) lines

-- the lines of a text that are neither empty nor comments, without blanks at either end, each with its number in the text, counted from 1
unfoldable pub kept : List ℕ → List Line
kept text = filter (λ l. not (is_dropped l.1)) (numbered 1 (slice_split (λ b. nat_eq b 10) text))
