-- What a buffer contains after bytes are copied to its front.
use Rattle.std.specs.Prelude.{ℕ, min, List, ◌++◌, length, take, drop}

-- the buffer `old` after its first n bytes are replaced by the first n bytes of `bs`, where n is the length of the shorter list
abbrev pub copied : List ℕ → List ℕ → List ℕ
copied bs old = take (min (length bs) (length old)) bs ++ drop (min (length bs) (length old)) old
