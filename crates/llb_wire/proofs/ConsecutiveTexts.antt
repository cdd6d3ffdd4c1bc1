-- Laws of texts that are written one after another.
use Rattle.std.specs.Prelude.{ℕ, List, ◌++◌, Option}
use Rattle.std.specs.Io.KnownBytes.{Appends}
use Rattle.std.proofs.Common.{sym, ap, ◌∙◌, append_assoc}
use Rattle.std.proofs.KnownBytes.{Appends-trans}
use Rattle.llb_wire.specs.Sink.{PartOut}

-- if a prefix of a text was written, it is also a prefix of that text with `more` after it
pub part_then : (a b : Option (List ℕ)) (text more : List ℕ) → PartOut a b text → PartOut a b (text ++ more)
part_then a b text more (front, rest, split, out) = (front, rest ++ more, ap (λ l. l ++ more) split ∙ append_assoc front rest more, out)

-- if a text was written, and after it a prefix of `more`, then a prefix of the text with `more` after it was written
pub part_after : (a b c : Option (List ℕ)) (text more : List ℕ) → Appends a b text → PartOut b c more → PartOut a c (text ++ more)
part_after a b c text more whole (front, rest, split, out) =
    (text ++ front, rest, ap (λ l. text ++ l) split ∙ sym (append_assoc text front rest), Appends-trans a b c text front whole out)
