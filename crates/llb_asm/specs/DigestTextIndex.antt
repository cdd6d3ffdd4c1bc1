-- The index in which the code looks up digest texts.
use Rattle.std.specs.Prelude.{◌≡◌, ℕ, List, String}
use Rattle.std.specs.BTreeMap.{BTreeMap, get_by_text}
use Rattle.llb_asm.specs.DisassembledText.{label_for}

-- the code's index has each digest text of the list with the first position of this text in the list, and has no other texts
abbrev pub IsIndex : {Y : Type 0} → List (List ℕ) → BTreeMap (String Y) ℕ → Type 0
IsIndex labels first = (digest : List ℕ) → get_by_text first digest ≡ label_for labels digest
