-- What is counted while the text of a pattern is checked without allocating.
use Rattle.std.specs.Prelude.{◌≡◌, ℕ, Bool, true, false, List, length, Result, Ok, Err, is_ok}
use Rattle.std.specs.List.{prefix_len}
use Rattle.std.specs.Str.{chars}
use Rattle.llb_tree.specs.declared.fault.TreeFault.{TreeFault}
use Rattle.llb_glob.specs.ItemReading.{items_of}
use Rattle.llb_glob.specs.declared.pattern.Walk.{Walk}

-- whether a name spells a part of a pattern
abbrev pub is_part : List ℕ → Bool
is_part name = is_ok (items_of (chars name))

-- the counts are right for a path: how many names it has, and how many names are before the first name that spells no part of a pattern
pub record Stands (path : List (List ℕ)) (walk : Walk) : Type 0 where
  pub depth : walk.depth ≡ length path
  pub sound : walk.sound ≡ prefix_len is_part path

-- one more part of a text is accepted (true) exactly if `enter` of `llb_tree` makes a path with it; the counts in `walk` are then right for this path
abbrev pub Enters : Result (List (List ℕ)) TreeFault → Bool → Walk → Type 0
Enters (Ok path) true walk = Stands path walk
Enters (Ok path) false walk = ⊥
Enters (Err e) true walk = ⊥
Enters (Err e) false walk = Unit {0}
