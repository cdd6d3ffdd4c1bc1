-- How patterns without classes are read: each `[` has to have a `\` before it, and an item is one character, or a `\` and the character after it.
-- A law of the crate says that `pattern_of`, which also reads classes, reads such a pattern as the same items.
use Rattle.std.specs.Prelude.{ℕ, ◌==◌, if◌then◌else◌, List, [], ◌∷◌, Result, Ok, Err}
use Rattle.std.specs.Str.{chars}
use Rattle.llb_wire.specs.CallResults.{◌>>=◌}
use Rattle.llb_tree.specs.Path.{path_of}
use Rattle.llb_tree.specs.declared.fault.TreeFault.{TreeFault}
use Rattle.llb_glob.specs.declared.fault.PatternFault.{PatternFault}
use Rattle.llb_glob.specs.declared.fault.PatternFault.TheVariants.{BadPattern}
use Rattle.llb_glob.specs.declared.item.Item.{Item}
use Rattle.llb_glob.specs.declared.item.Item.TheVariants.{Run, One}
use Rattle.llb_glob.specs.declared.item.Letter.TheVariants.{Any, Only}

-- the item of a character that is no `\` and that no `\` quotes; `[` is refused
abbrev pub simple_item : ℕ → Result Item PatternFault
simple_item c =
    if c == 91 then Err BadPattern
    else (if c == 42 then Ok Run
    else (if c == 63 then Ok (One Any) else Ok (One (Only c))))

-- the items of these characters by the rules without classes: a `\` and the character after it are one item, each other character is an item; or the fault
abbrev pub simple_items : List ℕ → Result (List Item) PatternFault
simple_items [] = Ok []
simple_items (c ∷ []) = if c == 92 then Err BadPattern else (simple_item c >>= λ item. Ok (item ∷ []))
simple_items (c ∷ d ∷ cs) =
    if c == 92 then (simple_items cs >>= λ items. Ok (One (Only d) ∷ items))
    else (simple_item c >>= λ item. simple_items (d ∷ cs) >>= λ items. Ok (item ∷ items))

-- the parts of a pattern, each read as items by the rules without classes; or the fault of the first part that is refused
abbrev pub each_simple : List (List ℕ) → Result (List (List Item)) PatternFault
each_simple [] = Ok []
each_simple (name ∷ names) = simple_items (chars name) >>= λ part. each_simple names >>= λ parts. Ok (part ∷ parts)

-- the parts of a text that was read as a path, each read as items by the rules without classes; a text that is no path is no pattern
abbrev pub simple_path : Result (List (List ℕ)) TreeFault → Result (List (List Item)) PatternFault
simple_path (Ok names) = each_simple names
simple_path (Err e) = Err BadPattern

-- the pattern that a text reads as by the rules without classes; a `[` without a `\` before it is refused, except in a part that a later `..` removes
abbrev pub simple_pattern_of : List ℕ → Result (List (List Item)) PatternFault
simple_pattern_of text = simple_path (path_of text)
