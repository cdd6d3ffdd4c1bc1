-- The pattern that a text reads as: the text is split as the text of a path is, and each part is then read as items. A part
-- that a later `..` removes has to be a name, but is not a part of the pattern.
use Rattle.std.specs.Prelude.{ℕ, List, [], ◌∷◌, Result, Ok, Err}
use Rattle.std.specs.Str.{chars}
use Rattle.llb_wire.specs.CallResults.{◌>>=◌}
use Rattle.llb_tree.specs.Path.{path_of}
use Rattle.llb_tree.specs.declared.fault.TreeFault.{TreeFault}
use Rattle.llb_glob.specs.declared.fault.PatternFault.{PatternFault}
use Rattle.llb_glob.specs.declared.fault.PatternFault.TheVariants.{BadPattern}
use Rattle.llb_glob.specs.declared.item.Item.{Item}
use Rattle.llb_glob.specs.ItemReading.{items_of}

-- the parts of a pattern: each of these names, which a path's text was cut into, read as items; or the first fault
abbrev pub each_cut : List (List ℕ) → Result (List (List Item)) PatternFault
each_cut [] = Ok []
each_cut (name ∷ names) = items_of (chars name) >>= λ part. each_cut names >>= λ parts. Ok (part ∷ parts)

-- the pattern whose parts are the names of a path, each read as items; the fault `BadPattern` if the text was no path
abbrev pub cut_path : Result (List (List ℕ)) TreeFault → Result (List (List Item)) PatternFault
cut_path (Ok names) = each_cut names
cut_path (Err e) = Err BadPattern

-- the pattern that a text reads as, or the fault `BadPattern`
abbrev pub pattern_of : List ℕ → Result (List (List Item)) PatternFault
pattern_of text = cut_path (path_of text)
