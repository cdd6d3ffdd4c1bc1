-- How the characters of a part are read as items, once from left to right. What a character does to the part that is read (`Effect`) depends on the stage
-- of the reader, and on whether a `\` quotes the character. The grammar in PatternGrammar does not depend on this reading.
use Rattle.std.specs.Prelude.{ℕ, ◌==◌, Bool, true, false, not, ◌&&◌, if◌then◌else◌, List, [], ◌∷◌, ◌++◌, Option, Some, None, option_to_list, Result, Ok, Err}
use Rattle.llb_wire.specs.CallResults.{◌>>=◌}
use Rattle.llb_glob.specs.declared.fault.PatternFault.{PatternFault}
use Rattle.llb_glob.specs.declared.fault.PatternFault.TheVariants.{BadPattern}
use Rattle.llb_glob.specs.declared.item.Item.{Item}
use Rattle.llb_glob.specs.declared.item.Item.TheVariants.{Run, One}
use Rattle.llb_glob.specs.declared.item.Letter.TheVariants.{Any, Only, In}
use Rattle.llb_glob.specs.declared.part_reading.Stage.{Stage}
use Rattle.llb_glob.specs.declared.part_reading.Stage.TheVariants.{Outside, Opened, Caret, Single, Dash, Range}
use Rattle.llb_glob.specs.declared.part_reading.Cursor.{Cursor}
use Rattle.llb_glob.specs.declared.part_reading.Effect.{Effect}
use Rattle.llb_glob.specs.declared.part_reading.Effect.TheVariants.{Nothing, Whole, Exclude, Add, Extend, Close}
use Rattle.llb_glob.specs.ClassValue.{ClassValue}
use Rattle.llb_glob.specs.Class.{none_yet, one_alone, extended}

-- ---- what a character does to the part that is read (`Effect`), and the cursor after the character

-- the cursor (the stage of reading, and whether a `\` quotes the next character) at this stage, without such a `\`
abbrev pub at : Stage → Cursor
at stage = record { stage = stage; quotes = false }

-- the cursor at the start of a part: in no class
abbrev pub start : Cursor
start = at Outside

-- what a literal character, one that matches itself, does: it becomes an item of the part, an item of the current class, or the high end of a range
abbrev pub literal : Stage → ℕ → Cursor × Effect
literal Outside c = (at Outside, Whole (One (Only c)))
literal Opened c = (at Single, Add c)
literal Caret c = (at Single, Add c)
literal Single c = (at Single, Add c)
literal Dash c = (at Range, Extend c)
literal Range c = (at Single, Add c)

-- what a character outside a class does: `[` opens a class, `*` is any run of characters, `?` is any one character, and any other character is literal
abbrev pub outside : ℕ → Cursor × Effect
outside c =
    if c == 91 then (at Opened, Nothing)
    else (if c == 42 then (at Outside, Whole Run)
    else (if c == 63 then (at Outside, Whole (One Any)) else literal Outside c))

-- what a `]` in a class does: it closes a class that has at least one item and no open range; elsewhere it is a fault
abbrev pub closed : Stage → Result (Cursor × Effect) PatternFault
closed Outside = Err BadPattern
closed Opened = Err BadPattern
closed Caret = Err BadPattern
closed Single = Ok (at Outside, Close)
closed Dash = Err BadPattern
closed Range = Ok (at Outside, Close)

-- what a `-` in a class does: it makes the character before it the low end of a range, or is a fault if that character can't be one
abbrev pub dashed : Stage → Result (Cursor × Effect) PatternFault
dashed Outside = Err BadPattern
dashed Opened = Err BadPattern
dashed Caret = Err BadPattern
dashed Single = Ok (at Dash, Nothing)
dashed Dash = Err BadPattern
dashed Range = Err BadPattern

-- what a character in a class does: a `]` (see `closed`), a `-` (see `dashed`), or any other character, which is literal
abbrev pub inside : Stage → ℕ → Result (Cursor × Effect) PatternFault
inside stage c = if c == 93 then closed stage else (if c == 45 then dashed stage else Ok (literal stage c))

-- what a character does that is no `\` and that no `\` quotes; a `^` right after the `[` of a class makes the class exclude its items
abbrev pub plain : Stage → ℕ → Result (Cursor × Effect) PatternFault
plain Outside c = Ok (outside c)
plain Opened c = if c == 94 then Ok (at Caret, Exclude) else inside Opened c
plain Caret c = inside Caret c
plain Single c = inside Single c
plain Dash c = inside Dash c
plain Range c = inside Range c

-- what a character does, given whether a `\` quotes it: a quoted character is literal; a `\` that is not quoted quotes the next character
abbrev pub quoted : Bool → Stage → ℕ → Result (Cursor × Effect) PatternFault
quoted true stage c = Ok (literal stage c)
quoted false stage c = if c == 92 then Ok (record { stage = stage; quotes = true }, Nothing) else plain stage c

-- the reader's cursor after a character, and what the character does to the part that is read (`Effect`)
abbrev pub cut : Cursor → ℕ → Result (Cursor × Effect) PatternFault
cut cursor c = quoted cursor.quotes cursor.stage c

-- ---- what is read

-- the item of the part that a character completes, given what the character does (`Effect`); none if it completes none
abbrev pub item_by : Effect → ClassValue → Option Item
item_by Nothing class = None
item_by (Whole item) class = Some item
item_by Exclude class = None
item_by (Add c) class = None
item_by (Extend c) class = None
item_by Close class = Some (One (In class))

-- the class that is being read, after a character that does this to it (`Effect`); after a character that closes the class, a new class without items
abbrev pub class_by : Effect → ClassValue → ClassValue
class_by Nothing class = class
class_by (Whole item) class = class
class_by Exclude class = record class { excludes = true }
class_by (Add c) class = record class { spans = class.spans ++ one_alone c ∷ [] }
class_by (Extend c) class = record class { spans = extended class.spans c }
class_by Close class = none_yet

-- these items, followed by the items of a result; or the fault of that result
abbrev pub behind : {A : Type 0} → List A → Result (List A) PatternFault → Result (List A) PatternFault
behind before rest = rest >>= λ more. Ok (before ++ more)

-- whether the next character is outside of all classes, given the stage to which a part of a pattern is read
abbrev pub is_outside : Stage → Bool
is_outside Outside = true
is_outside Opened = false
is_outside Caret = false
is_outside Single = false
is_outside Dash = false
is_outside Range = false

-- whether a part may end at the cursor: in no class, and with no `\` that quotes the next character
abbrev pub is_whole : Cursor → Bool
is_whole cursor = is_outside cursor.stage && not cursor.quotes

-- the items after the last character of a part: none if the part may end there; else the fault `BadPattern`
abbrev pub ended : Bool → Result (List Item) PatternFault
ended true = Ok []
ended false = Err BadPattern

-- the items that the remaining characters of a part are read as, given the reader's cursor and the current class; or the fault
abbrev pub items_from : List ℕ → Cursor → ClassValue → Result (List Item) PatternFault
items_from [] cursor class = ended (is_whole cursor)
items_from (c ∷ cs) cursor class =
    cut cursor c >>= λ next. behind (option_to_list (item_by next.1 class)) (items_from cs next.0 (class_by next.1 class))

-- the items that the characters of a part are read as, or the fault
abbrev pub items_of : List ℕ → Result (List Item) PatternFault
items_of letters = items_from letters start none_yet
