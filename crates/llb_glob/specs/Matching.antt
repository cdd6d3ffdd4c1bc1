-- When a name matches a part of a pattern, and when a path matches a pattern. A name is seen as the list of its characters.
use Rattle.std.specs.Prelude.{◌≡◌, ◌==◌, ℕ, Bool, true, false, ◌&&◌, ◌||◌, List, [], ◌∷◌, drop}
use Rattle.std.specs.Str.{chars}
use Rattle.llb_glob.specs.declared.item.Item.{Item}
use Rattle.llb_glob.specs.declared.item.Item.TheVariants.{Run, One}
use Rattle.llb_glob.specs.declared.item.Letter.{Letter}
use Rattle.llb_glob.specs.declared.item.Letter.TheVariants.{Any, Only, In}
use Rattle.llb_glob.specs.Class.{ClassTakes, class_takes}

-- a letter (the item of a pattern that matches exactly one character) matches the character c
abbrev pub Takes : Letter → ℕ → Type 0
Takes Any c = Unit {0}
Takes (Only only) c = c ≡ only
Takes (In class) c = ClassTakes class c

-- the items of a part match a name; a `*` with items after it matches a name if those items match one of the name's suffixes
abbrev pub MatchesName : List Item → List ℕ → Type 0
MatchesName [] [] = Unit {0}
MatchesName [] (c ∷ name) = ⊥
MatchesName (Run ∷ items) name = (n : ℕ) × MatchesName items (drop n name)
MatchesName (One letter ∷ items) [] = ⊥
MatchesName (One letter ∷ items) (c ∷ name) = Takes letter c × MatchesName items name

-- a path has as many names as the pattern has parts, and each part matches the name at its position
abbrev pub Matches : List (List Item) → List (List ℕ) → Type 0
Matches [] [] = Unit {0}
Matches [] (name ∷ path) = ⊥
Matches (part ∷ parts) [] = ⊥
Matches (part ∷ parts) (name ∷ path) = MatchesName part (chars name) × Matches parts path

-- whether a letter matches a character; this test and the tests below are true exactly if the relations above hold, and serve to list the paths that match
abbrev pub takes : Letter → ℕ → Bool
takes Any c = true
takes (Only only) c = c == only
takes (In class) c = class_takes class c

-- whether a list or one of its suffixes passes a test
abbrev pub any_suffix : (List ℕ → Bool) → List ℕ → Bool
any_suffix test [] = test []
any_suffix test (c ∷ cs) = test (c ∷ cs) || any_suffix test cs

-- whether items match a name
abbrev pub name_matches : List Item → List ℕ → Bool
name_matches [] [] = true
name_matches [] (c ∷ name) = false
name_matches (Run ∷ items) name = any_suffix (name_matches items) name
name_matches (One letter ∷ items) [] = false
name_matches (One letter ∷ items) (c ∷ name) = takes letter c && name_matches items name

-- whether the parts of a pattern match the names of a path, one by one
abbrev pub path_matches : List (List Item) → List (List ℕ) → Bool
path_matches [] [] = true
path_matches [] (name ∷ path) = false
path_matches (part ∷ parts) [] = false
path_matches (part ∷ parts) (name ∷ path) = name_matches part (chars name) && path_matches parts path
