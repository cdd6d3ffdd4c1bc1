-- The grammar of patterns: a part is a list of items. How a text is read is in Items and Pattern; a law of the crate says
-- that a text is read as the pattern that it spells, and is refused if it spells no pattern.
use Rattle.std.specs.Prelude.{◌≡◌, ◌≢◌, ◌⊎◌, ℕ, ◌<◌, Bool, true, false, List, [], ◌∷◌, ◌++◌, length, Ok}
use Rattle.std.specs.Str.{chars}
use Rattle.llb_tree.specs.Path.{path_of}
use Rattle.llb_glob.specs.declared.class.Span.{Span}
use Rattle.llb_glob.specs.declared.item.Item.{Item}
use Rattle.llb_glob.specs.declared.item.Item.TheVariants.{Run, One}
use Rattle.llb_glob.specs.declared.item.Letter.TheVariants.{Any, Only, In}
use Rattle.llb_glob.specs.ClassValue.{ClassValue}

-- the text consists of a text with the property `First`, followed by a text with the property `Rest`
abbrev pub Then : (List ℕ → Type 0) → (List ℕ → Type 0) → List ℕ → Type 0
Then First Rest text = (front : List ℕ) × (rest : List ℕ) × (text ≡ front ++ rest) × First front × Rest rest

-- the first character of a text is c; an empty text has none
abbrev pub BeginsWith : ℕ → List ℕ → Type 0
BeginsWith c [] = ⊥
BeginsWith c (d ∷ ds) = d ≡ c

-- ---- a class

-- a text spells a character in a class: it is that character, other than `\`, `-` and `]`, or it is a `\` and that character
abbrev pub SpellsLetter : ℕ → List ℕ → Type 0
SpellsLetter c text = ((text ≡ c ∷ []) × (c ≢ 92) × (c ≢ 45) × (c ≢ 93)) ⊎ (text ≡ 92 ∷ c ∷ [])

-- a text spells an item of a class: one character, or two characters with a `-` between them
abbrev pub SpellsSpan : Span → List ℕ → Type 0
SpellsSpan span text = (SpellsLetter span.low text × (span.high ≡ span.low))
    ⊎ ((low : List ℕ) × (high : List ℕ) × (text ≡ low ++ 45 ∷ high) × SpellsLetter span.low low × SpellsLetter span.high high)

-- a text spells the items of a class, one after another
abbrev pub SpellsSpans : List Span → List ℕ → Type 0
SpellsSpans [] text = text ≡ []
SpellsSpans (span ∷ spans) text = Then (SpellsSpan span) (λ rest. SpellsSpans spans rest) text

-- a text is what a class has between its brackets: the items, with a `^` before them if the class excludes; else the first character is no `^`
abbrev pub SpellsBody : Bool → List Span → List ℕ → Type 0
SpellsBody true spans text = (items : List ℕ) × (text ≡ 94 ∷ items) × SpellsSpans spans items
SpellsBody false spans text = SpellsSpans spans text × (¬ BeginsWith 94 text)

-- a text spells a class: a `[`, what is between the brackets, with one or more items, and a `]`
abbrev pub SpellsClass : ClassValue → List ℕ → Type 0
SpellsClass class text = (body : List ℕ) × (text ≡ 91 ∷ (body ++ 93 ∷ [])) × SpellsBody class.excludes class.spans body × (0 < length class.spans)

-- ---- a part

-- c is a character that matches itself outside a class and needs no `\` before it: it is none of `[`, `*`, `?` and `\`
abbrev pub IsPlain : ℕ → Type 0
IsPlain c = (c ≢ 91) × (c ≢ 42) × (c ≢ 63) × (c ≢ 92)

-- a text spells an item of a part: a `*`, a `?`, a character that needs no `\` (`IsPlain`), a `\` and any character, or a class
abbrev pub SpellsItem : Item → List ℕ → Type 0
SpellsItem Run text = text ≡ 42 ∷ []
SpellsItem (One Any) text = text ≡ 63 ∷ []
SpellsItem (One (Only c)) text = ((text ≡ c ∷ []) × IsPlain c) ⊎ (text ≡ 92 ∷ c ∷ [])
SpellsItem (One (In class)) text = SpellsClass class text

-- a text spells the items of a part, one after another
abbrev pub Spells : List Item → List ℕ → Type 0
Spells [] text = text ≡ []
Spells (item ∷ items) text = Then (SpellsItem item) (λ rest. Spells items rest) text

-- ---- a pattern

-- there are as many names as parts, and each name spells the part at its position
abbrev pub SpellEach : List (List Item) → List (List ℕ) → Type 0
SpellEach [] [] = Unit {0}
SpellEach [] (name ∷ names) = ⊥
SpellEach (part ∷ parts) [] = ⊥
SpellEach (part ∷ parts) (name ∷ names) = Spells part (chars name) × SpellEach parts names

-- a text spells a pattern if it reads as a path whose names spell the parts
abbrev pub SpellsPattern : List (List Item) → List ℕ → Type 0
SpellsPattern parts text = (names : List (List ℕ)) × (path_of text ≡ Ok names) × SpellEach parts names
