-- A part that is spelled is read: the reader takes what spells an item as a whole, and goes on after it.
use Rattle.std.proofs.Common.{◌≡◌, ◌≢◌, ℕ, ◌<◌, Bool, true, false, List, [], ◌∷◌, ◌++◌, length, Result, Ok}
use Rattle.std.proofs.Common.{refl, sym, ap, ◌∙◌, inl, inr, subst, append_assoc, append-nil, ne_eqb, arith}
use Rattle.std.proofs.lemmas.Bool.{cases_eq}
use Rattle.llb_wire.specs.CallResults.{◌>>=◌}
use Rattle.llb_glob.specs.declared.fault.PatternFault.{PatternFault}
use Rattle.llb_glob.specs.declared.class.Span.{Span}
use Rattle.llb_glob.specs.declared.item.Item.{Item}
use Rattle.llb_glob.specs.declared.item.Item.TheVariants.{Run, One}
use Rattle.llb_glob.specs.declared.item.Letter.TheVariants.{Any, Only, In}
use Rattle.llb_glob.specs.declared.part_reading.Stage.{Stage}
use Rattle.llb_glob.specs.declared.part_reading.Stage.TheVariants.{Outside, Opened, Caret, Single, Dash, Range}
use Rattle.llb_glob.specs.declared.part_reading.Effect.TheVariants.{Whole, Add, Extend}
use Rattle.llb_glob.specs.ClassValue.{ClassValue}
use Rattle.llb_glob.specs.Class.{none_yet, one_alone, extended}
use Rattle.llb_glob.specs.ItemReading.{at, start, cut, behind, items_from}
use Rattle.llb_glob.specs.PatternGrammar.{BeginsWith, SpellsLetter, SpellsSpan, SpellsSpans, SpellsBody, SpellsItem, Spells}
use Rattle.llb_glob.proofs.ItemsAndPartsSplitting.{and_then, behind_none}

-- ---- a class with more items

-- the class with these items
abbrev pub listed : ClassValue → List Span → ClassValue
listed class spans = record class { spans = spans }

-- the class with one more character
abbrev pub added : ClassValue → ℕ → ClassValue
added class c = record class { spans = class.spans ++ one_alone c ∷ [] }

-- the class with another high end of its last item
abbrev pub reaching : ClassValue → ℕ → ClassValue
reaching class c = record class { spans = extended class.spans c }

-- the class with more items
abbrev pub with_spans : ClassValue → List Span → ClassValue
with_spans class spans = record class { spans = class.spans ++ spans }

-- an item from one character to another
abbrev pub range : ℕ → ℕ → Span
range low high = record { low = low; high = high }

-- an item that was added last becomes a range
pub extended-append : (spans : List Span) (low high : ℕ) → extended (spans ++ one_alone low ∷ []) high ≡ spans ++ range low high ∷ []
extended-append [] low high = refl
extended-append (span ∷ []) low high = refl
extended-append (span ∷ next ∷ spans) low high = ap (λ rest. span ∷ rest) (extended-append (next ∷ spans) low high)

-- ---- a character in a class

module _ (class : ClassValue) (rest : List ℕ) where
  read_on : (stage : Stage) (c : ℕ) (r : Result _ PatternFault) → cut (at stage) c ≡ r → items_from (c ∷ rest) (at stage) class ≡ (r >>= and_then rest class)
  read_on stage c r says = ap (λ s. s >>= and_then rest class) says

  -- an item begins
  pub letter_adds : (c : ℕ) (front : List ℕ) → SpellsLetter c front → items_from (front ++ rest) (at Range) class ≡ items_from rest (at Single) (added class c)
  letter_adds c front (inl (is, slash, dash, close)) =
      ap (λ f. items_from (f ++ rest) (at Range) class) is
      ∙ read_on Range c (Ok (at Single, Add c)) (rw (ne_eqb c 92 slash, ne_eqb c 93 close, ne_eqb c 45 dash))
      ∙ behind_none _
  letter_adds c front (inr is) = ap (λ f. items_from (f ++ rest) (at Range) class) is ∙ behind_none _ ∙ behind_none _

  -- a range ends
  pub letter_extends :
      (c : ℕ) (front : List ℕ)
      → SpellsLetter c front
      → items_from (front ++ rest) (at Dash) class ≡ items_from rest (at Range) (reaching class c)
  letter_extends c front (inl (is, slash, dash, close)) =
      ap (λ f. items_from (f ++ rest) (at Dash) class) is
      ∙ read_on Dash c (Ok (at Range, Extend c)) (rw (ne_eqb c 92 slash, ne_eqb c 93 close, ne_eqb c 45 dash))
      ∙ behind_none _
  letter_extends c front (inr is) = ap (λ f. items_from (f ++ rest) (at Dash) class) is ∙ behind_none _ ∙ behind_none _

-- ---- the stages at which an item may begin

module _ (class : ClassValue) where
  slash_caret : (rest : List ℕ) → items_from (92 ∷ rest) (at Caret) class ≡ items_from (92 ∷ rest) (at Range) class
  slash_caret [] = refl
  slash_caret (d ∷ rest) = refl

  slash_opened : (rest : List ℕ) → items_from (92 ∷ rest) (at Opened) class ≡ items_from (92 ∷ rest) (at Range) class
  slash_opened [] = refl
  slash_opened (d ∷ rest) = refl

  slash_single : (rest : List ℕ) → items_from (92 ∷ rest) (at Single) class ≡ items_from (92 ∷ rest) (at Range) class
  slash_single [] = refl
  slash_single (d ∷ rest) = refl

  -- after a `^` the reading goes on as after a range, but for a `]`
  pub caret_as_range : (c : ℕ) (rest : List ℕ) → c ≢ 93 → items_from (c ∷ rest) (at Caret) class ≡ items_from (c ∷ rest) (at Range) class
  caret_as_range c rest close =
      elim (cases_eq c 92) [
        | inl is ↦ subst (λ x. items_from (x ∷ rest) (at Caret) class ≡ items_from (x ∷ rest) (at Range) class) (sym is) (slash_caret rest)
        | inr slash ↦
            let same : cut (at Caret) c ≡ cut (at Range) c = rw (ne_eqb c 92 slash, ne_eqb c 93 close) in
            ap (λ s. s >>= and_then rest class) same
      ]

  -- after a `[` too, but for a `^`
  pub opened_as_range : (c : ℕ) (rest : List ℕ) → c ≢ 93 → c ≢ 94 → items_from (c ∷ rest) (at Opened) class ≡ items_from (c ∷ rest) (at Range) class
  opened_as_range c rest close caret =
      elim (cases_eq c 92) [
        | inl is ↦ subst (λ x. items_from (x ∷ rest) (at Opened) class ≡ items_from (x ∷ rest) (at Range) class) (sym is) (slash_opened rest)
        | inr slash ↦
            let same : cut (at Opened) c ≡ cut (at Range) c = rw (ne_eqb c 92 slash, ne_eqb c 94 caret, ne_eqb c 93 close) in
            ap (λ s. s >>= and_then rest class) same
      ]

  -- after a character alone too, but for a `-`
  pub single_as_range : (text : List ℕ) → (¬ BeginsWith 45 text) → items_from text (at Single) class ≡ items_from text (at Range) class
  single_as_range [] begins = refl
  single_as_range (c ∷ rest) dash =
      elim (cases_eq c 92) [
        | inl is ↦ subst (λ x. items_from (x ∷ rest) (at Single) class ≡ items_from (x ∷ rest) (at Range) class) (sym is) (slash_single rest)
        | inr slash ↦
            let same : cut (at Single) c ≡ cut (at Range) c = rw (ne_eqb c 92 slash, ne_eqb c 45 dash) in
            ap (λ s. s >>= and_then rest class) same
      ]

-- ---- an item of a class, and all of them

-- a text that begins with a character which may begin an item
record BeginsItem (text : List ℕ) : Type 0 where
  first : ℕ
  rest : List ℕ
  is : text ≡ first ∷ rest
  close : first ≢ 93
  dash : first ≢ 45

slash_is_no_close : ◌≢◌ {A = ℕ} 92 93
slash_is_no_close e = omega arith

slash_is_no_dash : ◌≢◌ {A = ℕ} 92 45
slash_is_no_dash e = omega arith

close_is_no_dash : ◌≢◌ {A = ℕ} 93 45
close_is_no_dash e = omega arith

letter_begins : (c : ℕ) (front more : List ℕ) → SpellsLetter c front → BeginsItem (front ++ more)
letter_begins c front more (inl (is, slash, dash, close)) = record { first = c; rest = more; is = ap (λ f. f ++ more) is; close = close; dash = dash }
letter_begins c front more (inr is) = record { first = 92; rest = c ∷ more; is = ap (λ f. f ++ more) is; close = slash_is_no_close; dash = slash_is_no_dash }

span_begins : (span : Span) (front more : List ℕ) → SpellsSpan span front → BeginsItem (front ++ more)
span_begins span front more (inl (letter, alone)) = letter_begins span.low front more letter
span_begins span front more (inr (low, high, is, first, second)) =
    subst BeginsItem (sym (ap (λ f. f ++ more) is ∙ append_assoc low (45 ∷ high) more)) (letter_begins span.low low (45 ∷ high ++ more) first)

begins_no_dash : (text : List ℕ) → BeginsItem text → ¬ BeginsWith 45 text
begins_no_dash text begins = subst (λ t. ¬ BeginsWith 45 t) (sym begins.is) begins.dash

-- an item is read as a whole, if no `-` is after it
span_read :
    (class : ClassValue) (span : Span) (front rest : List ℕ)
    → SpellsSpan span front
    → (¬ BeginsWith 45 rest)
    → items_from (front ++ rest) (at Range) class ≡ items_from rest (at Range) (with_spans class (span ∷ []))
span_read class span front rest (inl (letter, alone)) dash =
    letter_adds class rest span.low front letter
    ∙ single_as_range (added class span.low) rest dash
    ∙ (λ i. items_from rest (at Range) (with_spans class (range span.low (sym alone i) ∷ [])))
span_read class span front rest (inr (low, high, is, first, second)) dash =
    ap (λ f. items_from (f ++ rest) (at Range) class) is
    ∙ ap (λ t. items_from t (at Range) class) (append_assoc low (45 ∷ high) rest)
    ∙ letter_adds class (45 ∷ high ++ rest) span.low low first
    ∙ behind_none _
    ∙ letter_extends (added class span.low) rest span.high high second
    ∙ ap (λ spans. items_from rest (at Range) (listed class spans)) (extended-append class.spans span.low span.high)

-- one or more items begin with a character that may begin an item
spans_begin : (spans : List Span) (text rest : List ℕ) → 0 < length spans → SpellsSpans spans text → BeginsItem (text ++ 93 ∷ rest)
spans_begin [] text rest some spells = absurd (omega arith)
spans_begin (span ∷ spans) text rest some (front, more, is, first, others) =
    let all : text ++ 93 ∷ rest ≡ front ++ (more ++ 93 ∷ rest) = ap (λ t. t ++ 93 ∷ rest) is ∙ append_assoc front more (93 ∷ rest) in
    subst BeginsItem (sym all) (span_begins span front (more ++ 93 ∷ rest) first)

-- after an item comes another one, or the `]`
goes_on : (spans : List Span) (text rest : List ℕ) → SpellsSpans spans text → ¬ BeginsWith 45 (text ++ 93 ∷ rest)
goes_on [] text rest is = subst (λ t. ¬ BeginsWith 45 (t ++ 93 ∷ rest)) (sym is) close_is_no_dash
goes_on (span ∷ spans) text rest spells = begins_no_dash _ (spans_begin (span ∷ spans) text rest (omega arith) spells)

-- all items of a class are read, and the `]`
spans_read :
    (spans : List Span) (class : ClassValue) (body rest : List ℕ)
    → SpellsSpans spans body
    → items_from (body ++ 93 ∷ rest) (at Range) class ≡ behind (One (In (with_spans class spans)) ∷ []) (items_from rest start none_yet)
spans_read [] class body rest is =
    ap (λ b. items_from (b ++ 93 ∷ rest) (at Range) class) is
    ∙ ap (λ all. behind (One (In (listed class all)) ∷ []) (items_from rest start none_yet)) (sym (append-nil class.spans))
spans_read (span ∷ spans) class body rest (front, more, is, first, others) =
    ap (λ b. items_from (b ++ 93 ∷ rest) (at Range) class) is
    ∙ ap (λ t. items_from t (at Range) class) (append_assoc front more (93 ∷ rest))
    ∙ span_read class span front (more ++ 93 ∷ rest) first (goes_on spans more rest others)
    ∙ spans_read spans (with_spans class (span ∷ [])) more rest others
    ∙ ap (λ all. behind (One (In (listed class all)) ∷ []) (items_from rest start none_yet)) (append_assoc class.spans (span ∷ []) spans)

-- ---- a class

-- what is between the brackets begins with the same character as the text from there on
begins_front : (c : ℕ) (front rest : List ℕ) → BeginsItem (front ++ 93 ∷ rest) → BeginsWith c (front ++ 93 ∷ rest) → BeginsWith c front
begins_front c [] rest begins h = absurd (begins.close (here begins.is))
  where
    here : 93 ∷ rest ≡ begins.first ∷ begins.rest → begins.first ≡ 93
    here e = cc
begins_front c (d ∷ front) rest begins h = h

body_read :
    (excludes : Bool) (spans : List Span) (body rest : List ℕ)
    → SpellsBody excludes spans body
    → 0 < length spans
    → items_from (body ++ 93 ∷ rest) (at Opened) none_yet
    ≡ behind (One (In (let k : ClassValue = record { excludes = excludes; spans = spans } in k)) ∷ []) (items_from rest start none_yet)
body_read true spans body rest (items, is, spells) some =
    let begins = spans_begin spans items rest some spells in
    let excluding : ClassValue = record { excludes = true; spans = [] } in
    ap (λ b. items_from (b ++ 93 ∷ rest) (at Opened) none_yet) is
    ∙ behind_none _
    ∙ ap (λ t. items_from t (at Caret) excluding) begins.is
    ∙ caret_as_range excluding begins.first begins.rest begins.close
    ∙ ap (λ t. items_from t (at Range) excluding) (sym begins.is)
    ∙ spans_read spans excluding items rest spells
body_read false spans body rest (spells, caret) some =
    let begins = spans_begin spans body rest some spells in
    let other : begins.first ≢ 94 = λ e. caret (begins_front 94 body rest begins (subst (BeginsWith 94) (sym begins.is) e)) in
    ap (λ t. items_from t (at Opened) none_yet) begins.is
    ∙ opened_as_range none_yet begins.first begins.rest begins.close other
    ∙ ap (λ t. items_from t (at Range) none_yet) (sym begins.is)
    ∙ spans_read spans none_yet body rest spells

-- ---- an item of a part, and all of them

item_read :
    (item : Item) (front rest : List ℕ)
    → SpellsItem item front
    → items_from (front ++ rest) start none_yet ≡ behind (item ∷ []) (items_from rest start none_yet)
item_read Run front rest is = ap (λ f. items_from (f ++ rest) start none_yet) is
item_read (One Any) front rest is = ap (λ f. items_from (f ++ rest) start none_yet) is
item_read (One (Only c)) front rest (inl (is, (bracket, star, question, slash))) =
    ap (λ f. items_from (f ++ rest) start none_yet) is
    ∙ read_on none_yet rest Outside c (Ok (at Outside, Whole (One (Only c))))
    (rw (ne_eqb c 92 slash, ne_eqb c 91 bracket, ne_eqb c 42 star, ne_eqb c 63 question))
item_read (One (Only c)) front rest (inr is) = ap (λ f. items_from (f ++ rest) start none_yet) is ∙ behind_none _
item_read (One (In class)) front rest (body, is, spells, some) =
    ap (λ f. items_from (f ++ rest) start none_yet) is
    ∙ behind_none _
    ∙ ap (λ t. items_from t (at Opened) none_yet) (append_assoc body (93 ∷ []) rest)
    ∙ body_read class.excludes class.spans body rest spells some

-- what is spelled is read
pub spelled_is_read : (items : List Item) (text : List ℕ) → Spells items text → items_from text start none_yet ≡ Ok items
spelled_is_read [] text is = ap (λ t. items_from t start none_yet) is
spelled_is_read (item ∷ items) text (front, rest, is, first, others) =
    ap (λ t. items_from t start none_yet) is ∙ item_read item front rest first ∙ ap (behind (item ∷ [])) (spelled_is_read items rest others)
