-- The items that a part is read as are spelled by it: at each stage the rest of the text and the class at hand spell the items still to come.
use Rattle.std.proofs.Common.{◌≡◌, ◌≢◌, ◌⊎◌, ℕ, ◌≤◌, ◌==◌, Bool, true, false, cond, List, [], ◌∷◌, ◌++◌, length, option_to_list, Result, Ok, Err}
use Rattle.std.proofs.Common.{refl, sym, ap, ◌∙◌, inl, inr, subst, append_assoc, append-nil, eqb-true, arith}
use Rattle.std.proofs.lemmas.Bool.{eqb-false}
use Rattle.llb_wire.proofs.RuleComposition.{bind_ok}
use Rattle.llb_glob.specs.declared.fault.PatternFault.{PatternFault}
use Rattle.llb_glob.specs.declared.class.Span.{Span}
use Rattle.llb_glob.specs.declared.item.Item.{Item}
use Rattle.llb_glob.specs.declared.item.Item.TheVariants.{Run, One}
use Rattle.llb_glob.specs.declared.item.Letter.TheVariants.{Any, Only, In}
use Rattle.llb_glob.specs.declared.part_reading.Stage.{Stage}
use Rattle.llb_glob.specs.declared.part_reading.Stage.TheVariants.{Outside, Opened, Caret, Single, Dash, Range}
use Rattle.llb_glob.specs.declared.part_reading.Cursor.{Cursor}
use Rattle.llb_glob.specs.declared.part_reading.Effect.{Effect}
use Rattle.llb_glob.specs.declared.part_reading.Effect.TheVariants.{Nothing, Whole, Exclude}
use Rattle.llb_glob.specs.ClassValue.{ClassValue}
use Rattle.llb_glob.specs.Class.{none_yet, one_alone}
use Rattle.llb_glob.specs.ItemReading.{at, start, literal, outside, closed, dashed, inside, plain, quoted, cut, item_by, class_by, is_whole, ended, items_from}
use Rattle.llb_glob.specs.PatternGrammar.{BeginsWith, SpellsLetter, SpellsSpan, SpellsSpans, SpellsBody, SpellsItem, Spells}
use Rattle.llb_glob.proofs.ReadingCompleteness.{listed, added, reaching, with_spans, range, extended-append}

-- ---- what is left of a text, by the stage

-- the items of a class that are still to come, at least `least` of them, then its `]`, and the items after it
record Closing (least : ℕ) (class : ClassValue) (text : List ℕ) (items : List Item) : Type 0 where
  body : List ℕ
  tail : List ℕ
  spans : List Span
  after : List Item
  is : text ≡ body ++ 93 ∷ tail
  spells : SpellsSpans spans body
  enough : least ≤ length spans
  first : items ≡ One (In (with_spans class spans)) ∷ after
  others : Spells after tail

-- the high end of a range, and then the rest of the class
abbrev Reaching : ClassValue → List ℕ → List Item → Type 0
Reaching class text items = (high : ℕ) × (front : List ℕ) × (rest : List ℕ) × (text ≡ front ++ rest) × SpellsLetter high front
    × Closing 0 (reaching class high) rest items

-- what is left, at a stage
abbrev Left : Stage → ClassValue → List ℕ → List Item → Type 0
Left Outside class text items = class ≡ none_yet → Spells items text
Left Opened class text items =
    ((rest : List ℕ) × (text ≡ 94 ∷ rest) × Closing 1 (class_by Exclude class) rest items) ⊎ (Closing 1 class text items × (¬ BeginsWith 94 text))
Left Caret class text items = Closing 1 class text items
Left Single class text items = Closing 0 class text items ⊎ ((rest : List ℕ) × (text ≡ 45 ∷ rest) × Reaching class rest items)
Left Dash class text items = Reaching class text items
Left Range class text items = Closing 0 class text items

-- a `\` whose character is still to come is still left
abbrev slashed : Bool → List ℕ → List ℕ
slashed true text = 92 ∷ text
slashed false text = text

abbrev LeftAt : Cursor → ClassValue → List ℕ → List Item → Type 0
LeftAt cursor class text items = Left cursor.stage class (slashed cursor.quotes text) items

-- ---- one more item of a class

fewer : (least : ℕ) (class : ClassValue) (text : List ℕ) (items : List Item) → Closing least class text items → Closing 0 class text items
fewer least class text items c = record {
  body = c.body;
  tail = c.tail;
  spans = c.spans;
  after = c.after;
  is = c.is;
  spells = c.spells;
  enough = omega arith;
  first = c.first;
  others = c.others;
}

-- an item before those that are still to come
one_more :
    (class more : ClassValue) (span : Span) (front rest : List ℕ) (items : List Item)
    → SpellsSpan span front
    → more ≡ with_spans class (span ∷ [])
    → Closing 0 more rest items
    → Closing 1 class (front ++ rest) items
one_more class more span front rest items spells is c = record {
  body = front ++ c.body;
  tail = c.tail;
  spans = span ∷ c.spans;
  after = c.after;
  is = ap (λ t. front ++ t) c.is ∙ sym (append_assoc front c.body (93 ∷ c.tail));
  spells = (front, c.body, refl, spells, c.spells);
  enough = omega arith;
  first =
      c.first
      ∙ ap (λ (k : ClassValue). One (In (with_spans k c.spans)) ∷ c.after) is
      ∙ ap (λ all. One (In (listed class all)) ∷ c.after) (append_assoc class.spans (span ∷ []) c.spans);
  others = c.others;
}

-- a character begins an item: it is one alone, or the low end of a range
letter_first :
    (class : ClassValue) (c : ℕ) (front rest : List ℕ) (items : List Item)
    → SpellsLetter c front
    → Left Single (added class c) rest items
    → Closing 1 class (front ++ rest) items
letter_first class c front rest items letter (inl closing) =
    one_more class (added class c) (one_alone c) front rest items (inl (letter, refl)) refl closing
letter_first class c front rest items letter (inr (behind, dash, (high, second, tail, is, high_letter, closing))) =
    let more = ap (listed class) (extended-append class.spans c high) in
    let text : front ++ rest ≡ (front ++ 45 ∷ second) ++ tail
    = ap (λ t. front ++ t) (dash ∙ ap (λ t. 45 ∷ t) is) ∙ sym (append_assoc front (45 ∷ second) tail) in
    subst (λ t. Closing 1 class t items) (sym text)
    (one_more class (reaching (added class c) high) (range c high) (front ++ 45 ∷ second) tail items
    (inr (front, second, refl, letter, high_letter)) more closing)

-- a `]` closes the class
closes : (class : ClassValue) (tail : List ℕ) (items : List Item) → Spells items tail → Closing 0 class (93 ∷ tail) (One (In class) ∷ items)
closes class tail items others = record {
  body = [];
  tail = tail;
  spans = [];
  after = items;
  is = refl;
  spells = refl;
  enough = omega arith;
  first = ap (λ all. One (In (listed class all)) ∷ items) (sym (append-nil class.spans));
  others = others;
}

-- ---- a class after its `[`

begins_front : (c : ℕ) (front rest : List ℕ) → BeginsWith c front → BeginsWith c (front ++ rest)
begins_front c [] rest h = absurd h
begins_front c (d ∷ front) rest h = h

-- what is between the brackets, and everything after them
class_first :
    (excludes : Bool) (spans : List Span) (body tail : List ℕ) (items after : List Item)
    → SpellsBody excludes spans body
    → 1 ≤ length spans
    → items ≡ One (In (let k : ClassValue = record { excludes = excludes; spans = spans } in k)) ∷ after
    → Spells after tail
    → Spells items (91 ∷ (body ++ 93 ∷ tail))
class_first excludes spans body tail items after spells some is others =
    subst (λ its. Spells its (91 ∷ (body ++ 93 ∷ tail))) (sym is)
    (91 ∷ (body ++ 93 ∷ []), tail, ap (λ t. 91 ∷ t) (sym (append_assoc body (93 ∷ []) tail)), (body, refl, spells, omega arith), others)

opened_first : (text : List ℕ) (items : List Item) → Left Opened none_yet text items → Spells items (91 ∷ text)
opened_first text items (inl (rest, is, c)) =
    subst (λ t. Spells items (91 ∷ t)) (sym (is ∙ ap (λ t. 94 ∷ t) c.is))
    (class_first true c.spans (94 ∷ c.body) c.tail items c.after (c.body, refl, c.spells) c.enough c.first c.others)
opened_first text items (inr (c, caret)) =
    let no_caret = λ (h : BeginsWith 94 c.body). caret (subst (BeginsWith 94) (sym c.is) (begins_front 94 c.body (93 ∷ c.tail) h)) in
    subst (λ t. Spells items (91 ∷ t)) (sym c.is)
    (class_first false c.spans c.body c.tail items c.after (c.spells, no_caret) c.enough c.first c.others)

-- ---- a step of the reading

-- what a step leads to goes on with what is left behind it
abbrev Fits : Cursor → ClassValue → ℕ → List ℕ → Result (Cursor × Effect) PatternFault → Type 0
Fits cursor class c cs (Err e) = Unit {0}
Fits cursor class c cs (Ok next) = (items : List Item) → LeftAt next.0 (class_by next.1 class) cs items
    → LeftAt cursor class (c ∷ cs) (option_to_list (item_by next.1 class) ++ items)

fits_cond :
    (cursor : Cursor) (class : ClassValue) (c : ℕ) (cs : List ℕ) (b : Bool) (r s : Result (Cursor × Effect) PatternFault)
    → (b ≡ true → Fits cursor class c cs r)
    → (b ≡ false → Fits cursor class c cs s)
    → Fits cursor class c cs (cond b r s)
fits_cond cursor class c cs true r s first second = first refl
fits_cond cursor class c cs false r s first second = second refl

-- what spells a character that is itself, at a stage
abbrev IsItself : Stage → ℕ → List ℕ → Type 0
IsItself Outside c front = SpellsItem (One (Only c)) front
IsItself Opened c front = SpellsLetter c front × (¬ BeginsWith 94 front)
IsItself Caret c front = SpellsLetter c front
IsItself Single c front = SpellsLetter c front
IsItself Dash c front = SpellsLetter c front
IsItself Range c front = SpellsLetter c front

-- one or two characters that spell it begin as all the text does
begins_itself : (d : ℕ) (front rest : List ℕ) (c : ℕ) → SpellsLetter c front → (¬ BeginsWith d front) → ¬ BeginsWith d (front ++ rest)
begins_itself d front rest c (inl (is, slash, dash, close)) not =
    subst (λ f. ¬ BeginsWith d (f ++ rest)) (sym is) (subst (λ f. ¬ BeginsWith d f) is not)
begins_itself d front rest c (inr is) not = subst (λ f. ¬ BeginsWith d (f ++ rest)) (sym is) (subst (λ f. ¬ BeginsWith d f) is not)

literal_first :
    (stage : Stage) (class : ClassValue) (c : ℕ) (front cs : List ℕ) (items : List Item)
    → IsItself stage c front
    → LeftAt (literal stage c).0 (class_by (literal stage c).1 class) cs items
    → Left stage class (front ++ cs) (option_to_list (item_by (literal stage c).1 class) ++ items)
literal_first Outside class c front cs items itself left = λ none. (front, cs, refl, itself, left none)
literal_first Opened class c front cs items itself left =
    inr (letter_first class c front cs items itself.0 left, begins_itself 94 front cs c itself.0 itself.1)
literal_first Caret class c front cs items itself left = letter_first class c front cs items itself left
literal_first Single class c front cs items itself left = inl (fewer 1 class _ items (letter_first class c front cs items itself left))
literal_first Dash class c front cs items itself left = (c, front, cs, refl, itself, left)
literal_first Range class c front cs items itself left = fewer 1 class _ items (letter_first class c front cs items itself left)

module _ (class : ClassValue) (c : ℕ) (cs : List ℕ) where
  closed_fits : (stage : Stage) → c ≡ 93 → Fits (at stage) class c cs (closed stage)
  closed_fits Outside is = tt
  closed_fits Opened is = tt
  closed_fits Caret is = tt
  closed_fits Single is =
      λ items left. inl (subst (λ x. Closing 0 class (x ∷ cs) (One (In class) ∷ items)) (sym is) (closes class cs items (left refl)))
  closed_fits Dash is = tt
  closed_fits Range is =
      λ items left. subst (λ x. Closing 0 class (x ∷ cs) (One (In class) ∷ items)) (sym is) (closes class cs items (left refl))

  dashed_fits : (stage : Stage) → c ≡ 45 → Fits (at stage) class c cs (dashed stage)
  dashed_fits Outside is = tt
  dashed_fits Opened is = tt
  dashed_fits Caret is = tt
  dashed_fits Single is = λ items left. inr (cs, ap (λ x. x ∷ cs) is, left)
  dashed_fits Dash is = tt
  dashed_fits Range is = tt

  inside_fits : (stage : Stage) → (c ≢ 93 → c ≢ 45 → IsItself stage c (c ∷ [])) → Fits (at stage) class c cs (inside stage c)
  inside_fits stage itself =
      fits_cond (at stage) class c cs (c == 93) _ _ (λ e. closed_fits stage (eqb-true c 93 e))
      (λ close. fits_cond (at stage) class c cs (c == 45) _ _ (λ e. dashed_fits stage (eqb-true c 45 e))
      (λ dash items left. literal_first stage class c (c ∷ []) cs items (itself (eqb-false c 93 close) (eqb-false c 45 dash)) left))

  outside_fits : c ≢ 92 → Fits (at Outside) class c cs (Ok (outside c))
  outside_fits slash = by_tests (c == 91) (c == 42) (c == 63) refl refl refl
    where
      by_tests :
          (bracket star question : Bool)
          → (c == 91) ≡ bracket
          → (c == 42) ≡ star
          → (c == 63) ≡ question
          → Fits (at Outside) class c cs
          (Ok (cond bracket (at Opened, Nothing) (cond star (at Outside, Whole Run) (cond question (at Outside, Whole (One Any)) (literal Outside c)))))
      by_tests true star question is _ _ =
          λ items left none. subst (λ x. Spells items (x ∷ cs)) (sym (eqb-true c 91 is)) (opened_first cs items (subst (λ k. Left Opened k cs items) none left))
      by_tests false true question _ is _ =
          λ items left none. (c ∷ [], cs, refl, ap (λ x. x ∷ []) (eqb-true c 42 is), left none)
      by_tests false false true _ _ is =
          λ items left none. (c ∷ [], cs, refl, ap (λ x. x ∷ []) (eqb-true c 63 is), left none)
      by_tests false false false bracket star question =
          λ items left none. (c ∷ [], cs, refl, inl (refl, (eqb-false c 91 bracket, eqb-false c 42 star, eqb-false c 63 question, slash)), left none)

  plain_fits : (stage : Stage) → c ≢ 92 → Fits (at stage) class c cs (plain stage c)
  plain_fits Outside slash = outside_fits slash
  plain_fits Opened slash =
      fits_cond (at Opened) class c cs (c == 94) _ _ (λ e items left. inl (cs, ap (λ x. x ∷ cs) (eqb-true c 94 e), left))
      (λ caret. inside_fits Opened (λ close dash. (inl (refl, slash, dash, close), eqb-false c 94 caret)))
  plain_fits Caret slash = inside_fits Caret (λ close dash. inl (refl, slash, dash, close))
  plain_fits Single slash = inside_fits Single (λ close dash. inl (refl, slash, dash, close))
  plain_fits Dash slash = inside_fits Dash (λ close dash. inl (refl, slash, dash, close))
  plain_fits Range slash = inside_fits Range (λ close dash. inl (refl, slash, dash, close))

  after_slash : (stage : Stage) → IsItself stage c (92 ∷ c ∷ [])
  after_slash Outside = inr refl
  after_slash Opened = (inr refl, λ e. omega arith)
  after_slash Caret = inr refl
  after_slash Single = inr refl
  after_slash Dash = inr refl
  after_slash Range = inr refl

  cut_fits : (quotes : Bool) (stage : Stage) → let cursor : Cursor = record { stage = stage; quotes = quotes } in Fits cursor class c cs (quoted quotes stage c)
  cut_fits true stage = λ items left. literal_first stage class c (92 ∷ c ∷ []) cs items (after_slash stage) left
  cut_fits false stage =
      fits_cond (at stage) class c cs (c == 92) _ _ (λ e items left. subst (λ x. Left stage class (x ∷ cs) items) (sym (eqb-true c 92 e)) left)
      (λ e. plain_fits stage (eqb-false c 92 e))

-- ---- the whole reading

-- no character is left: the part is whole
nothing_left : (quotes : Bool) (stage : Stage) (class : ClassValue) (items : List Item)
    → let cursor : Cursor = record { stage = stage; quotes = quotes } in ended (is_whole cursor) ≡ Ok items → LeftAt cursor class [] items
nothing_left false Outside class items e = λ none. subst (λ its. Spells its []) (let is : [] ≡ items = cc in is) refl
nothing_left false Opened class items e = absurd cc
nothing_left false Caret class items e = absurd cc
nothing_left false Single class items e = absurd cc
nothing_left false Dash class items e = absurd cc
nothing_left false Range class items e = absurd cc
nothing_left true Outside class items e = absurd cc
nothing_left true Opened class items e = absurd cc
nothing_left true Caret class items e = absurd cc
nothing_left true Single class items e = absurd cc
nothing_left true Dash class items e = absurd cc
nothing_left true Range class items e = absurd cc

read_is_left :
    (text : List ℕ) (cursor : Cursor) (class : ClassValue) (items : List Item)
    → items_from text cursor class ≡ Ok items
    → LeftAt cursor class text items
read_is_left [] cursor class items e = nothing_left cursor.quotes cursor.stage class items e
read_is_left (c ∷ cs) cursor class items e =
    let step = bind_ok (cut cursor c) _ items e in
    let next = step.0 in
    let rest = bind_ok (items_from cs next.0 (class_by next.1 class)) _ items step.2 in
    let fits = subst (Fits cursor class c cs) step.1 (cut_fits class c cs cursor.quotes cursor.stage) in
    let all : option_to_list (item_by next.1 class) ++ rest.0 ≡ items = let is = rest.2 in cc in
    subst (LeftAt cursor class (c ∷ cs)) all (fits rest.0 (read_is_left cs next.0 (class_by next.1 class) rest.0 rest.1))

-- what is read is spelled
pub read_is_spelled : (items : List Item) (text : List ℕ) → items_from text start none_yet ≡ Ok items → Spells items text
read_is_spelled items text e = read_is_left text start none_yet items e refl
