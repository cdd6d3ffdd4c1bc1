-- A text with no bad place, and the text that its calls make.
use Rattle.std.proofs.Common.{◌≡◌, ℕ, suc, ◌+◌, ◌==◌, nat_lt, Bool, true, false, not, cond, ◌&&◌, List, [], ◌∷◌, ◌++◌, length, map, codes}
use Rattle.std.proofs.Common.{filter, Option, Some, None, is_some, option_map, refl, sym, ap, ◌∙◌, append_assoc, true≢false, ne_eqb, arith}
use Rattle.std.specs.List.{slice_split, onto_first, flat_map, list_all, join_with_byte, position, position_or_len, All}
use Rattle.std.specs.Option.{option_or}
use Rattle.std.specs.Cmp.Lexicographic.{bytes_decides}
use Rattle.std.proofs.lemmas.Bool.{false≢true}
use Rattle.std.proofs.lemmas.Bool.Decides.{nat_tests}
use Rattle.std.proofs.lemmas.List.{length_push}
use Rattle.std.proofs.lemmas.List.Elements.{All-cons, All-nil}
use Rattle.std.proofs.lemmas.List.Splits.{slice_split_none, slice_split_at}
use Rattle.llb_applet.specs.declared.joined_commands.Join.{Join}
use Rattle.llb_applet.specs.declared.joined_commands.Join.TheVariants.{Then, And, Or}
use Rattle.llb_applet.specs.Applets.{spells}
use Rattle.llb_applet.specs.Words.{Word, parts_of, placed, words_of, is_word, join_of, is_separator, is_word_byte, bad_in, bad_place, bad_place_of}
use Rattle.llb_applet.specs.Words.{Call, at_word, calls_from, calls_of}
use Rattle.llb_applet.specs.CallReading.{some_word}
use Rattle.llb_applet.specs.Scripts.{commands_of, commands_in, commands_unless}
use Rattle.llb_applet.specs.ScriptTextLaws.{is_plain_word, is_call, separator, after_separators, with_separators, text_of, IsShellText}
use Rattle.llb_applet.proofs.CallWordGathering.{words_in}

both : (a b : Bool) → (a && b) ≡ true → (a ≡ true) × (b ≡ true)
both true b e = (refl, e)
both false b e = absurd (false≢true e)

-- ---- the calls of a text

-- if no byte of a word is bad, words may contain each of its bytes
all_bytes : (word : List ℕ) → position (λ b. not (is_word_byte b)) word ≡ None → list_all is_word_byte word ≡ true
all_bytes word none = counted word (closed (nat_lt (position_or_len (λ b. not (is_word_byte b)) word) (length word)) _ none)
  where
    closed : (b : Bool) (n : ℕ) → cond b (Some n) None ≡ None → b ≡ false
    closed true n e = absurd cc
    closed false n e = refl

    step : (b : Bool) (n m : ℕ) (rest : Bool) → (nat_lt n m ≡ false → rest ≡ true) → nat_lt (cond (not (not b)) (1 + n) 0) (suc m) ≡ false → (b && rest) ≡ true
    step true n m rest more e = more (grind (arith, nat_tests))
    step false n m rest more e = absurd (true≢false (grind (arith, nat_tests)))

    counted : (word : List ℕ) → nat_lt (position_or_len (λ b. not (is_word_byte b)) word) (length word) ≡ false → list_all is_word_byte word ≡ true
    counted [] e = refl
    counted (b ∷ bs) e = step (is_word_byte b) (position_or_len (λ b. not (is_word_byte b)) bs) (length bs) (list_all is_word_byte bs) (counted bs) e

-- neither of two places is bad
neither : {A : Type 0} (a b : Option A) → option_or a b ≡ None → (a ≡ None) × (b ≡ None)
neither None b e = (refl, e)
neither (Some x) b e = absurd cc

no_place : (f : ℕ → ℕ) (o : Option ℕ) → option_map f o ≡ None → o ≡ None
no_place f None e = refl
no_place f (Some n) e = absurd cc

all_push : (call : List (List ℕ)) (w : List ℕ) → list_all is_plain_word call ≡ true → is_plain_word w ≡ true → list_all is_plain_word (call ++ w ∷ []) ≡ true
all_push [] w call word = (λ i. word i && true)
all_push (c ∷ cs) w call word =
    let halves = both (is_plain_word c) (list_all is_plain_word cs) call in
    let rest = all_push cs w halves.1 word in
    (λ i. halves.0 i && rest i)

-- if the text's end is no bad position, its last word belongs to a call
begun : (called : Bool) (end : ℕ) → cond {A = Option ℕ} called None (Some end) ≡ None → called ≡ true
begun true end none = refl
begun false end none = absurd cc

-- if words have no bad position, each of their calls is valid, given a current call that has only plain words
calls_are : (end : ℕ) (ws : List Word) (join : Join) (call : List (List ℕ)) → list_all is_word ws ≡ true → list_all is_plain_word call ≡ true
    → bad_place end (not (length call == 0)) ws ≡ None → list_all is_call (calls_from (map (λ (w : Word). w.bytes) ws) join call) ≡ true
calls_are end [] join call words plain none = let has = begun (not (length call == 0)) end none in (λ i. (has i && plain i) && true)
calls_are end (w ∷ ws) join call words plain none =
    let word = both (is_word w) (list_all is_word ws) words in
    let places = neither (option_map (λ k. w.place + k) (bad_in (not (length call == 0)) w.bytes)) (bad_place end (not (is_separator w.bytes)) ws) none in
    by_word (join_of w.bytes) refl (no_place (λ k. w.place + k) (bad_in (not (length call == 0)) w.bytes) places.0)
    (λ next is. calls_are end ws next [] word.1 refl (ap (λ o. bad_place end (not (is_some o)) ws) (sym is) ∙ places.1))
    (λ is bytes. calls_are end ws join (call ++ w.bytes ∷ []) word.1 (all_push call w.bytes plain (λ i. word.0 i && bytes i))
    (ap (λ b. bad_place end (not b) ws) (ne_eqb (length (call ++ w.bytes ∷ [])) 0 (omega (arith, length_push call w.bytes)))
    ∙ ap (λ o. bad_place end (not (is_some o)) ws) (sym is) ∙ places.1))
  where
    other : Option ℕ
    other = position (λ b. not (is_word_byte b)) w.bytes

    by_word : (o : Option Join) → join_of w.bytes ≡ o → bad_in (not (length call == 0)) w.bytes ≡ None
        → ((next : Join) → join_of w.bytes ≡ Some next → list_all is_call (calls_from (map (λ (w : Word). w.bytes) ws) next []) ≡ true)
        → (join_of w.bytes ≡ None → list_all is_word_byte w.bytes ≡ true
        → list_all is_call (calls_from (map (λ (w : Word). w.bytes) ws) join (call ++ w.bytes ∷ [])) ≡ true)
        → list_all is_call (at_word join call w.bytes o (λ j c. calls_from (map (λ (w : Word). w.bytes) ws) j c)) ≡ true
    by_word (Some next) is fine ends goes_on =
        let has = begun (not (length call == 0)) 0 (sym (ap (λ (o : Option Join). cond {A = Option ℕ} (is_some o)
        (cond {A = Option ℕ} (not (length call == 0)) None (Some 0)) other) is) ∙ fine) in
        let rest = ends next is in
        (λ i. (has i && plain i) && rest i)
    by_word None is fine ends goes_on =
        goes_on is (all_bytes w.bytes (sym (ap (λ (o : Option Join). cond {A = Option ℕ} (is_some o)
        (cond {A = Option ℕ} (not (length call == 0)) None (Some 0)) other) is) ∙ fine))

-- ---- the text of the calls

-- a list has a first element
abbrev HasFirst : {A : Type 0} → List A → Type 0
HasFirst [] = ⊥
HasFirst (x ∷ xs) = Unit {0}

-- the separator that is written for the join of a separator word is that word
spelled : (w : List ℕ) (next : Join) → join_of w ≡ Some next → separator next ≡ w
spelled w next = by_tests (spells (codes ";") w) (spells (codes "&&") w) (spells (codes "||") w) (bytes_decides w (codes ";")).0
    (bytes_decides w (codes "&&")).0 (bytes_decides w (codes "||")).0
  where
    by_tests : (a b c : Bool) → (a ≡ true → w ≡ codes ";") → (b ≡ true → w ≡ codes "&&") → (c ≡ true → w ≡ codes "||")
        → cond a (Some Then) (cond b (Some And) (cond c (Some Or) None)) ≡ Some next → separator next ≡ w
    by_tests true b c semicolon and or is = let same : Then ≡ next = cc in ap separator (sym same) ∙ sym (semicolon refl)
    by_tests false true c semicolon and or is = let same : And ≡ next = cc in ap separator (sym same) ∙ sym (and refl)
    by_tests false false true semicolon and or is = let same : Or ≡ next = cc in ap separator (sym same) ∙ sym (or refl)
    by_tests false false false semicolon and or is = absurd cc

-- the words of the calls, with the separators before them, are the words
after_again : (ws : List (List ℕ)) (join : Join) (call : List (List ℕ)) → after_separators (calls_from ws join call) ≡ separator join ∷ (call ++ ws)
after_again [] join call = refl
after_again (w ∷ ws) join call = by_word (join_of w) refl (λ next. after_again ws next []) (after_again ws join (call ++ w ∷ []))
  where
    by_word : (o : Option Join) → join_of w ≡ o → ((next : Join) → after_separators (calls_from ws next []) ≡ separator next ∷ ws)
        → after_separators (calls_from ws join (call ++ w ∷ [])) ≡ separator join ∷ ((call ++ w ∷ []) ++ ws)
        → after_separators (at_word join call w o (λ j c. calls_from ws j c)) ≡ separator join ∷ (call ++ w ∷ ws)
    by_word (Some next) is ends goes_on = ap (λ r. separator join ∷ (call ++ r)) (ends next ∙ ap (λ s. s ∷ ws) (spelled w next is))
    by_word None is ends goes_on = goes_on ∙ ap (λ r. separator join ∷ r) (append_assoc call (w ∷ []) ws)

joined_again : (ws : List (List ℕ)) → with_separators (calls_from ws Then []) ≡ ws
joined_again ws = without_first (calls_from ws Then []) (after_again ws Then [])
  where
    without_first : (calls : List Call) → after_separators calls ≡ separator Then ∷ ws → with_separators calls ≡ ws
    without_first [] is = absurd cc
    without_first (c ∷ cs) is = cc

abbrev lacks : List ℕ → Bool
lacks word = list_all (λ b. not (b == 32)) word

abbrev has_byte : List ℕ → Bool
has_byte word = not (length word == 0)

parts_lack : (text : List ℕ) → list_all lacks (slice_split (λ b. b == 32) text) ≡ true
parts_lack [] = refl
parts_lack (b ∷ bs) = step (b == 32) refl (slice_split (λ b. b == 32) bs) (parts_lack bs)
  where
    step : (yes : Bool) → (b == 32) ≡ yes → (parts : List (List ℕ)) → list_all lacks parts ≡ true
        → list_all lacks (cond yes ([] ∷ parts) (onto_first b parts)) ≡ true
    step true is parts e = e
    step false is [] e = (λ i. (not (is i) && true) && true)
    step false is (p ∷ ps) e = let halves = both (lacks p) (list_all lacks ps) e in (λ i. (not (is i) && halves.0 i) && halves.1 i)

words_lack : (parts : List (List ℕ)) → list_all lacks parts ≡ true → list_all lacks (flat_map some_word parts) ≡ true
words_lack [] e = refl
words_lack (p ∷ ps) e = let halves = both (lacks p) (list_all lacks ps) e in step (length p == 0) halves.0 (words_lack ps halves.1)
  where
    step : (none : Bool) → lacks p ≡ true → list_all lacks (flat_map some_word ps) ≡ true
        → list_all lacks (cond none [] (p ∷ []) ++ flat_map some_word ps) ≡ true
    step true one rest = rest
    step false one rest = (λ i. one i && rest i)

words_have : (parts : List (List ℕ)) → list_all has_byte (flat_map some_word parts) ≡ true
words_have [] = refl
words_have (p ∷ ps) = step (length p == 0) refl (words_have ps)
  where
    step : (none : Bool) → (length p == 0) ≡ none → list_all has_byte (flat_map some_word ps) ≡ true
        → list_all has_byte (cond none [] (p ∷ []) ++ flat_map some_word ps) ≡ true
    step true is rest = rest
    step false is rest = (λ i. not (is i) && rest i)

words_stay : (ws : List (List ℕ)) → list_all has_byte ws ≡ true → flat_map some_word ws ≡ ws
words_stay [] e = refl
words_stay (w ∷ ws) e = let halves = both (has_byte w) (list_all has_byte ws) e in step (length w == 0) refl halves.0 (words_stay ws halves.1)
  where
    step : (none : Bool) → (length w == 0) ≡ none → has_byte w ≡ true → flat_map some_word ws ≡ ws → cond none [] (w ∷ []) ++ flat_map some_word ws ≡ w ∷ ws
    step true is some rest = absurd (false≢true (sym (ap not is) ∙ some))
    step false is some rest = ap (λ r. w ∷ r) rest

none_of : (word : List ℕ) → lacks word ≡ true → All (λ b. (b == 32) ≡ false) word
none_of [] e = All-nil (λ b. (b == 32) ≡ false)
none_of (b ∷ bs) e = let halves = both (not (b == 32)) (lacks bs) e in All-cons (λ b. (b == 32) ≡ false) b bs (other (b == 32) halves.0) (none_of bs halves.1)
  where
    other : (yes : Bool) → not yes ≡ true → yes ≡ false
    other true e = absurd (false≢true e)
    other false e = refl

join_parts : (ws : List (List ℕ)) → HasFirst ws → list_all lacks ws ≡ true → slice_split (λ b. b == 32) (join_with_byte 32 ws) ≡ ws
join_parts [] some e = absurd some
join_parts (x ∷ []) some e = slice_split_none (λ b. b == 32) x (none_of x (both (lacks x) true e).0)
join_parts (x ∷ y ∷ xs) some e =
    let halves = both (lacks x) (list_all lacks (y ∷ xs)) e in
    slice_split_at (λ b. b == 32) x 32 (join_with_byte 32 (y ∷ xs)) (none_of x halves.0) refl
    ∙ ap (λ r. x ∷ r) (join_parts (y ∷ xs) tt halves.1)

-- whether words have a bad position depends on their bytes alone; their positions decide only where it is
none_again :
    (end last : ℕ) (called : Bool) (ws vs : List Word) → map (λ (w : Word). w.bytes) ws ≡ map (λ (w : Word). w.bytes) vs
    → bad_place end called ws ≡ None → bad_place last called vs ≡ None
none_again end last true [] [] same none = refl
none_again end last false [] [] same none = absurd cc
none_again end last called [] (v ∷ vs) same none = absurd cc
none_again end last called (w ∷ ws) [] same none = absurd cc
none_again end last called (w ∷ ws) (v ∷ vs) same none =
    let bytes : w.bytes ≡ v.bytes = cc in
    let rest : map (λ (w : Word). w.bytes) ws ≡ map (λ (w : Word). w.bytes) vs = cc in
    let places = neither (option_map (λ k. w.place + k) (bad_in called w.bytes)) (bad_place end (not (is_separator w.bytes)) ws) none in
    let here : bad_in called v.bytes ≡ None = ap (bad_in called) (sym bytes) ∙ no_place (λ k. w.place + k) (bad_in called w.bytes) places.0 in
    let later : bad_place last (not (is_separator v.bytes)) vs ≡ None = none_again end last (not (is_separator v.bytes)) ws vs rest
    (ap (λ b. bad_place end (not (is_separator b)) ws) (sym bytes) ∙ places.1) in
    (λ i. option_or (option_map (λ k. v.place + k) (here i)) (later i))

filtered : (ws : List Word) → list_all is_word (filter is_word ws) ≡ true
filtered [] = refl
filtered (w ∷ ws) = step (is_word w) refl (filtered ws)
  where
    step : (b : Bool) → is_word w ≡ b → list_all is_word (filter is_word ws) ≡ true
        → list_all is_word (cond b (w ∷ filter is_word ws) (filter is_word ws)) ≡ true
    step true is rest = (λ i. is i && rest i)
    step false is rest = rest

has_words : (end : ℕ) (ws : List Word) (bytes : List (List ℕ)) → map (λ (w : Word). w.bytes) ws ≡ bytes → bad_place end false ws ≡ None → HasFirst bytes
has_words end [] bytes is none = absurd cc
has_words end (w ∷ ws) [] is none = absurd cc
has_words end (w ∷ ws) (b ∷ bs) is none = tt

pub reads_again : (text : List ℕ) → bad_place_of text ≡ None → IsShellText text
reads_again text none =
    let words = flat_map some_word (parts_of text) in
    let are : map (λ (w : Word). w.bytes) (words_of text) ≡ words = words_in 0 (parts_of text) in
    let some = has_words (length text) (words_of text) words are none in
    let printed = join_with_byte 32 words in
    let prints : text_of (calls_of text) ≡ printed = ap (λ ws. join_with_byte 32 (with_separators (calls_from ws Then []))) are
    ∙ ap (join_with_byte 32) (joined_again words) in
    let parts : parts_of printed ≡ words = join_parts words some (words_lack (parts_of text) (parts_lack text)) in
    let same : map (λ (w : Word). w.bytes) (words_of printed) ≡ words = words_in 0 (parts_of printed) ∙ ap (flat_map some_word) parts
    ∙ words_stay words (words_have (parts_of text)) in
    let calls : calls_of printed ≡ calls_of text = ap (λ ws. calls_from ws Then []) (same ∙ sym are) in
    let fine : bad_place_of printed ≡ None = none_again (length text) (length printed) false (words_of text) (words_of printed) (are ∙ sym same) none in
    record {
      calls = calls_are (length text) (words_of text) Then [] (filtered (placed 0 (parts_of text))) refl none;
      again =
          ap commands_in prints
          ∙ ap (λ bad. commands_unless bad printed) fine
          ∙ ap (commands_of 0) calls
          ∙ ap (λ bad. commands_unless bad text) (sym none);
    }
