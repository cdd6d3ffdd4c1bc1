-- Cutting characters into items and names into parts, one at a time.
use Rattle.std.proofs.Common.{◌≡◌, ℕ, suc, ◌+◌, ◌<◌, ◌≤◌, Bool, true, false, List, [], ◌∷◌, ◌++◌, length, drop, get_or}
use Rattle.std.proofs.Common.{option_to_list, Result, Ok, Err, is_ok, refl, sym, ap, ◌∙◌, append_assoc, add-one, drop-cons}
use Rattle.std.proofs.lemmas.List.{drop_all}
use Rattle.std.specs.Str.{chars}
use Rattle.llb_wire.specs.CallResults.{◌>>=◌}
use Rattle.llb_glob.specs.declared.fault.PatternFault.{PatternFault}
use Rattle.llb_glob.specs.declared.item.Item.{Item}
use Rattle.llb_glob.specs.declared.part_reading.Cursor.{Cursor}
use Rattle.llb_glob.specs.declared.part_reading.Effect.{Effect}
use Rattle.llb_glob.specs.ClassValue.{ClassValue}
use Rattle.llb_glob.specs.Class.{none_yet}
use Rattle.llb_glob.specs.ItemReading.{cut, item_by, class_by, behind, is_whole, ended, items_from, items_of}
use Rattle.llb_glob.specs.Pattern.{each_cut}

-- where nothing is cut yet, the result is that of what is left
pub behind_none : {A : Type 0} (rest : Result (List A) PatternFault) → behind [] rest ≡ rest
behind_none (Ok more) = refl
behind_none (Err e) = refl

behind_both : {A : Type 0} (before some : List A) (rest : Result (List A) PatternFault) → behind before (behind some rest) ≡ behind (before ++ some) rest
behind_both before some (Ok more) = ap Ok (sym (append_assoc before some more))
behind_both before some (Err e) = refl

is_ok-behind : {A : Type 0} (before : List A) (rest : Result (List A) PatternFault) → is_ok (behind before rest) ≡ is_ok rest
is_ok-behind before (Ok more) = refl
is_ok-behind before (Err e) = refl

-- the element at hand, and what follows it
pub at_drop : {A : Type 0} (xs : List A) (i : ℕ) (x : A) → i < length xs → x ≡ get_or xs i x → drop i xs ≡ x ∷ drop (i + 1) xs
at_drop xs i x inside is = rw add-one (drop-cons xs i x inside ∙ ap (λ y. y ∷ drop (suc i) xs) (sym is))

-- ---- a part

-- what a character does, and what the characters after it spell
abbrev pub and_then : List ℕ → ClassValue → Cursor × Effect → Result (List Item) PatternFault
and_then letters class next = behind (option_to_list (item_by next.1 class)) (items_from letters next.0 (class_by next.1 class))

-- whether characters can be cut does not depend on the class at hand
is_ok-class :
    (letters : List ℕ) (cursor : Cursor) (class other : ClassValue)
    → is_ok (items_from letters cursor class) ≡ is_ok (items_from letters cursor other)
is_ok-class [] cursor class other = refl
is_ok-class (c ∷ letters) cursor class other = then (is_ok-class letters) (cut cursor c)
  where
    then :
        ((cursor : Cursor) (class other : ClassValue) → is_ok (items_from letters cursor class) ≡ is_ok (items_from letters cursor other))
        → (r : Result (Cursor × Effect) PatternFault)
        → is_ok (r >>= and_then letters class) ≡ is_ok (r >>= and_then letters other)
    then rest (Err e) = refl
    then rest (Ok next) =
        is_ok-behind (option_to_list (item_by next.1 class)) _
        ∙ rest next.0 (class_by next.1 class) (class_by next.1 other)
        ∙ sym (is_ok-behind (option_to_list (item_by next.1 other)) _)

module _ (cursor : Cursor) (letters : List ℕ) (i c : ℕ) (inside : i < length letters) (is : c ≡ get_or letters i c) where
  -- the character at hand decides
  at_letter : (r : Result (Cursor × Effect) PatternFault) → cut cursor c ≡ r
      → items_from (drop i letters) cursor none_yet ≡ (r >>= and_then (drop (i + 1) letters) none_yet)
  at_letter r says =
      ap (λ ls. items_from ls cursor none_yet) (at_drop letters i c inside is)
      ∙ ap (λ s. s >>= and_then (drop (i + 1) letters) none_yet) says

  -- the characters from it on can be cut exactly if those after it can
  pub is_more :
      (next : Cursor × Effect)
      → cut cursor c ≡ Ok next
      → (r : Bool)
      → is_ok (items_from (drop i letters) cursor none_yet) ≡ r
      → is_ok (items_from (drop (i + 1) letters) next.0 none_yet) ≡ r
  is_more next says r so_far =
      is_ok-class (drop (i + 1) letters) next.0 none_yet (class_by next.1 none_yet)
      ∙ sym (is_ok-behind (option_to_list (item_by next.1 none_yet)) _)
      ∙ ap is_ok (sym (at_letter (Ok next) says))
      ∙ so_far

  -- where the next character is refused, the characters can't be cut into items
  pub is_stopped : (e : PatternFault) → cut cursor c ≡ Err e → (r : Bool) → is_ok (items_from (drop i letters) cursor none_yet) ≡ r → false ≡ r
  is_stopped e says r so_far = ap is_ok (sym (at_letter (Err e) says)) ∙ so_far

-- no character is left
pub cut_ends :
    (cursor : Cursor) (class : ClassValue) (letters : List ℕ) (i : ℕ)
    → length letters ≤ i
    → items_from (drop i letters) cursor class ≡ ended (is_whole cursor)
cut_ends cursor class letters i past = ap (λ ls. items_from ls cursor class) (drop_all i letters past)

-- a part that ends is read exactly if it is whole
pub is_ok-ended : (b : Bool) → is_ok (ended b) ≡ b
is_ok-ended true = refl
is_ok-ended false = refl

-- ---- a pattern

module _ (names : List (List ℕ)) (i : ℕ) (name : List ℕ) (inside : i < length names) (is : name ≡ get_or names i name) where
  -- the name at hand decides
  at_name : each_cut (drop i names) ≡ (items_of (chars name) >>= λ part. behind (part ∷ []) (each_cut (drop (i + 1) names)))
  at_name =
      let here : drop i names ≡ name ∷ drop (i + 1) names = at_drop names i name inside is in
      ap each_cut here

  name_says : (r : Result (List Item) PatternFault) → items_of (chars name) ≡ r
      → each_cut (drop i names) ≡ (r >>= λ part. behind (part ∷ []) (each_cut (drop (i + 1) names)))
  name_says r says = at_name ∙ ap (λ r. r >>= λ part. behind (part ∷ []) (each_cut (drop (i + 1) names))) says

  -- the part that a name is cut into joins the parts before it, and the result is the same
  pub part_more :
      (part : List Item)
      → items_of (chars name) ≡ Ok part
      → (before : List (List Item)) (r : Result (List (List Item)) PatternFault)
      → behind before (each_cut (drop i names)) ≡ r
      → behind (before ++ part ∷ []) (each_cut (drop (i + 1) names)) ≡ r
  part_more part says before r so_far = sym (behind_both before (part ∷ []) _) ∙ ap (behind before) (sym (name_says (Ok part) says)) ∙ so_far

  -- if a name can't be cut, the whole pattern is refused, for the same cause
  pub part_stops :
      (e : PatternFault)
      → items_of (chars name) ≡ Err e
      → (before : List (List Item)) (r : Result (List (List Item)) PatternFault)
      → behind before (each_cut (drop i names)) ≡ r
      → r ≡ Err e
  part_stops e says before r so_far = sym so_far ∙ ap (behind before) (name_says (Err e) says)
