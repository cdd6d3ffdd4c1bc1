-- The reading of a content with tokens, byte by byte, beside the content that it expands to.
use Rattle.std.proofs.Common.{◌≡◌, ◌≢◌, ℕ, zero, suc, ◌+◌, ◌-◌, ◌*◌, ◌≤◌, Bool, true, false, ◌==◌, eqb, ◌↔◌, List, [], ◌∷◌, ◌++◌, length, take, drop, Option}
use Rattle.std.proofs.Common.{Some, None, ◌<◌, get_or, add-one, drop-cons, drop_of_length-le}
use Rattle.std.proofs.Common.{refl, sym, ap, subst, ◌∙◌, arith, length-append, length-drop}
use Rattle.std.specs.Prelude.{option_map, slice_get, unwrap_or}
use Rattle.std.specs.Cmp.Lexicographic.{pointwise}
use Rattle.std.proofs.lemmas.Bool.{eqb-true}
use Rattle.std.proofs.lemmas.Bool.Decides.{Decides-eqb}
use Rattle.std.proofs.lemmas.List.{drop-drop}
use Rattle.std.proofs.lemmas.Slice.Eq.{starts_is}
use Rattle.llb_model.proofs.ConstructorEqualities.{none_some}
use Rattle.llb_model.proofs.Lists.{drop_at}
use Rattle.llb_laws.specs.ContentLaws.{spelled_from}
use Rattle.llb_laws.specs.TokenLists.{Extends, IsAt}
use Rattle.llb_laws.proofs.Tokens.{literal, token}

mapped : {A B : Type 0} (f : A → B) (o : Option A) (y : B) → option_map f o ≡ Some y → (x : A) × (o ≡ Some x) × (f x ≡ y)
mapped f None y is = absurd (none_some is)
mapped f (Some x) y is = (x, refl, cc)

-- a byte that is not 255
pub not_mark : (x : ℕ) → x ≢ 255 → (x == 255) ≡ false
not_mark x other = by_test (x == 255) refl
  where
    by_test : (t : Bool) → (x == 255) ≡ t → t ≡ false
    by_test true is = absurd (other (eqb-true x 255 is))
    by_test false is = refl

dropped : (a r : List ℕ) → drop (length a) (a ++ r) ≡ r
dropped [] r = refl
dropped (x ∷ a) r = dropped a r

-- the next byte, and those after it
pub next_byte : (text : List ℕ) (i : ℕ) → i < length text → drop i text ≡ get_or text i 0 ∷ drop (i + 1) text
next_byte text i low = drop-cons text i 0 low ∙ ap (λ k. get_or text i 0 ∷ drop k text) (sym (add-one i))

none_left : {A : Type 0} (xs : List A) (i : ℕ) → slice_get xs i ≡ None → drop i xs ≡ []
none_left [] zero is = refl
none_left [] (suc i) is = refl
none_left (x ∷ xs) zero is = absurd cc
none_left (x ∷ xs) (suc i) is = none_left xs i is

-- a part is at a place if what begins there begins with it
pub at_by_rest : (content : List ℕ) (place : ℕ) (part rest : List ℕ) (r : Bool) → rest ≡ drop place content
    → r ≡ pointwise eqb part (take (length part) rest) → (r ≡ true) ↔ IsAt content place part
at_by_rest content place part rest r back value =
    let found = starts_is Decides-eqb rest part r value in
    let behind : drop (length part) rest ≡ drop (place + length part) content = ap (drop (length part)) back ∙ drop-drop (length part) place content in (
      λ yes. sym back ∙ found.0 yes ∙ ap (λ xs. part ++ xs) behind,
      λ at. found.1 (drop (place + length part) content) (back ∙ at),
    )

-- no other part is at a place
pub other_part : (content : List ℕ) (place : ℕ) (part : List ℕ) (r : Bool) → (r ≡ true) ↔ IsAt content place part → r ≡ false
    → (more : List ℕ) → drop place content ≡ part ++ more → ⊥
other_part content place part r exact refused more is =
    let rest : more ≡ drop (place + length part) content =
    sym (dropped part more) ∙ ap (drop (length part)) (sym is) ∙ drop-drop (length part) place content in
    let yes : r ≡ true = exact.1 (is ∙ ap (λ xs. part ++ xs) rest) in
    absurd cc

module _ (contents : List (List ℕ)) where
  -- what these bytes expand to, whatever content a table has past the list
  abbrev pub Expand : List ℕ → ℕ → ℕ → List ℕ → Type 0
  Expand bytes left n rest = (table : ℕ → List ℕ) → Extends table contents → spelled_from table bytes left n ≡ Some rest

  -- a table with one content for all numbers past the list
  abbrev past_is : List ℕ → ℕ → List ℕ
  past_is content n = unwrap_or (slice_get contents n) content

  extends : (content : List ℕ) → Extends (past_is content) contents
  extends content n c is = ap (λ o. unwrap_or o content) is

  -- ---- a number past the list

  abbrev Empty : ℕ → List ℕ
  Empty = past_is []

  abbrev Zero : ℕ → List ℕ
  Zero = past_is (0 ∷ [])

  part_longer : (m : ℕ) → length (Empty m) ≤ length (Zero m)
  part_longer m = by_found (slice_get contents m)
    where
      by_found : (o : Option (List ℕ)) → length (unwrap_or o []) ≤ length (unwrap_or o (0 ∷ []))
      by_found None = omega arith
      by_found (Some c) = omega arith

  -- with a longer content past the list, bytes expand to no less
  longer : (bytes : List ℕ) (left n : ℕ) (short long : List ℕ) → spelled_from Empty bytes left n ≡ Some short → spelled_from Zero bytes left n ≡ Some long
      → length short ≤ length long
  longer [] zero n short long a b = let none : [] ≡ short = cc in let size = ap length none in omega (arith, size)
  longer [] (suc left) n short long a b = absurd (none_some a)
  longer (x ∷ bytes) (suc zero) n short long a b =
      let p = mapped (λ rest. Empty (n * 256 + x) ++ rest) (spelled_from Empty bytes 0 0) short a in
      let q = mapped (λ rest. Zero (n * 256 + x) ++ rest) (spelled_from Zero bytes 0 0) long b in
      let rest = longer bytes 0 0 p.0 q.0 p.1 q.1 in
      let part = part_longer (n * 256 + x) in
      let first : length (Empty (n * 256 + x)) + length p.0 ≡ length short = sym (length-append (Empty (n * 256 + x)) p.0) ∙ ap length p.2 in
      let second : length (Zero (n * 256 + x)) + length q.0 ≡ length long = sym (length-append (Zero (n * 256 + x)) q.0) ∙ ap length q.2 in
      omega (arith, rest, part, first, second)
  longer (x ∷ bytes) (suc (suc left)) n short long a b = longer bytes (suc left) (n * 256 + x) short long a b
  longer (x ∷ bytes) zero n short long a b = by_first (x == 255) refl (longer bytes)
    where
      by_first : (t : Bool) → (x == 255) ≡ t
          → ((left n : ℕ) (short long : List ℕ) → spelled_from Empty bytes left n ≡ Some short → spelled_from Zero bytes left n ≡ Some long
          → length short ≤ length long) → length short ≤ length long
      by_first true is rest = rest 4 0 short long (sym (token Empty x n bytes is) ∙ a) (sym (token Zero x n bytes is) ∙ b)
      by_first false is rest =
          let p = mapped (λ rest. x ∷ rest) (spelled_from Empty bytes 0 0) short (sym (literal Empty x n bytes is) ∙ a) in
          let q = mapped (λ rest. x ∷ rest) (spelled_from Zero bytes 0 0) long (sym (literal Zero x n bytes is) ∙ b) in
          let less = rest 0 0 p.0 q.0 p.1 q.1 in
          let first : suc (length p.0) ≡ length short = ap length p.2 in
          let second : suc (length q.0) ≡ length long = ap length q.2 in
          omega (arith, less, first, second)

  -- ---- a byte

  -- the byte that begins a token
  pub begins_token : (x left n : ℕ) (bytes rest : List ℕ) → left ≡ 0 → x ≡ 255 → Expand (x ∷ bytes) left n rest ↔ Expand bytes 4 0 rest
  begins_token x left n bytes rest outside is = rw (outside, is) (λ e. e, λ e. e)

  -- a byte that stands for itself
  pub is_itself : (x left n place : ℕ) (bytes content : List ℕ) → left ≡ 0 → (x == 255) ≡ false → slice_get content place ≡ Some x
      → Expand (x ∷ bytes) left n (drop place content) ↔ Expand bytes 0 0 (drop (place + 1) content)
  is_itself x left n place bytes content outside plain there = rw outside (
    λ e table known.
        let p = mapped (λ rest. x ∷ rest) (spelled_from table bytes 0 0) (drop place content) (sym (literal table x n bytes plain) ∙ e table known) in
        p.1 ∙ ap some_bytes (ap (drop 1) (p.2 ∙ drop_at content place x there)),
    λ e table known.
        literal table x n bytes plain ∙ ap (option_map (λ rest. x ∷ rest)) (e table known) ∙ ap some_bytes (sym (drop_at content place x there)),
  )
    where
      some_bytes : List ℕ → Option (List ℕ)
      some_bytes xs = Some xs

  -- no byte stands for another one
  pub is_no_other : (x y left n place : ℕ) (bytes content : List ℕ) → left ≡ 0 → (x == 255) ≡ false → slice_get content place ≡ Some y → x ≢ y
      → Expand (x ∷ bytes) left n (drop place content) → ⊥
  is_no_other x y left n place bytes content outside plain there differ e =
      let at : spelled_from Empty (x ∷ bytes) 0 n ≡ Some (drop place content) =
      subst (λ k. spelled_from Empty (x ∷ bytes) k n ≡ Some (drop place content)) outside (e Empty (extends [])) in
      let p = mapped (λ rest. x ∷ rest) (spelled_from Empty bytes 0 0) (drop place content) (sym (literal Empty x n bytes plain) ∙ at) in
      let same : x ∷ p.0 ≡ y ∷ drop (place + 1) content = p.2 ∙ drop_at content place y there in
      let equal : x ≡ y = cc in
      differ equal

  pub is_past : (x left n place : ℕ) (bytes content : List ℕ) → left ≡ 0 → (x == 255) ≡ false → slice_get content place ≡ None
      → Expand (x ∷ bytes) left n (drop place content) → ⊥
  is_past x left n place bytes content outside plain there e =
      let at : spelled_from Empty (x ∷ bytes) 0 n ≡ Some (drop place content) =
      subst (λ k. spelled_from Empty (x ∷ bytes) k n ≡ Some (drop place content)) outside (e Empty (extends [])) in
      let p = mapped (λ rest. x ∷ rest) (spelled_from Empty bytes 0 0) (drop place content) (sym (literal Empty x n bytes plain) ∙ at) in
      let same : x ∷ p.0 ≡ [] = p.2 ∙ none_left content place there in
      absurd cc

  -- ---- the last byte of a token

  -- the content of the token is next
  pub has_content : (x left n place : ℕ) (bytes content part : List ℕ) → left ≡ 1 → slice_get contents (n * 256 + x) ≡ Some part
      → drop place content ≡ part ++ drop (place + length part) content
      → Expand (x ∷ bytes) left n (drop place content) ↔ Expand bytes 0 0 (drop (place + length part) content)
  has_content x left n place bytes content part last there next = rw last (
    λ e table known.
        let p = mapped (λ rest. table (n * 256 + x) ++ rest) (spelled_from table bytes 0 0) (drop place content) (e table known) in
        let same : part ++ p.0 ≡ part ++ drop (place + length part) content = ap (λ z. z ++ p.0) (sym (known (n * 256 + x) part there)) ∙ p.2 ∙ next in
        p.1 ∙ ap some_bytes (sym (dropped part p.0) ∙ ap (drop (length part)) same ∙ dropped part (drop (place + length part) content)),
    λ e table known.
        ap (option_map (λ rest. table (n * 256 + x) ++ rest)) (e table known)
        ∙ ap some_bytes (ap (λ z. z ++ drop (place + length part) content) (known (n * 256 + x) part there) ∙ sym next),
  )
    where
      some_bytes : List ℕ → Option (List ℕ)
      some_bytes xs = Some xs

  -- something else is next
  pub has_other : (x left n : ℕ) (bytes rest part : List ℕ) → left ≡ 1 → slice_get contents (n * 256 + x) ≡ Some part
      → ((more : List ℕ) → rest ≡ part ++ more → ⊥) → Expand (x ∷ bytes) left n rest → ⊥
  has_other x left n bytes rest part last there other e =
      let at : spelled_from Empty (x ∷ bytes) 1 n ≡ Some rest = subst (λ k. spelled_from Empty (x ∷ bytes) k n ≡ Some rest) last (e Empty (extends [])) in
      let p = mapped (λ rest. Empty (n * 256 + x) ++ rest) (spelled_from Empty bytes 0 0) rest at in
      other p.0 (sym p.2 ∙ ap (λ z. z ++ p.0) (extends [] (n * 256 + x) part there))

  -- the number is past the list
  pub has_none : (x left n : ℕ) (bytes rest : List ℕ) → left ≡ 1 → slice_get contents (n * 256 + x) ≡ None → Expand (x ∷ bytes) left n rest → ⊥
  has_none x left n bytes rest last none e =
      let a : spelled_from Empty (x ∷ bytes) 1 n ≡ Some rest = subst (λ k. spelled_from Empty (x ∷ bytes) k n ≡ Some rest) last (e Empty (extends [])) in
      let b : spelled_from Zero (x ∷ bytes) 1 n ≡ Some rest =
      subst (λ k. spelled_from Zero (x ∷ bytes) k n ≡ Some rest) last (e Zero (extends (0 ∷ []))) in
      let p = mapped (λ rest. Empty (n * 256 + x) ++ rest) (spelled_from Empty bytes 0 0) rest a in
      let q = mapped (λ rest. Zero (n * 256 + x) ++ rest) (spelled_from Zero bytes 0 0) rest b in
      let less = longer bytes 0 0 p.0 q.0 p.1 q.1 in
      let first : p.0 ≡ rest = ap (λ o. unwrap_or o [] ++ p.0) (sym none) ∙ p.2 in
      let second : 0 ∷ q.0 ≡ rest = ap (λ o. unwrap_or o (0 ∷ []) ++ q.0) (sym none) ∙ q.2 in
      let short = ap length first in
      let long : suc (length q.0) ≡ length rest = ap length second in
      absurd (omega (arith, less, short, long))

  -- ---- an earlier byte of a token's number, and the end

  pub goes_on : (x left n : ℕ) (bytes rest : List ℕ) → left ≢ 0 → left ≢ 1
      → Expand (x ∷ bytes) left n rest ↔ Expand bytes (left - 1) (n * 256 + x) rest
  goes_on x zero n bytes rest some more = absurd (some refl)
  goes_on x (suc zero) n bytes rest some more = absurd (more refl)
  goes_on x (suc (suc k)) n bytes rest some more = let one : suc (suc k) - 1 ≡ suc k = omega arith in rw one (λ e. e, λ e. e)

  pub at_end : (left n place : ℕ) (content : List ℕ) → place ≤ length content → Expand [] left n (drop place content) ↔ ((left ≡ 0) × (place ≡ length content))
  at_end left n place content within = (λ e. from left (e Empty (extends [])), to left)
    where
      from : (k : ℕ) → spelled_from Empty [] k n ≡ Some (drop place content) → (k ≡ 0) × (place ≡ length content)
      from zero is =
          let none : [] ≡ drop place content = cc in
          let size = ap length none in
          let rest = length-drop place content in
          (refl, omega (arith, size, rest, within))
      from (suc k) is = absurd (none_some is)

      nothing : (xs : List ℕ) → length xs ≡ 0 → xs ≡ []
      nothing [] is = refl
      nothing (x ∷ xs) is = absurd (omega (arith, is))

      to : (k : ℕ) → (k ≡ 0) × (place ≡ length content) → Expand [] k n (drop place content)
      to zero is table known =
          let rest = length-drop place content in
          let none : drop place content ≡ [] = nothing (drop place content) (omega (arith, rest, is.1)) in
          ap (λ xs. some_bytes xs) (sym none)
        where
          some_bytes : List ℕ → Option (List ℕ)
          some_bytes xs = Some xs
      to (suc k) is table known = absurd (omega (arith, is.0))

  -- at the end of the bytes, both contents are read
  pub all_read : (P : Type 0) (text content : List ℕ) (i left n place : ℕ) → length text ≤ i → place ≤ length content
      → P ↔ Expand (drop i text) left n (drop place content) → P ↔ ((left ≡ 0) × (place ≡ length content))
  all_read P text content i left n place past within same =
      let none : drop i text ≡ [] = drop_of_length-le text past in
      let end = at_end left n place content within in (
        λ p. end.0 (subst (λ bytes. Expand bytes left n (drop place content)) none (same.0 p)),
        λ is. same.1 (subst (λ bytes. Expand bytes left n (drop place content)) (sym none) (end.1 is)),
      )
