-- Local trees that are copied in their order stay in it.
use Rattle.std.proofs.Common.{◌≡◌, ℕ, zero, suc, ◌+◌, ◌<◌, List, [], ◌∷◌, ◌++◌, length, map, take, drop, Some, slice_get, IfSome, refl, sym, ap, ◌∙◌}
use Rattle.std.proofs.Common.{subst, arith}
use Rattle.std.specs.Prelude.{String, string_bytes, string_eq}
use Rattle.std.specs.String.{string_eq_equiv}
use Rattle.std.specs.List.{IsDistinct}
use Rattle.std.specs.Map.{keys_of}
use Rattle.indexmap.specs.IndexMap.{insert_entry}
use Rattle.indexmap.proofs.MapLemmas.{absent_before, absent_from_lookup, insert_entry-absent}
use Rattle.llb_tree.specs.Tree.{TreeMap}
use Rattle.llb_loader.specs.LocalSources.{Local, locals_of, with_local}
use Rattle.llb_loader.proofs.LocalTreeMaps.{locals_added}

-- an entry, and those before and after it
record Split {Z : Type 0} (es : List (String Z × TreeMap)) (i : ℕ) : Type 0 where
  entry : String Z × TreeMap
  at : slice_get es i ≡ Some entry
  whole : es ≡ take i es ++ entry ∷ drop (suc i) es
  more : take (suc i) es ≡ take i es ++ entry ∷ []

split_at : {Z : Type 0} (es : List (String Z × TreeMap)) (i : ℕ) → i < length es → Split es i
split_at [] i below = absurd (omega (arith, below))
split_at (e ∷ es) zero below = record { entry = e; at = refl; whole = refl; more = refl }
split_at (e ∷ es) (suc i) below =
    let rest = split_at es i (omega (arith, below)) in
    record { entry = rest.entry; at = rest.at; whole = ap (λ xs. e ∷ xs) rest.whole; more = ap (λ xs. e ∷ xs) rest.more }

front_of : {Z : Type 0} (es : List (String Z × TreeMap)) (i : ℕ) → take i (locals_of es) ≡ locals_of (take i es)
unfolding locals_of
front_of [] zero = refl
front_of [] (suc i) = refl
front_of (e ∷ es) zero = refl
front_of (e ∷ es) (suc i) = ap (λ ls. (string_bytes e.0, e.1) ∷ ls) (front_of es i)

-- one more local is copied: since the names of a map differ, it comes after those that are copied already
pub local_copied : {Z : Type 0} (es : List (String Z × TreeMap)) (new : List Local) (i : ℕ) → i < length es → IsDistinct string_eq (keys_of es)
    → IfSome (slice_get es i) (λ e. new ≡ with_local (take i (locals_of es)) (string_bytes e.0) e.1) → new ≡ take (i + 1) (locals_of es)
local_copied {Z} es new i below distinct put =
    let s = split_at es i below in
    let e : String Z × TreeMap = s.entry in
    let is = subst (λ o. IfSome o (λ e. new ≡ with_local (take i (locals_of es)) (string_bytes e.0) e.1)) s.at put in
    let none = absent_before string_eq_equiv (take i es) (drop (suc i) es) e (subst (λ (xs : List (String Z
    × TreeMap)). IsDistinct string_eq (keys_of xs)) s.whole distinct) in
    let next : suc i ≡ i + 1 = omega arith in
    is
    ∙ ap (λ ls. with_local ls (string_bytes e.0) e.1) (front_of es i)
    ∙ sym (locals_added (take i es) e.0 e.1)
    ∙ ap locals_of (insert_entry-absent string_eq e.0 e.1 (take i es) (absent_from_lookup (string_eq e.0) (take i es) none))
    ∙ ap locals_of (sym s.more)
    ∙ sym (front_of es (suc i))
    ∙ ap (λ n. take n (locals_of es)) next

-- each entry of a map of trees is one local
pub all_named : {Z : Type 0} (es : List (String Z × TreeMap)) → length (locals_of es) ≡ length es
unfolding locals_of
all_named [] = refl
all_named (e ∷ es) = omega (arith, all_named es)
