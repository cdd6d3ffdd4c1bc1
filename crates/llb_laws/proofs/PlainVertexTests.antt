-- Tests of lists for all items, by places; and the list of which vertices are plain, item by item.
use Rattle.std.proofs.Common.{◌≡◌, ℕ, zero, suc, ◌+◌, ◌<◌, Bool, true, false, ◌&&◌, List, [], ◌∷◌, ◌++◌, length, get_or, take, Some, refl, sym, ap, ◌∙◌, arith}
use Rattle.std.specs.Prelude.{slice_get}
use Rattle.std.specs.List.{list_all}
use Rattle.std.proofs.lemmas.List.{take_more}
use Rattle.std.proofs.lemmas.Option.{get_or_from_slice_get}
use Rattle.llb_loader.specs.declared.graph.Vertex.{Vertex}
use Rattle.llb_model.specs.ListsFromEarlierItems.{by_number}
use Rattle.llb_model.specs.Outcome.{next_plain}
use Rattle.llb_model.proofs.ItemsFromEarlierItems.{by_number_is, by_number_length}
use Rattle.llb_model.proofs.Lists.{got_within}

and_false : (b : Bool) → (b && false) ≡ false
and_false true = refl
and_false false = refl

-- a test fails for a list if it fails at a place
pub all_false : {X : Type 0} (p : X → Bool) (xs : List X) (i : ℕ) (d : X) → i < length xs → p (get_or xs i d) ≡ false → list_all p xs ≡ false
all_false p [] i d l e = absurd (omega (arith, l))
all_false p (x ∷ xs) zero d l e = ap (λ b. b && list_all p xs) e
all_false p (x ∷ xs) (suc i) d l e = ap (λ b. p x && b) (all_false p xs i d (omega (arith, l)) e) ∙ and_false (p x)

-- a list passes a test of all its items if each place passes it
pub all_true : {X : Type 0} (p : X → Bool) (xs : List X) (d : X) → ((i : ℕ) → i < length xs → p (get_or xs i d) ≡ true) → list_all p xs ≡ true
all_true p [] d each = refl
all_true p (x ∷ xs) d each =
    let first : p x ≡ true = each 0 (omega arith) in
    ap (λ b. b && list_all p xs) first ∙ all_true p xs d (λ i l. each (suc i) (omega (arith, l)))

-- the next item of the list of which vertices are plain
pub one_plain_more : (vs : List Vertex) (n : ℕ) (x : Vertex) (plains so_far longer : List Bool) (plain : Bool) → slice_get vs n ≡ Some x
    → plains ≡ take n (by_number next_plain [] vs) → so_far ≡ plains → plain ≡ next_plain so_far x → longer ≡ plains ++ plain ∷ []
    → longer ≡ take (n + 1) (by_number next_plain [] vs)
one_plain_more vs n x plains so_far longer plain there is a next z =
    let all = by_number next_plain [] vs in
    let low = got_within vs n x there in
    let count = by_number_length next_plain vs in
    let item : get_or all n plain ≡ plain =
    get_or_from_slice_get all n (next_plain (take n all) x) plain (by_number_is next_plain vs n x there)
    ∙ ap (λ ps. next_plain ps x) (sym is ∙ sym a) ∙ sym next in
    let back : plain ≡ get_or all n plain = sym item in
    z ∙ (λ i. is i ++ back i ∷ []) ∙ sym (take_more all n plain (omega (arith, low, count)))
