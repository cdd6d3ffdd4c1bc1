-- One more copied child.
use Rattle.std.proofs.Common.{◌≡◌, ℕ, zero, suc, ◌+◌, ◌<◌, List, [], ◌∷◌, ◌++◌, length, map, take, get_or, refl, sym, ap, ◌∙◌, arith, add-one}
use Rattle.std.proofs.lemmas.List.{map-append}
use Rattle.llb_tree.specs.Nodes.{pair_of}
use Rattle.llb_tree.specs.declared.node.Child.{Child}

take_more : (ks : List Child) (i : ℕ) (d : Child) → i < length ks → take i (map pair_of ks) ++ pair_of (get_or ks i d) ∷ [] ≡ take (suc i) (map pair_of ks)
take_more [] i d h = absurd (omega arith)
take_more (k ∷ ks) zero d h = refl
take_more (k ∷ ks) (suc i) d h = ap (λ es. pair_of k ∷ es) (take_more ks i d (omega arith))

-- pushing a copy of the next child after copies of the first i makes copies of the first i + 1
pub map_pushed : (ks old new : List Child) (i : ℕ) (made kid : Child) → map pair_of old ≡ take i (map pair_of ks) → new ≡ old ++ made ∷ []
    → kid ≡ get_or ks i kid → pair_of made ≡ pair_of kid → i < length ks → map pair_of new ≡ take (i + 1) (map pair_of ks)
map_pushed ks old new i made kid so_far pushed is same h =
    ap (map pair_of) pushed ∙ map-append pair_of old (made ∷ []) ∙ ap (λ es. es ++ pair_of made ∷ []) so_far
    ∙ ap (λ e. take i (map pair_of ks) ++ e ∷ []) (same ∙ ap pair_of is) ∙ take_more ks i kid h ∙ ap (λ j. take j (map pair_of ks)) (sym (add-one i))
