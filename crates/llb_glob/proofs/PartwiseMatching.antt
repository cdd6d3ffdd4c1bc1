-- A path is matched with a pattern, part by part.
use Rattle.std.proofs.Common.{◌≡◌, ◌↔◌, ℕ, suc, ◌+◌, ◌<◌, List, [], ◌∷◌, length, drop, get_or, refl, ap, subst}
use Rattle.std.specs.Str.{chars}
use Rattle.llb_glob.specs.declared.item.Item.{Item}
use Rattle.llb_glob.specs.Matching.{MatchesName, Matches}
use Rattle.llb_glob.proofs.ItemsAndPartsSplitting.{at_drop}

-- a path that matches has as many names as the pattern has parts
pub same_length : (parts : List (List Item)) (path : List (List ℕ)) → Matches parts path → length path ≡ length parts
same_length [] [] m = refl
same_length [] (name ∷ path) m = absurd m
same_length (part ∷ parts) [] m = absurd m
same_length (part ∷ parts) (name ∷ path) m = ap (λ n. suc n) (same_length parts path m.1)

module _
    (parts : List (List Item)) (path : List (List ℕ)) (i : ℕ) (part : List Item) (name : List ℕ)
    (in_parts : i < length parts) (in_path : i < length path)
    (is_part : part ≡ get_or parts i part) (is_name : name ≡ get_or path i name)
    (so_far : Matches (drop i parts) (drop i path) ↔ Matches parts path)
  where
    -- the part and the name at hand, and what follows them
    at_hand : Matches (part ∷ drop (i + 1) parts) (name ∷ drop (i + 1) path) ↔ Matches parts path
    at_hand =
        let here : drop i parts ≡ part ∷ drop (i + 1) parts = at_drop parts i part in_parts is_part in
        let there : drop i path ≡ name ∷ drop (i + 1) path = at_drop path i name in_path is_name in
        subst (λ ps. Matches ps (name ∷ drop (i + 1) path) ↔ Matches parts path) here
        (subst (λ ns. Matches (drop i parts) ns ↔ Matches parts path) there so_far)

    -- the name at hand matches its part, so what follows them decides
    pub matches_more : MatchesName part (chars name) → Matches (drop (i + 1) parts) (drop (i + 1) path) ↔ Matches parts path
    matches_more m = (λ rest. at_hand.0 (m, rest), λ all. (at_hand.1 all).1)

    -- the name at hand does not match, so the whole path does not
    pub matches_not : (MatchesName part (chars name) → ⊥) → Matches parts path → ⊥
    matches_not not all = not (at_hand.1 all).0
