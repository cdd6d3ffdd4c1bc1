-- Children with the same names, and pieces of them.
use Rattle.std.proofs.Common.{◌≡◌, ℕ, ◌+◌, ◌≤◌, true, false, cond, List, [], ◌∷◌, ◌++◌, length, map, take, drop, get_or}
use Rattle.std.proofs.Common.{Some, is_some, refl, sym, ap, ◌∙◌}
use Rattle.std.proofs.lemmas.List.{map-append, take_all}
use Rattle.std.specs.Ordering.{eq_by_cmp}
use Rattle.llb_tree.specs.Path.{name_cmp}
use Rattle.llb_tree.specs.Nodes.{name_of, child, rows_in, kids_in}
use Rattle.llb_tree.specs.Laying.{Covers}
use Rattle.llb_tree.specs.declared.node.Child.{Child}
use Rattle.llb_tree.specs.declared.node.Piece.{Piece}

some_named : (us ks : List Child) (n : List ℕ) → map name_of us ≡ map name_of ks → is_some (child n us) ≡ is_some (child n ks)
some_named [] [] n same = refl
some_named [] (k ∷ ks) n same = absurd cc
some_named (u ∷ us) [] n same = absurd cc
some_named (u ∷ us) (k ∷ ks) n same =
    ap (λ ms. is_some (cond (eq_by_cmp name_cmp n (get_or ms 0 [])) (Some u.node) (child n us))) same
    ∙ elim (eq_by_cmp name_cmp n (name_of k)) as (λ b. is_some (cond b (Some u.node) (child n us)) ≡ is_some (cond b (Some k.node) (child n ks))) [
      | true ↦ refl
      | false ↦ some_named us ks n (ap (drop 1) same)
    ]

-- children with the same names have every name of each other
pub covers_same : (us ks : List Child) → map name_of us ≡ map name_of ks → Covers us ks
covers_same us ks same n is = some_named us ks n same ∙ is

module _ {X A : Type 0} (f : X → A) where
  -- lists that are alike up to where both end are alike
  pub alike_all : (xs ys : List X) (i : ℕ) → length xs ≤ i → length ys ≤ i → map f (take i xs) ≡ map f (take i ys) → map f xs ≡ map f ys
  alike_all xs ys i lx ly so_far =
      ap (map f) (sym (take_all i xs lx)) ∙ so_far ∙ ap (map f) (take_all i ys ly)

-- the names in a piece
abbrev pub names_in : Piece → List (List ℕ)
names_in p = map name_of (rows_in p)

abbrev one_after_another : List (List (List ℕ)) → List (List ℕ)
one_after_another [] = []
one_after_another (ns ∷ rest) = ns ++ one_after_another rest

names_of_pieces : (ps : List Piece) → map name_of (kids_in ps) ≡ one_after_another (map names_in ps)
names_of_pieces [] = refl
names_of_pieces (p ∷ ps) = map-append name_of (rows_in p) (kids_in ps) ∙ ap (λ ns. names_in p ++ ns) (names_of_pieces ps)

pub same_kids : (us ps : List Piece) → map names_in us ≡ map names_in ps → map name_of (kids_in us) ≡ map name_of (kids_in ps)
same_kids us ps same = names_of_pieces us ∙ ap one_after_another same ∙ sym (names_of_pieces ps)
