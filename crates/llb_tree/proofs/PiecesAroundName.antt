-- The children of a directory in pieces: what is before and after the piece that a name belongs to, and what a change in that
-- piece makes of all of them.
use Rattle.std.proofs.Common.{◌≡◌, ℕ, zero, suc, ◌+◌, ◌<◌, List, [], ◌∷◌, ◌++◌, length, get_or, set, map, take, drop, Option}
use Rattle.std.proofs.Common.{true, false, refl, sym, ap, subst, ◌∙◌, arith, append_assoc, add-one}
use Rattle.std.proofs.Common.{take-append-drop, length-drop}
use Rattle.std.proofs.lemmas.List.{map-append, length-take, length-map}
use Rattle.std.specs.List.{insert, remove}
use Rattle.std.specs.FinMap.Entries.{find}
use Rattle.llb_tree.specs.Path.{name_cmp}
use Rattle.llb_tree.specs.Tree.{TreeMap}
use Rattle.llb_tree.specs.Nodes.{Pairs, pair_of, rows_in, kids_in, AreSorted, child, look_in, set_look}
use Rattle.llb_tree.specs.ChildPieces.{row_pairs, joined, pairs_of, AllFull, IsPieced, ArePieced, begins_after, IsPieceOf, tidied, tidied_by, change, Changes}
use Rattle.llb_tree.specs.declared.node.Child.{Child}
use Rattle.llb_tree.specs.declared.node.Piece.{Piece}
use Rattle.llb_tree.proofs.ChildrenAroundName.{InOrder, AllUnder, AllOver, sorted_left, sorted_right, under_before, over_after, find_under, find_within}
use Rattle.llb_tree.proofs.ChildrenAroundName.{change_under, change_within}

-- ---- pieces of children, and their pairs

-- the pairs of the children in pieces are those of the pieces, one after another
pub pairs_kids : (ps : List Piece) → map pair_of (kids_in ps) ≡ pairs_of ps
pairs_kids [] = refl
pairs_kids (p ∷ ps) = map-append pair_of (rows_in p) (kids_in ps) ∙ ap (λ es. row_pairs p ++ es) (pairs_kids ps)

pub sorted_kids : (ps : List Piece) → ArePieced ps → AreSorted (kids_in ps)
sorted_kids ps h = subst InOrder (sym (pairs_kids ps)) h.sorted

pub child_pairs : (n : List ℕ) (ps : List Piece) → find name_cmp n (pairs_of ps) ≡ child n (kids_in ps)
child_pairs n ps = ap (find name_cmp n) (sym (pairs_kids ps))

-- ---- one piece among others

-- the children before a piece, in it and after it
pub split : (ps : List Pairs) (j : ℕ) → j < length ps → joined ps ≡ joined (take j ps) ++ (get_or ps j [] ++ joined (drop (suc j) ps))
split [] j lt = absurd (omega arith)
split (p ∷ ps) zero lt = refl
split (p ∷ ps) (suc j) lt = ap (λ es. p ++ es) (split ps j (omega arith))
    ∙ sym (append_assoc p (joined (take j ps)) (get_or ps j [] ++ joined (drop (suc j) ps)))

pub joined_set : (ps : List Pairs) (j : ℕ) (q : Pairs) → j < length ps → joined (set ps j q) ≡ joined (take j ps) ++ (q ++ joined (drop (suc j) ps))
joined_set [] j q lt = absurd (omega arith)
joined_set (p ∷ ps) zero q lt = refl
joined_set (p ∷ ps) (suc j) q lt = ap (λ es. p ++ es) (joined_set ps j q (omega arith))
    ∙ sym (append_assoc p (joined (take j ps)) (q ++ joined (drop (suc j) ps)))

full_set : (ps : List Pairs) (j : ℕ) (q : Pairs) → AllFull ps → 0 < length q → AllFull (set ps j q)
full_set [] j q h some = tt
full_set (p ∷ ps) zero q h some = (some, h.1)
full_set (p ∷ ps) (suc j) q h some = (h.0, full_set ps j q h.1 some)

full_at : (ps : List Pairs) (j : ℕ) → AllFull ps → j < length ps → 0 < length (get_or ps j [])
full_at [] j h lt = absurd (omega arith)
full_at (p ∷ ps) zero h lt = h.0
full_at (p ∷ ps) (suc j) h lt = full_at ps j h.1 (omega arith)

-- what is before a piece is below a name that the piece does not begin after, and what is after it is above
under_piece : (n : List ℕ) (ps : List Pairs) (j : ℕ) → InOrder (joined ps) → j < length ps → 0 < length (get_or ps j [])
    → begins_after n (get_or ps j []) ≡ false → AllUnder n (joined (take j ps))
under_piece n ps j h lt some low_end = at (get_or ps j []) (subst InOrder (split ps j lt) h) some low_end
  where
    at : (p : Pairs) → InOrder (joined (take j ps) ++ (p ++ joined (drop (suc j) ps))) → 0 < length p → begins_after n p ≡ false
        → AllUnder n (joined (take j ps))
    at [] h some low_end = absurd (omega arith)
    at (e ∷ p) h some low_end = under_before n (joined (take j ps)) e (p ++ joined (drop (suc j) ps)) h low_end

over_pieces : (n : List ℕ) (ps : List Pairs) (j : ℕ) → InOrder (joined ps) → (j < length ps → begins_after n (get_or ps j []) ≡ true)
    → AllOver n (joined (drop j ps))
over_pieces n [] zero h beyond = tt
over_pieces n [] (suc j) h beyond = tt
over_pieces n (p ∷ ps) zero h beyond = at p h (beyond (omega arith))
  where
    at : (p : Pairs) → InOrder (p ++ joined ps) → begins_after n p ≡ true → AllOver n (p ++ joined ps)
    at [] h beyond = absurd cc
    at (e ∷ p) h beyond = over_after n e (p ++ joined ps) h beyond
over_pieces n (p ∷ ps) (suc j) h beyond = over_pieces n ps j (sorted_right p (joined ps) h) (λ lt. beyond (omega arith))

-- the children about the piece of a name
pub record IsAbout (n : List ℕ) (ps : List Pairs) (j : ℕ) : Type 0 where
  pub in_range : j < length ps
  pub under : AllUnder n (joined (take j ps))
  pub over : AllOver n (joined (drop (suc j) ps))

pub about : (n : List ℕ) (ps : List Pairs) (j : ℕ) → IsPieced ps → IsPieceOf n ps j → IsAbout n ps j
about n ps j h at = record {
  in_range = at.in_range;
  under = low ps j h.sorted h.full at.in_range at.before;
  over = over_pieces n ps (suc j) h.sorted at.after;
}
  where
    low : (ps : List Pairs) (j : ℕ) → InOrder (joined ps) → AllFull (drop 1 ps) → j < length ps → (0 < j → begins_after n (get_or ps j []) ≡ false)
        → AllUnder n (joined (take j ps))
    low ps zero h full lt low_end = tt
    low [] (suc j) h full lt low_end = tt
    low (p ∷ ps) (suc j) h full lt low_end = under_piece n (p ∷ ps) (suc j) h lt (full_at ps j full (omega arith)) (low_end (omega arith))

pub piece_sorted : (ps : List Pairs) (j : ℕ) → InOrder (joined ps) → j < length ps → InOrder (get_or ps j [])
piece_sorted ps j h lt = sorted_left (get_or ps j []) (joined (drop (suc j) ps))
    (sorted_right (joined (take j ps)) _ (subst InOrder (split ps j lt) h))

-- what is found in the piece of a name is found among all children
pub find_piece : (n : List ℕ) (ps : List Pairs) (j : ℕ) → IsAbout n ps j → find name_cmp n (get_or ps j []) ≡ find name_cmp n (joined ps)
find_piece n ps j a = sym (ap (find name_cmp n) (split ps j a.in_range) ∙ find_under n (joined (take j ps)) _ a.under
    ∙ find_within n (get_or ps j []) (joined (drop (suc j) ps)) a.over)

-- a change of the piece of a name is the change of all children
pub change_piece : (n : List ℕ) (o : Option TreeMap) (ps : List Pairs) (j : ℕ) (q : Pairs) → IsAbout n ps j → q ≡ change n o (get_or ps j [])
    → joined (set ps j q) ≡ change n o (joined ps)
change_piece n o ps j q a is =
    joined_set ps j q a.in_range ∙ ap (λ p. joined (take j ps) ++ (p ++ joined (drop (suc j) ps))) is
    ∙ sym (ap (change n o) (split ps j a.in_range) ∙ change_under n o (joined (take j ps)) _ a.under
    ∙ ap (λ es. joined (take j ps) ++ es) (change_within n o (get_or ps j []) (joined (drop (suc j) ps)) a.over))

pub changes_piece : (n : List ℕ) (p : List (List ℕ)) (t : Option TreeMap) (ps : List Pairs) (j : ℕ) (q : Pairs) → IsAbout n ps j
    → Changes n p t (get_or ps j []) q → Changes n p t (joined ps) (joined (set ps j q))
changes_piece n p t ps j q a c = (
  c.0,
  change_piece n c.0 ps j q a c.1,
  λ r. c.2 r ∙ ap (λ o. set_look p t (look_in o) r) (find_piece n ps j a),
)

-- ---- fullness

pub full_or_first : (ps : List Pairs) (j : ℕ) (q : Pairs) → AllFull (drop 1 ps) → 0 < length q → AllFull (drop 1 (set ps j q))
full_or_first [] j q h some = tt
full_or_first (p ∷ ps) zero q h some = h
full_or_first (p ∷ ps) (suc j) q h some = full_set ps j q h some

full_remove : (ps : List Pairs) (j : ℕ) (q : Pairs) → AllFull ps → AllFull (remove (set ps j q) j)
full_remove [] zero q h = tt
full_remove [] (suc j) q h = tt
full_remove (p ∷ ps) zero q h = h.1
full_remove (p ∷ ps) (suc j) q h = (h.0, full_remove ps j q h.1)

full_removed : (ps : List Pairs) (j : ℕ) (q : Pairs) → AllFull (drop 1 ps) → AllFull (drop 1 (remove (set ps j q) j))
full_removed [] zero q h = tt
full_removed [] (suc j) q h = tt
full_removed (p ∷ ps) zero q h = tail ps h
  where
    tail : (ps : List Pairs) → AllFull ps → AllFull (drop 1 ps)
    tail [] h = tt
    tail (p ∷ ps) h = h.1
full_removed (p ∷ ps) (suc j) q h = full_remove ps j q h

at_set : (ps : List Pairs) (j : ℕ) (q : Pairs) → j < length ps → get_or (set ps j q) j [] ≡ q
at_set [] j q lt = absurd (omega arith)
at_set (p ∷ ps) zero q lt = refl
at_set (p ∷ ps) (suc j) q lt = at_set ps j q (omega arith)

joined_remove : (ps : List Pairs) (j : ℕ) (q : Pairs) → j < length ps → q ≡ [] → joined (remove (set ps j q) j) ≡ joined (set ps j q)
joined_remove [] j q lt none = absurd (omega arith)
joined_remove (p ∷ ps) zero q lt none = ap (λ x. x ++ joined ps) (sym none)
joined_remove (p ∷ ps) (suc j) q lt none = ap (λ es. p ++ es) (joined_remove ps j q (omega arith) none)

-- pieces that lose an empty one have the same children, and are full
pub joined_tidied : (ps : List Pairs) (j : ℕ) (q : Pairs) → j < length ps → joined (tidied j (set ps j q)) ≡ joined (set ps j q)
joined_tidied ps j q lt = ap (λ x. joined (tidied_by x j (set ps j q))) (at_set ps j q lt) ∙ by_piece q refl
  where
    by_piece : (x : Pairs) → q ≡ x → joined (tidied_by x j (set ps j q)) ≡ joined (set ps j q)
    by_piece [] is = joined_remove ps j q lt is
    by_piece (e ∷ x) is = refl

pub full_tidied : (ps : List Pairs) (j : ℕ) (q : Pairs) → j < length ps → AllFull (drop 1 ps) → AllFull (drop 1 (tidied j (set ps j q)))
full_tidied ps j q lt h = subst (λ x. AllFull (drop 1 (tidied_by x j (set ps j q)))) (sym (at_set ps j q lt)) (by_piece q refl)
  where
    by_piece : (x : Pairs) → q ≡ x → AllFull (drop 1 (tidied_by x j (set ps j q)))
    by_piece [] is = full_removed ps j q h
    by_piece (e ∷ x) is = full_or_first ps j q h (subst (λ x. 0 < length x) (sym is) (omega arith))

-- ---- pieces and their pairs

pub pairs_length : (ps : List Piece) → length (map row_pairs ps) ≡ length ps
pairs_length [] = refl
pairs_length (p ∷ ps) = ap suc (pairs_length ps)

pub pairs_at : (ps : List Piece) (j : ℕ) (d : Piece) → j < length ps → get_or (map row_pairs ps) j [] ≡ row_pairs (get_or ps j d)
pairs_at [] j d lt = absurd (omega arith)
pairs_at (x ∷ ps) zero d lt = refl
pairs_at (x ∷ ps) (suc j) d lt = pairs_at ps j d (omega arith)

pub pairs_set : (ps : List Piece) (j : ℕ) (p : Piece) → map row_pairs (set ps j p) ≡ set (map row_pairs ps) j (row_pairs p)
pairs_set [] j p = refl
pairs_set (x ∷ ps) zero p = refl
pairs_set (x ∷ ps) (suc j) p = ap (λ es. row_pairs x ∷ es) (pairs_set ps j p)

pub pairs_insert : (ps : List Piece) (j : ℕ) (p : Piece) → map row_pairs (insert ps j p) ≡ insert (map row_pairs ps) j (row_pairs p)
pairs_insert [] zero p = refl
pairs_insert [] (suc j) p = refl
pairs_insert (x ∷ ps) zero p = refl
pairs_insert (x ∷ ps) (suc j) p = ap (λ es. row_pairs x ∷ es) (pairs_insert ps j p)

pub pairs_remove : (ps : List Piece) (j : ℕ) → map row_pairs (remove ps j) ≡ remove (map row_pairs ps) j
pairs_remove [] zero = refl
pairs_remove [] (suc j) = refl
pairs_remove (x ∷ ps) zero = refl
pairs_remove (x ∷ ps) (suc j) = ap (λ es. row_pairs x ∷ es) (pairs_remove ps j)

-- the children in the piece of a name are in order, and what is found in it is found among all
pub found_rows : (n : List ℕ) (ps : List Piece) (j : ℕ) (p : Piece) (rows : List Child) → ArePieced ps → IsPieceOf n (map row_pairs ps) j
    → rows ≡ rows_in (get_or ps j p) → AreSorted rows × (find name_cmp n (map pair_of rows) ≡ child n (kids_in ps))
found_rows n ps j p rows h at same =
    let here : get_or (map row_pairs ps) j [] ≡ map pair_of rows =
    pairs_at ps j p (subst (λ k. j < k) (pairs_length ps) at.in_range) ∙ ap (map pair_of) (sym same) in (
      subst InOrder here (piece_sorted (map row_pairs ps) j h.sorted at.in_range),
      ap (find name_cmp n) (sym here) ∙ find_piece n (map row_pairs ps) j (about n (map row_pairs ps) j h at) ∙ child_pairs n ps,
    )

-- ---- a piece parted in two

joined_parted : (ps : List Pairs) (j : ℕ) (lower upper : Pairs) → j < length ps → lower ++ upper ≡ get_or ps j []
    → joined (set (insert ps j lower) (suc j) upper) ≡ joined ps
joined_parted [] j lower upper lt is = absurd (omega arith)
joined_parted (p ∷ ps) zero lower upper lt is = sym (append_assoc lower upper (joined ps)) ∙ ap (λ es. es ++ joined ps) is
joined_parted (p ∷ ps) (suc j) lower upper lt is = ap (λ es. p ++ es) (joined_parted ps j lower upper (omega arith) is)

all_parted : (ps : List Pairs) (j : ℕ) (lower upper : Pairs) → AllFull ps → j < length ps → 0 < length lower → 0 < length upper
    → AllFull (set (insert ps j lower) (suc j) upper)
all_parted [] j lower upper h lt a b = absurd (omega arith)
all_parted (p ∷ ps) zero lower upper h lt a b = (a, (b, h.1))
all_parted (p ∷ ps) (suc j) lower upper h lt a b = (h.0, all_parted ps j lower upper h.1 (omega arith) a b)

full_parted : (ps : List Pairs) (j : ℕ) (lower upper : Pairs) → AllFull (drop 1 ps) → j < length ps → 0 < length lower → 0 < length upper
    → AllFull (drop 1 (set (insert ps j lower) (suc j) upper))
full_parted [] j lower upper h lt a b = absurd (omega arith)
full_parted (p ∷ ps) zero lower upper h lt a b = (b, h)
full_parted (p ∷ ps) (suc j) lower upper h lt a b = all_parted ps j lower upper h (omega arith) a b

-- pieces of which one is parted into its first m children and the rest
pub parted : (ps new : List Piece) (j m : ℕ) (p lower upper : Piece) (rows : List Child) → ArePieced ps → j < length ps
    → rows ≡ rows_in (get_or ps j p) → 0 < m → m < length rows → row_pairs lower ≡ map pair_of (take m rows) → row_pairs upper ≡ map pair_of (drop m rows)
    → new ≡ insert ps j lower → (pairs_of (set new (j + 1) upper) ≡ pairs_of ps) × ArePieced (set new (j + 1) upper)
parted ps new j m p lower upper rows h lt same some more low up inserted =
    let here : get_or (map row_pairs ps) j [] ≡ map pair_of rows = pairs_at ps j p lt ∙ ap (map pair_of) (sym same) in
    let within : j < length (map row_pairs ps) = subst (λ k. j < k) (sym (pairs_length ps)) lt in
    let all : row_pairs lower ++ row_pairs upper ≡ get_or (map row_pairs ps) j [] =
    (λ i. low i ++ up i) ∙ sym (map-append pair_of (take m rows) (drop m rows)) ∙ ap (map pair_of) (take-append-drop m rows) ∙ sym here in
    let made : map row_pairs (set new (j + 1) upper) ≡ set (insert (map row_pairs ps) j (row_pairs lower)) (suc j) (row_pairs upper) =
    pairs_set new (j + 1) upper ∙ (λ i. set (map row_pairs (inserted i)) (add-one j i) (row_pairs upper))
    ∙ ap (λ xs. set xs (suc j) (row_pairs upper)) (pairs_insert ps j lower) in
    let pairs : pairs_of (set new (j + 1) upper) ≡ pairs_of ps = ap joined made ∙ joined_parted (map row_pairs ps) j _ _ within all in (
      pairs,
      record {
        sorted = subst InOrder (sym pairs) h.sorted;
        full = subst (λ xs. AllFull (drop 1 xs)) (sym made) (full_parted (map row_pairs ps) j _ _ h.full within
            (subst (λ xs. 0 < length xs) (sym low) (omega (arith, length-map (take m rows) pair_of, length-take m rows)))
            (subst (λ xs. 0 < length xs) (sym up) (omega (arith, length-map (drop m rows) pair_of, length-drop m rows))));
      },
    )
