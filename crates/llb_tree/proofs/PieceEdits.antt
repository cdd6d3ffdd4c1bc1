-- Pieces of which one is edited.
use Rattle.std.proofs.Common.{◌≡◌, ℕ, zero, suc, ◌+◌, ◌<◌, ◌==◌, List, [], ◌∷◌, ◌++◌, length, get_or, set, map, take, drop, Option, Some, true, false}
use Rattle.std.proofs.Common.{refl, sym, ap, subst, ◌∙◌, arith, append_assoc, add-one}
use Rattle.std.proofs.lemmas.Bool.Decides.{nat_tests}
use Rattle.std.proofs.lemmas.List.{append-nil, length-map}
use Rattle.std.specs.declared.cmp.Ordering.TheVariants.{Less, Equal, Greater}
use Rattle.std.specs.List.{remove}
use Rattle.std.specs.FinMap.Entries.{put, by_order}
use Rattle.llb_tree.specs.Path.{name_cmp}
use Rattle.llb_tree.specs.Tree.{TreeMap}
use Rattle.llb_tree.specs.Nodes.{Pairs, pair_of, rows_in, kids_in}
use Rattle.llb_tree.specs.ChildPieces.{row_pairs, joined, pairs_of, AllFull, ArePieced, IsPieceOf, tidied, tidied_by, Changes}
use Rattle.llb_tree.specs.declared.node.Child.{Child}
use Rattle.llb_tree.specs.declared.node.Piece.{Piece}
use Rattle.llb_tree.proofs.ChildrenAroundName.{InOrder, sorted_change}
use Rattle.llb_tree.proofs.PiecesAroundName.{about, change_piece, changes_piece, full_or_first, joined_tidied, full_tidied, pairs_length, pairs_at, pairs_set}
use Rattle.llb_tree.proofs.PiecesAroundName.{pairs_remove, pairs_kids}

-- a piece that keeps its pairs keeps those of all
pub same_pairs : (ps : List Piece) (j : ℕ) (old new : Piece) → old ≡ get_or ps j old → row_pairs new ≡ row_pairs old
    → map row_pairs (set ps j new) ≡ map row_pairs ps
same_pairs [] j old new is same = refl
same_pairs (p ∷ ps) zero old new is same = ap (λ es. es ∷ map row_pairs ps) (same ∙ ap row_pairs is)
same_pairs (p ∷ ps) (suc j) old new is same = ap (λ es. row_pairs p ∷ es) (same_pairs ps j old new is same)

some_put : (n : List ℕ) (t : TreeMap) (es : Pairs) → 0 < length (put name_cmp n t es)
some_put n t [] = omega arith
some_put n t (e ∷ es) = elim (name_cmp n e.0) as (λ o. 0 < length (by_order o ((n, t) ∷ e ∷ es) ((e.0, t) ∷ es) (e ∷ put name_cmp n t es))) [
  | Less ↦ omega arith
  | Equal ↦ omega arith
  | Greater ↦ omega arith
]

module _ (n : List ℕ) (ps : List Piece) (j : ℕ) (old new : Piece) (h : ArePieced ps) (at : IsPieceOf n (map row_pairs ps) j) (is : old ≡ get_or ps j old) where
  here : get_or (map row_pairs ps) j [] ≡ row_pairs old
  here = pairs_at ps j old (subst (λ k. j < k) (pairs_length ps) at.in_range) ∙ ap row_pairs (sym is)

  -- a child put into the piece of its name is put among all
  pub put_at : (t : TreeMap) → row_pairs new ≡ put name_cmp n t (row_pairs old) → pairs_of (set ps j new) ≡ put name_cmp n t (pairs_of ps)
  put_at t changed = ap joined (pairs_set ps j new)
      ∙ change_piece n (Some t) (map row_pairs ps) j (row_pairs new) (about n (map row_pairs ps) j h at) (changed ∙ ap (put name_cmp n t) (sym here))

  pub put_pieced : (t : TreeMap) → row_pairs new ≡ put name_cmp n t (row_pairs old) → ArePieced (set ps j new)
  put_pieced t changed = record {
    sorted = subst InOrder (sym (put_at t changed)) (sorted_change n (Some t) (pairs_of ps) h.sorted);
    full = subst (λ xs. AllFull (drop 1 xs)) (sym (pairs_set ps j new)) (full_or_first (map row_pairs ps) j (row_pairs new) h.full
        (subst (λ xs. 0 < length xs) (sym changed) (some_put n t (row_pairs old))));
  }

  -- what changes the piece of a name, which goes if it is empty then, changes all
  pub changes_at : (p : List (List ℕ)) (t : Option TreeMap) (after : List Piece) → Changes n p t (row_pairs old) (row_pairs new)
      → map row_pairs after ≡ tidied j (map row_pairs (set ps j new)) → Changes n p t (pairs_of ps) (pairs_of after) × ArePieced after
  changes_at p t after changed tidy =
      let made : map row_pairs after ≡ tidied j (set (map row_pairs ps) j (row_pairs new)) = tidy ∙ ap (tidied j) (pairs_set ps j new) in
      let pairs : pairs_of after ≡ joined (set (map row_pairs ps) j (row_pairs new)) =
      ap joined made ∙ joined_tidied (map row_pairs ps) j (row_pairs new) at.in_range in
      let all : Changes n p t (pairs_of ps) (joined (set (map row_pairs ps) j (row_pairs new))) =
      changes_piece n p t (map row_pairs ps) j (row_pairs new) (about n (map row_pairs ps) j h at)
      (subst (λ es. Changes n p t es (row_pairs new)) (sym here) changed) in (
        subst (Changes n p t (pairs_of ps)) (sym pairs) all,
        record {
          sorted = subst InOrder (sym (pairs ∙ all.1)) (sorted_change n all.0 (pairs_of ps) h.sorted);
          full = subst (λ xs. AllFull (drop 1 xs)) (sym made) (full_tidied (map row_pairs ps) j (row_pairs new) at.in_range h.full);
        },
      )

-- ---- an empty piece

pub no_children : (xs : List Child) → (length xs == 0) ≡ true → xs ≡ []
no_children [] is = refl
no_children (x ∷ xs) is = absurd (grind (arith, nat_tests, is))

no_rows : (xs : List Child) → (length xs == 0) ≡ true → map pair_of xs ≡ []
no_rows [] is = refl
no_rows (x ∷ xs) is = absurd (grind (arith, nat_tests, is))

some_rows : (xs : List Child) → (length xs == 0) ≡ false → (j : ℕ) (ps : List Pairs) → tidied_by (map pair_of xs) j ps ≡ ps
some_rows [] is j ps = absurd (grind (arith, nat_tests, is))
some_rows (x ∷ xs) is j ps = refl

pub emptied : (ps : List Piece) (j : ℕ) (p : Piece) → j < length ps → p ≡ get_or ps j p → (length (rows_in p) == 0) ≡ true
    → map row_pairs (remove ps j) ≡ tidied j (map row_pairs ps)
emptied ps j p lt is none = pairs_remove ps j
    ∙ sym (ap (λ xs. tidied_by xs j (map row_pairs ps)) (pairs_at ps j p lt ∙ ap row_pairs (sym is) ∙ no_rows (rows_in p) none))

pub not_emptied : (ps : List Piece) (j : ℕ) (p : Piece) → j < length ps → p ≡ get_or ps j p → (length (rows_in p) == 0) ≡ false
    → map row_pairs ps ≡ tidied j (map row_pairs ps)
not_emptied ps j p lt is some = sym (ap (λ xs. tidied_by xs j (map row_pairs ps)) (pairs_at ps j p lt ∙ ap row_pairs (sym is))
    ∙ some_rows (rows_in p) some j (map row_pairs ps))

-- ---- pieces that are made

take_piece : (ps : List Piece) (i : ℕ) (d : Piece) → i < length ps
    → take i (map row_pairs ps) ++ row_pairs (get_or ps i d) ∷ [] ≡ take (suc i) (map row_pairs ps)
take_piece [] i d h = absurd (omega arith)
take_piece (p ∷ ps) zero d h = refl
take_piece (p ∷ ps) (suc i) d h = ap (λ es. row_pairs p ∷ es) (take_piece ps i d (omega arith))

pairs_push : (ps : List Piece) (p : Piece) → map row_pairs (ps ++ p ∷ []) ≡ map row_pairs ps ++ row_pairs p ∷ []
pairs_push [] p = refl
pairs_push (x ∷ ps) p = ap (λ es. row_pairs x ∷ es) (pairs_push ps p)

-- pushing a copy of the next piece after copies of the first i makes copies of the first i + 1
pub piece_pushed : (ps old new : List Piece) (i : ℕ) (made p : Piece) → map row_pairs old ≡ take i (map row_pairs ps) → new ≡ old ++ made ∷ []
    → p ≡ get_or ps i p → row_pairs made ≡ row_pairs p → i < length ps → map row_pairs new ≡ take (i + 1) (map row_pairs ps)
piece_pushed ps old new i made p so_far pushed is same lt =
    ap (map row_pairs) pushed ∙ pairs_push old made ∙ ap (λ es. es ++ row_pairs made ∷ []) so_far
    ∙ ap (λ e. take i (map row_pairs ps) ++ e ∷ []) (same ∙ ap row_pairs is) ∙ take_piece ps i p lt ∙ ap (λ k. take k (map row_pairs ps)) (sym (add-one i))

kids_push : (ps : List Piece) (p : Piece) → kids_in (ps ++ p ∷ []) ≡ kids_in ps ++ rows_in p
kids_push [] p = append-nil (rows_in p)
kids_push (x ∷ ps) p = ap (λ ks. rows_in x ++ ks) (kids_push ps p) ∙ sym (append_assoc (rows_in x) (kids_in ps) (rows_in p))

full_push : (ps : List Pairs) (p : Pairs) → AllFull ps → 0 < length p → AllFull (ps ++ p ∷ [])
full_push [] p h some = (some, tt)
full_push (x ∷ ps) p h some = (h.0, full_push ps p h.1 some)

-- a piece of children is put after others
pub pushed_piece : (ps new : List Piece) (p : Piece) (rows : List Child) → new ≡ ps ++ p ∷ [] → rows_in p ≡ rows → kids_in new ≡ kids_in ps ++ rows
pushed_piece ps new p rows pushed is = ap kids_in pushed ∙ kids_push ps p ∙ ap (λ ks. kids_in ps ++ ks) is

pub pushed_full : (ps new : List Piece) (p : Piece) (rows : List Child) → new ≡ ps ++ p ∷ [] → rows_in p ≡ rows → 0 < length rows
    → AllFull (map row_pairs ps) → AllFull (map row_pairs new)
pushed_full ps new p rows pushed is some h = subst AllFull (sym (ap (map row_pairs) pushed ∙ pairs_push ps p))
    (full_push (map row_pairs ps) (row_pairs p) h (subst (λ k. 0 < k) (sym (length-map (rows_in p) pair_of ∙ ap length is)) some))

pub some_pieced : (ps : List Piece) → InOrder (map pair_of (kids_in ps)) → AllFull (map row_pairs ps) → ArePieced ps
some_pieced ps sorted full = record { sorted = subst InOrder (pairs_kids ps) sorted; full = tail (map row_pairs ps) full }
  where
    tail : (ps : List Pairs) → AllFull ps → AllFull (drop 1 ps)
    tail [] h = tt
    tail (p ∷ ps) h = h.1

-- one child goes from those to come to the last piece
pub moved_on : (done last done2 last2 pushed left left2 all : List Child) (kid : Child) → (done ++ last) ++ left ≡ all → left ≡ kid ∷ left2
    → done2 ++ last2 ≡ done ++ last → pushed ≡ last2 ++ kid ∷ [] → (done2 ++ pushed) ++ left2 ≡ all
moved_on done last done2 last2 pushed left left2 all kid so_far is same push =
    ap (λ ks. (done2 ++ ks) ++ left2) push ∙ ap (λ ks. ks ++ left2) (sym (append_assoc done2 last2 (kid ∷ [])))
    ∙ append_assoc (done2 ++ last2) (kid ∷ []) left2 ∙ ap (λ ks. ks ++ kid ∷ left2) same ∙ ap (λ ks. (done ++ last) ++ ks) (sym is) ∙ so_far
