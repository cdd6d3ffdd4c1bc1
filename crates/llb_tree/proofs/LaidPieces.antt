-- Pieces of laid children, one for each upper piece.
use Rattle.std.proofs.Common.{◌≡◌, ℕ, zero, suc, ◌+◌, ◌<◌, ◌≤◌, List, [], ◌∷◌, ◌++◌, length, map, drop, get_or, set}
use Rattle.std.proofs.Common.{refl, sym, ap, subst, ◌∙◌, arith, add-one}
use Rattle.std.proofs.lemmas.List.{length-map}
use Rattle.llb_tree.specs.Nodes.{Pairs, pair_of, rows_in, kids_in}
use Rattle.llb_tree.specs.ChildPieces.{row_pairs, pairs_of, AllFull, ArePieced}
use Rattle.llb_tree.specs.Overlay.{SettingsValue}
use Rattle.llb_tree.specs.Laying.{Lays, AreLaid, PiecesLaid, Covers, puts}
use Rattle.llb_tree.specs.declared.node.Child.{Child}
use Rattle.llb_tree.specs.declared.node.Piece.{Piece}
use Rattle.llb_tree.proofs.CoveringChildren.{HasLaid, all_laid, lays_all}
use Rattle.llb_tree.proofs.LaidChildInsertion.{lays_puts}
use Rattle.llb_tree.proofs.ChildrenAroundName.{InOrder}
use Rattle.llb_tree.proofs.PiecesAroundName.{pairs_kids, sorted_kids}

module _ (w : SettingsValue) (old : List Child) where
  laid_append : (us ks vs ls : List Child) → AreLaid w old us ks → AreLaid w old vs ls → AreLaid w old (us ++ vs) (ks ++ ls)
  laid_append [] [] vs ls h g = g
  laid_append [] (k ∷ ks) vs ls h g = absurd h
  laid_append (u ∷ us) [] vs ls h g = absurd h
  laid_append (u ∷ us) (k ∷ ks) vs ls h g = (h.0, laid_append us ks vs ls h.1 g)

  -- the children of laid pieces are laid
  pub pieces_laid : (us ps : List Piece) → PiecesLaid w old us ps → AreLaid w old (kids_in us) (kids_in ps)
  pieces_laid [] [] h = tt
  pieces_laid [] (p ∷ ps) h = absurd h
  pieces_laid (u ∷ us) [] h = absurd h
  pieces_laid (u ∷ us) (p ∷ ps) h = laid_append (rows_in u) (rows_in p) (kids_in us) (kids_in ps) h.0 (pieces_laid us ps h.1)

  laid_length : (us ks : List Child) → AreLaid w old us ks → length ks ≡ length us
  laid_length [] [] h = refl
  laid_length [] (k ∷ ks) h = absurd h
  laid_length (u ∷ us) [] h = absurd h
  laid_length (u ∷ us) (k ∷ ks) h = ap suc (laid_length us ks h.1)

  full_all : (us ps : List Piece) → PiecesLaid w old us ps → AllFull (map row_pairs us) → AllFull (map row_pairs ps)
  full_all [] [] h full = tt
  full_all [] (p ∷ ps) h full = absurd h
  full_all (u ∷ us) [] h full = absurd h
  full_all (u ∷ us) (p ∷ ps) h full = (
    subst (λ k. 0 < k) (sym (length-map (rows_in p) pair_of ∙ laid_length (rows_in u) (rows_in p) h.0 ∙ sym (length-map (rows_in u) pair_of))) full.0,
    full_all us ps h.1 full.1,
  )

  full_laid : (us ps : List Piece) → PiecesLaid w old us ps → AllFull (drop 1 (map row_pairs us)) → AllFull (drop 1 (map row_pairs ps))
  full_laid [] [] h full = tt
  full_laid [] (p ∷ ps) h full = absurd h
  full_laid (u ∷ us) [] h full = absurd h
  full_laid (u ∷ us) (p ∷ ps) h full = full_all us ps h.1 full

  -- laid pieces that have every name of the lower children are all that is left of both
  pub lays_pieces : (us ps : List Piece) → ArePieced us → Covers (kids_in us) old → PiecesLaid w old us ps → Lays w (kids_in us) old (kids_in ps)
  lays_pieces us ps h covers laid = lays_all w old (kids_in us) (kids_in ps) (sorted_kids us h) covers (pieces_laid us ps laid)

  pub laid_pieced : (us ps : List Piece) → ArePieced us → Covers (kids_in us) old → PiecesLaid w old us ps → ArePieced ps
  laid_pieced us ps h covers laid = record {
    sorted = subst InOrder (pairs_kids ps) (lays_pieces us ps h covers laid).sorted;
    full = full_laid us ps laid h.full;
  }

  -- the first i pieces are laid, and those after them are the upper ones
  abbrev pub HaveLaid : ℕ → List Piece → List Pairs → Type 0
  HaveLaid i [] [] = Unit {0}
  HaveLaid i [] (p ∷ ps) = ⊥
  HaveLaid i (u ∷ us) [] = ⊥
  HaveLaid zero (u ∷ us) (p ∷ ps) = (p ≡ row_pairs u) × HaveLaid zero us ps
  HaveLaid (suc i) (u ∷ us) (p ∷ ps) = HasLaid w old (length (rows_in u)) (rows_in u) p × HaveLaid i us ps

  pub no_piece_yet : (us : List Piece) → HaveLaid 0 us (map row_pairs us)
  no_piece_yet [] = tt
  no_piece_yet (u ∷ us) = (refl, no_piece_yet us)

  pub as_many : (i : ℕ) (us ps : List Piece) → HaveLaid i us (map row_pairs ps) → length ps ≡ length us
  as_many i [] [] h = refl
  as_many i [] (p ∷ ps) h = absurd h
  as_many i (u ∷ us) [] h = absurd h
  as_many zero (u ∷ us) (p ∷ ps) h = ap suc (as_many zero us ps h.1)
  as_many (suc i) (u ∷ us) (p ∷ ps) h = ap suc (as_many i us ps h.1)

  seen_laid : (us ks : List Child) → AreLaid w old us ks → HasLaid w old (length us) us (map pair_of ks)
  seen_laid [] [] h = tt
  seen_laid [] (k ∷ ks) h = absurd h
  seen_laid (u ∷ us) [] h = absurd h
  seen_laid (u ∷ us) (k ∷ ks) h = ((h.0.named, h.0.laid), seen_laid us ks h.1)

  rows_stay : (i : ℕ) (us : List Piece) (ps : List Pairs) (d : Piece) → i < length us → HaveLaid i us ps
      → AreLaid w old (rows_in (get_or us i d)) (rows_in (get_or us i d)) → HaveLaid (suc i) us ps
  rows_stay i [] ps d lt h laid = absurd (omega arith)
  rows_stay i (u ∷ us) [] d lt h laid = absurd h
  rows_stay zero (u ∷ us) (p ∷ ps) d lt h laid =
      (subst (HasLaid w old (length (rows_in u)) (rows_in u)) (sym h.0) (seen_laid (rows_in u) (rows_in u) laid), h.1)
  rows_stay (suc i) (u ∷ us) (p ∷ ps) d lt h laid = (h.0, rows_stay i us ps d (omega arith) h.1 laid)

  rows_written : (i : ℕ) (us : List Piece) (ps : List Pairs) (d : Piece) (rows : List Child) → i < length us → HaveLaid i us ps
      → AreLaid w old (rows_in (get_or us i d)) rows → HaveLaid (suc i) us (set ps i (map pair_of rows))
  rows_written i [] ps d rows lt h laid = absurd (omega arith)
  rows_written i (u ∷ us) [] d rows lt h laid = absurd h
  rows_written zero (u ∷ us) (p ∷ ps) d rows lt h laid = (seen_laid (rows_in u) rows laid, h.1)
  rows_written (suc i) (u ∷ us) (p ∷ ps) d rows lt h laid = (h.0, rows_written i us ps d rows (omega arith) h.1 laid)

  module _ (i : ℕ) (us : List Piece) (ps : List Pairs) (u : Piece) (lt : i < length us) (is : u ≡ get_or us i u) (so_far : HaveLaid i us ps) where
    -- the next piece stays as it is
    pub piece_stays : AreLaid w old (rows_in u) (rows_in u) → HaveLaid (i + 1) us ps
    piece_stays laid = subst (λ j. HaveLaid j us ps) (sym (add-one i))
        (rows_stay i us ps u lt so_far (subst (λ (x : Piece). AreLaid w old (rows_in x) (rows_in x)) is laid))

    -- the next piece gets other rows
    pub piece_written : (rows : List Child) (new : List Pairs) → AreLaid w old (rows_in u) rows → new ≡ set ps i (map pair_of rows)
        → HaveLaid (i + 1) us new
    piece_written rows new laid wrote = subst (HaveLaid (i + 1) us) (sym wrote) (subst (λ j. HaveLaid j us (set ps i (map pair_of rows))) (sym (add-one i))
        (rows_written i us ps u rows lt so_far (subst (λ (x : Piece). AreLaid w old (rows_in x) rows) is laid)))

  -- when no piece is left, all are laid
  pub all_pieces : (i : ℕ) (us ps : List Piece) → length us ≤ i → HaveLaid i us (map row_pairs ps) → PiecesLaid w old us ps
  all_pieces i [] [] le h = tt
  all_pieces i [] (p ∷ ps) le h = absurd h
  all_pieces i (u ∷ us) [] le h = absurd h
  all_pieces zero (u ∷ us) (p ∷ ps) le h = absurd (omega arith)
  all_pieces (suc i) (u ∷ us) (p ∷ ps) le h =
      (all_laid w old (length (rows_in u)) (rows_in u) (rows_in p) (omega arith) h.0, all_pieces i us ps (omega arith) h.1)

-- the pairs of pieces of which one is set
pub map_set : (ps : List Piece) (i : ℕ) (p : Piece) → map row_pairs (set ps i p) ≡ set (map row_pairs ps) i (row_pairs p)
map_set [] i p = refl
map_set (q ∷ ps) zero p = refl
map_set (q ∷ ps) (suc i) p = ap (λ es. row_pairs q ∷ es) (map_set ps i p)

-- putting the laid children among the old ones lays all upper children over them
pub lays_put : (w : SettingsValue) (old us new : List Piece) (made : List Child) → ArePieced old → ArePieced us → AreLaid w (kids_in old) (kids_in us) made
    → pairs_of new ≡ puts (map pair_of made) (pairs_of old) → Lays w (kids_in us) (kids_in old) (kids_in new)
lays_put w old us new made h above laid is = lays_puts w (kids_in old) (kids_in us) made (kids_in new) (sorted_kids old h) (sorted_kids us above) laid
    (pairs_kids new ∙ is ∙ ap (puts (map pair_of made)) (sym (pairs_kids old)))
