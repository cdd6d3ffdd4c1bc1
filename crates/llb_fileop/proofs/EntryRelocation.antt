-- Entries at other places: below a path, and taken from below one.
use Rattle.std.proofs.Common.{◌≡◌, ◌≢◌, ℕ, Bool, true, false, cond, List, [], ◌∷◌, ◌++◌, map, length, drop, Some}
use Rattle.std.proofs.Common.{None, refl, sym, ap, ◌∙◌, true≢false}
use Rattle.std.proofs.lemmas.List.{append-nil}
use Rattle.std.specs.Ordering.{eq_by_cmp}
use Rattle.std.specs.FinMap as finite
use Rattle.std.specs.FinMap.Entries.{where_key, find-where_key, is_sorted-where_key, same_entries}
use Rattle.llb_tree.specs.Path.{path_cmp, is_within}
use Rattle.llb_tree.specs.PathOrder.{path_cmp-IsTotalOrder, path_cmp-IsAntisymmetric, same_path}
use Rattle.llb_tree.specs.ModeAndOwner.{MetaValue}
use Rattle.llb_tree.specs.Tree.{TreeMap, File, moved, tree_at, IsTree, file_fits}
use Rattle.llb_fileop.specs.Copying.{at_target}
use Rattle.llb_tree.proofs.SubtreeEntries.{get-tree_at}
use Rattle.llb_tree.proofs.PathsBelow.{within_split, within-append, within_itself}
use Rattle.llb_tree.proofs.DirectoryListing.{entries-inside}
use Rattle.llb_tree.proofs.EditedMaps.{nothing_below}
use Rattle.llb_fileop.proofs.PathOrderTraversal.{Pair, ties_itself}

-- ---- below a path

-- among entries that were moved below a path, none is found outside it
pub find_beside : (p q : List (List ℕ)) (es : List Pair) → is_within p q ≡ false → finite.find path_cmp q (map (moved 0 p) es) ≡ None
find_beside p q [] beside = refl
find_beside p q (e ∷ es) beside = by_tie (eq_by_cmp path_cmp q (p ++ e.0)) refl (find_beside p q es beside)
  where
    by_tie : (b : Bool) → eq_by_cmp path_cmp q (p ++ e.0) ≡ b → finite.find path_cmp q (map (moved 0 p) es) ≡ None
        → cond b (Some e.1) (finite.find path_cmp q (map (moved 0 p) es)) ≡ None
    by_tie true t rest = absurd (true≢false (sym (within-append p e.0) ∙ ap (is_within p) (sym (same_path q (p ++ e.0) t)) ∙ beside))
    by_tie false t rest = rest

-- ---- from below a path

moved_again : (n : ℕ) (goal : List (List ℕ)) (es : List Pair) → map (moved 0 goal) (map (moved n []) es) ≡ map (moved n goal) es
moved_again n goal [] = refl
moved_again n goal (e ∷ es) = ap (λ l. moved n goal e ∷ l) (moved_again n goal es)

-- the entries of the tree of what is at or below a path, moved to the target, are those at the target
pub target_dir : (second : TreeMap) (s goal : List (List ℕ)) → map (moved 0 goal) (finite.entries (tree_at second s)) ≡ at_target second s goal
target_dir second s goal =
    ap (map (moved 0 goal)) (entries-inside second (tree_at second s) s (get-tree_at second s))
    ∙ moved_again (length s) goal (where_key path_cmp (is_within s) (finite.entries second))

-- at and below a file there is only the file
pub target_file : (second : TreeMap) (s goal : List (List ℕ)) (m : MetaValue) (b : List ℕ) → IsTree second
    → finite.get second s ≡ Some (File m b) → at_target second s goal ≡ (goal, File m b) ∷ []
target_file second s goal m b tree is =
    ap (map (moved (length s) goal)) (same_entries path_cmp path_cmp-IsTotalOrder path_cmp-IsAntisymmetric
    (where_key path_cmp (is_within s) (finite.entries second)) ((s, File m b) ∷ [])
    (is_sorted-where_key path_cmp (is_within s) (finite.entries second) (finite.entries_sorted second)) tt same)
    ∙ ap (λ p. (p, File m b) ∷ []) (ap (λ l. goal ++ l) (drop_itself s) ∙ append-nil goal)
  where
    drop_itself : (p : List (List ℕ)) → drop (length p) p ≡ []
    drop_itself [] = refl
    drop_itself (n ∷ p) = drop_itself p

    -- nothing is below a file
    none_below : (q r : List (List ℕ)) → q ≡ s ++ r → q ≢ s → finite.get second q ≡ None
    none_below q [] split other = absurd (other (split ∙ append-nil s))
    none_below q (n ∷ r) split other = ap (finite.get second) split ∙ nothing_below second s n r tree (ap file_fits is)

    by_tie : (q : List (List ℕ)) (t w : Bool) → eq_by_cmp path_cmp q s ≡ t → is_within s q ≡ w
        → cond w (finite.find path_cmp q (finite.entries second)) None ≡ cond t (Some (File m b)) None
    by_tie q true true tie in_it = sym (finite.get-entries second q) ∙ ap (finite.get second) (same_path q s tie) ∙ is
    by_tie q true false tie in_it = absurd (true≢false (sym (ap (is_within s) (same_path q s tie) ∙ within_itself s) ∙ in_it))
    by_tie q false false tie in_it = refl
    by_tie q false true tie in_it =
        sym (finite.get-entries second q)
        ∙ none_below q (drop (length s) q) (within_split s q in_it)
        (λ same. true≢false (sym (ap (λ x. eq_by_cmp path_cmp x s) same ∙ ties_itself s) ∙ tie))

    same : (q : List (List ℕ)) → finite.find path_cmp q (where_key path_cmp (is_within s) (finite.entries second)) ≡ finite.find path_cmp q ((s, File m b) ∷ [])
    same q =
        find-where_key path_cmp (is_within s) q (λ x tie. ap (is_within s) (sym (path_cmp-IsAntisymmetric q x tie))) (finite.entries second)
        ∙ by_tie q (eq_by_cmp path_cmp q s) (is_within s q) refl refl
