-- A copy at its place: the merged part takes the place of what was there, and a file is put.
use Rattle.std.proofs.Common.{◌≡◌, ℕ, zero, suc, ◌+◌, ◌≤◌, Bool, true, false, cond, List, [], ◌∷◌, ◌++◌, map, length, drop, Option}
use Rattle.std.proofs.Common.{Some, None, IsSome, is_some, Result, Ok, Err, T, refl, sym, ap, subst, ◌∙◌, true≢false, arith, length-append}
use Rattle.std.proofs.lemmas.List.{append-nil}
use Rattle.std.proofs.lemmas.Bool.{le-ltb}
use Rattle.std.specs.Prelude.{slice_get}
use Rattle.std.specs.Ordering.{eq_by_cmp}
use Rattle.std.specs.FinMap as finite
use Rattle.std.specs.FinMap.Entries.{below_all}
use Rattle.llb_wire.specs.CallResults.{◌>>=◌}
use Rattle.llb_wire.proofs.RuleComposition.{bind_ok}
use Rattle.llb_tree.specs.Path.{path_cmp, is_within}
use Rattle.llb_tree.specs.PathOrder.{path_cmp-IsTotalOrder, path_cmp-IsAntisymmetric, same_path}
use Rattle.llb_tree.specs.ModeAndOwner.{MetaValue, new_dir_meta}
use Rattle.llb_tree.specs.Tree.{TreeMap, Entry, Dir, File, moved, with_tree, graft, subtree, tree_at, dir_there, places_fit, parents}
use Rattle.llb_tree.specs.Tree.{all_dirs, walk, dir_fits, file_fits, not_root, put_dir, IsDirAt, IsTree, is_dir}
use Rattle.llb_tree.specs.declared.fault.TreeFault.{TreeFault}
use Rattle.llb_tree.specs.declared.fault.TreeFault.TheVariants.{BadName, Conflict}
use Rattle.llb_tree.proofs.SubtreeEntries.{IsTree-tree_at}
use Rattle.llb_tree.proofs.PathsBelow.{within_split}
use Rattle.llb_tree.proofs.EntryOrder.{and_first}
use Rattle.llb_tree.proofs.Entries.{entries-root}
use Rattle.llb_tree.proofs.ParentClosure.{get-insert_cases}
use Rattle.llb_tree.proofs.GraftedTrees.{find_moved, get_inside, get_outside}
use Rattle.llb_fileop.specs.Copying.{fits, meets, landed, all_land, land, laid_on, at_target, parents_for, copy_to}
use Rattle.llb_fileop.specs.Making.{kept_or_made, make_all}
use Rattle.llb_ops.specs.declared.actions.CopyFile.{CopyFile}
use Rattle.llb_fileop.specs.Owners.{copied}
use Rattle.llb_fileop.specs.CopyPlacement.{put, put_some, laid, land_at, placed, AgreeOn}
use Rattle.llb_fileop.proofs.ResultEqualities.{same_Ok}
use Rattle.llb_fileop.proofs.PathOrderTraversal.{Pair, ties_itself, found_at}
use Rattle.llb_fileop.proofs.TreeOverlays.{get-laid_on, get-whole}
use Rattle.llb_fileop.proofs.EntryPlacement.{fits-Ok, fits_short}
use Rattle.llb_fileop.proofs.EntryRelocation.{find_beside}

-- ---- what a landing means for each entry

pub record Lands (t : TreeMap) (p : List (List ℕ)) (e : Entry) : Type 0 where
  pub fits : fits p ≡ Ok tt
  pub meets : meets (finite.get t p) e ≡ Ok tt

pub each_lands : (t : TreeMap) (goal : List (List ℕ)) (es : List Pair) → all_land t (map (moved 0 goal) es) ≡ Ok tt
    → (q : List (List ℕ)) (e : Entry) → finite.find path_cmp q es ≡ Some e → Lands t (goal ++ q) e
each_lands t goal [] all q e is = absurd cc
each_lands t goal (f ∷ es) all q e is =
    let first = bind_ok (fits (goal ++ f.0)) (λ _. meets (finite.get t (goal ++ f.0)) f.1 >>= λ _. all_land t (map (moved 0 goal) es)) tt
    (grouped (fits (goal ++ f.0)) all) in
    let second = bind_ok (meets (finite.get t (goal ++ f.0)) f.1) (λ _. all_land t (map (moved 0 goal) es)) tt first.2 in
    by_tie (eq_by_cmp path_cmp q f.0) refl first.1 second.1 (each_lands t goal es second.2 q e) is
  where
    grouped : (r : Result (Unit {0}) TreeFault) → (r >>= λ _. meets (finite.get t (goal ++ f.0)) f.1 >>= λ _. all_land t (map (moved 0 goal) es)) ≡ Ok tt
        → (r >>= (λ _. meets (finite.get t (goal ++ f.0)) f.1 >>= λ _. all_land t (map (moved 0 goal) es))) ≡ Ok tt
    grouped (Ok u) is = is
    grouped (Err x) is = absurd cc

    by_tie : (b : Bool) → eq_by_cmp path_cmp q f.0 ≡ b → fits (goal ++ f.0) ≡ Ok tt → meets (finite.get t (goal ++ f.0)) f.1 ≡ Ok tt
        → (finite.find path_cmp q es ≡ Some e → Lands t (goal ++ q) e) → cond b (Some f.1) (finite.find path_cmp q es) ≡ Some e → Lands t (goal ++ q) e
    by_tie true tie fit meet rest is =
        let key : f.0 ≡ q = sym (same_path q f.0 tie) in
        let value : f.1 ≡ e = cc in
        record { fits = ap (λ k. fits (goal ++ k)) (sym key) ∙ fit; meets = (λ i. meets (finite.get t (goal ++ sym key i)) (sym value i)) ∙ meet }
    by_tie false tie fit meet rest is = rest is

-- ---- the merged part in place of what was there

places-Ok : (p : List (List ℕ)) (qs : List (List (List ℕ)))
    → ((i : ℕ) (q : List (List ℕ)) → slice_get qs i ≡ Some q → length p + length q ≤ 128) → places_fit p qs ≡ Ok tt
places-Ok p [] short = refl
places-Ok p (q ∷ qs) short =
    ap (λ b. cond b (Err BadName) (places_fit p qs)) (le-ltb 128 (length p + length q) (short 0 q refl))
    ∙ places-Ok p qs (λ i. short (suc i))

record EntryAt (es : List Pair) (i : ℕ) (q : List (List ℕ)) : Type 0 where
  entry : Entry
  is : slice_get es i ≡ Some (q, entry)

entry_at : (es : List Pair) (i : ℕ) (q : List (List ℕ)) → slice_get (map (λ e. e.0) es) i ≡ Some q → EntryAt es i q
entry_at [] i q is = absurd cc
entry_at (e ∷ es) zero q is = let same : e.0 ≡ q = cc in record { entry = e.1; is = ap (λ k. Some (k, e.1)) same }
entry_at (e ∷ es) (suc i) q is = let rest = entry_at es i q is in record { entry = rest.entry; is = rest.is }

module _ (given : MetaValue → MetaValue) (here source t : TreeMap) (goal : List (List ℕ)) (tree : IsTree t)
    (same : (q : List (List ℕ)) → finite.get here q ≡ finite.get t (goal ++ q)) (all : all_land t (map (moved 0 goal) (finite.entries source)) ≡ Ok tt) where
  lands : (q : List (List ℕ)) (e : Entry) → finite.get source q ≡ Some e → Lands t (goal ++ q) e
  lands q e is = each_lands t goal (finite.entries source) all q e (sym (finite.get-entries source q) ∙ is)

  -- where every entry can land, no file of the source meets a directory at the target, or the other way round
  pub agrees : AgreeOn here source
  agrees q e is = ap (λ o. meets o e) (same q) ∙ (lands q e is).meets

  abbrev both : TreeMap
  both = laid_on given here (finite.entries source)

  short : (q : List (List ℕ)) → IsSome (finite.get both q) → length goal + length q ≤ 128
  short q there = by_side (finite.get here q) refl (finite.get source q) refl
    where
      by_side : (o : Option Entry) → finite.get here q ≡ o → (s : Option Entry) → finite.get source q ≡ s → length goal + length q ≤ 128
      by_side (Some d) is s own = let can = tree.allowed (goal ++ q) d (sym (same q) ∙ is) in omega (arith, can.path.short, length-append goal q)
      by_side None is (Some e) own = omega (arith, fits_short (goal ++ q) (lands q e own).fits, length-append goal q)
      by_side None is None own = absurd (true≢false (sym there ∙ ap is_some (get-whole given here source q ∙ (λ i. laid given (is i) (own i)))))

  fit : places_fit goal (finite.keys both) ≡ Ok tt
  fit = places-Ok goal (finite.keys both) (λ i q is.
      let e = entry_at (finite.entries both) i q is in
      short q (ap is_some (finite.get-entries both q ∙ found_at (finite.entries both) i q e.entry (finite.entries_sorted both) e.is)))

  laid_there : (q : List (List ℕ)) → finite.get (with_tree t goal both) q ≡ finite.get (laid_on given t (map (moved 0 goal) (finite.entries source))) q
  laid_there q = by_test (is_within goal q) refl
    where
      below : (r : List (List ℕ)) → finite.get (with_tree t goal both) (goal ++ r)
          ≡ finite.get (laid_on given t (map (moved 0 goal) (finite.entries source))) (goal ++ r)
      below r =
          get_inside t goal both r
          ∙ get-laid_on given here (finite.entries source) r
          ∙ (λ i. laid given (same r i) (sym (find_moved goal r (finite.entries source)) i))
          ∙ sym (get-laid_on given t (map (moved 0 goal) (finite.entries source)) (goal ++ r))

      by_test : (b : Bool) → is_within goal q ≡ b → finite.get (with_tree t goal both) q
          ≡ finite.get (laid_on given t (map (moved 0 goal) (finite.entries source))) q
      by_test true is =
          ap (finite.get (with_tree t goal both)) (within_split goal q is)
          ∙ below (drop (length goal) q)
          ∙ ap (finite.get (laid_on given t (map (moved 0 goal) (finite.entries source)))) (sym (within_split goal q is))
      by_test false is =
          get_outside t goal both q is
          ∙ sym (get-laid_on given t (map (moved 0 goal) (finite.entries source)) q
          ∙ ap (laid given (finite.get t q)) (find_beside goal q (finite.entries source) is))

  -- grafting the merged part has the same result as landing the entries
  pub graft_lands : IsDirAt (finite.get t) goal → graft t goal both ≡ land given (map (moved 0 goal) (finite.entries source)) t
  graft_lands dir =
      ap (λ r. r >>= λ _. places_fit goal (finite.keys both) >>= λ _. Ok (with_tree t goal both)) (tree.closed goal (ap is_some dir.1))
      ∙ ap (λ r. r >>= λ _. Ok (with_tree t goal both)) fit
      ∙ ap (λ u. Ok u) (finite.same_map path_cmp-IsTotalOrder path_cmp-IsAntisymmetric (with_tree t goal both)
      (laid_on given t (map (moved 0 goal) (finite.entries source))) laid_there)
      ∙ sym (ap (λ r. r >>= λ _. Ok (laid_on given t (map (moved 0 goal) (finite.entries source)))) all)

-- ---- a directory

rest_below : (d : Entry) (es fs : List Pair) → T (finite.is_sorted path_cmp es) → es ≡ ([], d) ∷ fs → T (below_all path_cmp [] fs)
rest_below d es fs sorted is = and_first (below_all path_cmp [] fs) (finite.is_sorted path_cmp fs) (subst (λ l. T (finite.is_sorted path_cmp l)) is sorted)

module _ (given : MetaValue → MetaValue) (source t : TreeMap) (goal : List (List ℕ)) (low : length goal ≤ 128) (dir : IsDirAt (finite.get source) []) where
  abbrev es' : List Pair
  es' = map (moved 0 goal) (finite.entries source)

  entries_are : finite.entries source ≡ ([], Dir dir.0) ∷ drop 1 (finite.entries source)
  entries_are =
      let first = entries-root source (Dir dir.0) dir.1 in
      first.1 ∙ ap (λ es. ([], Dir dir.0) ∷ drop 1 es) (sym first.1)

  first_lands : all_land t es' ≡ (meets (finite.get t goal) (Dir dir.0) >>= λ _. all_land t (map (moved 0 goal) (drop 1 (finite.entries source))))
  first_lands =
      ap (λ l. all_land t (map (moved 0 goal) l)) entries_are
      ∙ ap (λ p. fits p >>= λ _. meets (finite.get t p) (Dir dir.0) >>= λ _. all_land t (map (moved 0 goal) (drop 1 (finite.entries source)))) (append-nil goal)
      ∙ ap (λ r. r >>= λ _. meets (finite.get t goal) (Dir dir.0) >>= λ _. all_land t (map (moved 0 goal) (drop 1 (finite.entries source)))) (fits-Ok goal low)

  -- if a file is at the target, a directory can't land there
  pub dir_refused : IsTree t → IsSome (finite.get t goal) → is_dir (finite.get t goal) ≡ false → land_at given es' goal t ≡ Err Conflict
  dir_refused tree there not_dir =
      ap (λ r. r >>= λ _. land given es' t) (tree.closed goal there)
      ∙ ap (λ r. r >>= λ _. Ok (laid_on given t es')) (first_lands
      ∙ ap (λ r. r >>= λ _. all_land t (map (moved 0 goal) (drop 1 (finite.entries source)))) (refused (finite.get t goal) there not_dir))
    where
      refused : (o : Option Entry) → IsSome o → is_dir o ≡ false → meets o (Dir dir.0) ≡ Err Conflict
      refused None there not_dir = absurd (true≢false (sym there))
      refused (Some (Dir m)) there not_dir = absurd (true≢false not_dir)
      refused (Some (File m b)) there not_dir = refl

  -- something is at the target, so the walk to it can't fail, and only the landing decides
  pub walks_there : IsTree t → IsSome (finite.get t goal) → land_at given es' goal t ≡ land given es' t
  walks_there tree there = ap (λ r. r >>= λ _. land given es' t) (tree.closed goal there)

  -- nothing is at the target: the directory is put there first
  module _ (u : TreeMap) (none : finite.get t goal ≡ None) (put_there : put_some (laid given None (finite.get source [])) t goal ≡ Ok u) where
    put_as_dir : put_dir t goal (given dir.0) ≡ Ok u
    put_as_dir = ap (λ o. put_some (laid given None o) t goal) (sym dir.1) ∙ put_there

    walks : walk (finite.get t) goal ≡ Ok tt
    walks = (bind_ok (walk (finite.get t) goal) (λ _. dir_fits (finite.get t goal) >>= λ _. Ok (finite.insert t goal (Dir (given dir.0)))) u put_as_dir).1

    u_is : finite.insert t goal (Dir (given dir.0)) ≡ u
    u_is =
        same_Ok (sym (ap (λ r. r >>= λ _. dir_fits (finite.get t goal) >>= λ _. Ok (finite.insert t goal (Dir (given dir.0)))) walks
        ∙ ap (λ o. dir_fits o >>= λ _. Ok (finite.insert t goal (Dir (given dir.0)))) none) ∙ put_as_dir)

    u_goal : finite.get u goal ≡ Some (Dir (given dir.0))
    u_goal =
        ap (λ x. finite.get x goal) (sym u_is) ∙ finite.get-insert path_cmp-IsTotalOrder t goal (Dir (given dir.0)) goal
        ∙ ap (λ b. cond b (Some (Dir (given dir.0))) (finite.get t goal)) (ties_itself goal)

    u_other : (q : List (List ℕ)) → eq_by_cmp path_cmp q goal ≡ false → finite.get u q ≡ finite.get t q
    u_other q other =
        ap (λ x. finite.get x q) (sym u_is) ∙ finite.get-insert path_cmp-IsTotalOrder t goal (Dir (given dir.0)) q
        ∙ ap (λ b. cond b (Some (Dir (given dir.0))) (finite.get t q)) other

    below_other : (n : List ℕ) (k : List (List ℕ)) → eq_by_cmp path_cmp (goal ++ n ∷ k) goal ≡ false
    below_other n k = by_tie (eq_by_cmp path_cmp (goal ++ n ∷ k) goal) refl
      where
        by_tie : (b : Bool) → eq_by_cmp path_cmp (goal ++ n ∷ k) goal ≡ b → b ≡ false
        by_tie false tie = refl
        by_tie true tie =
            let long : length (goal ++ n ∷ k) ≡ length goal = ap length (same_path (goal ++ n ∷ k) goal tie) in
            absurd (omega (arith, length-append goal (n ∷ k)))

    tail_lands : (fs : List Pair) → T (below_all path_cmp [] fs) → all_land u (map (moved 0 goal) fs) ≡ all_land t (map (moved 0 goal) fs)
    tail_lands [] h = refl
    tail_lands (([], x) ∷ fs) h = absurd h
    tail_lands ((n ∷ k, x) ∷ fs) h =
        λ i. fits (goal ++ n ∷ k) >>= λ _. meets (u_other (goal ++ n ∷ k) (below_other n k) i) x >>= λ _. tail_lands fs h i

    tail_below : T (below_all path_cmp [] (drop 1 (finite.entries source)))
    tail_below = rest_below (Dir dir.0) (finite.entries source) (drop 1 (finite.entries source)) (finite.entries_sorted source) entries_are

    all_same : all_land u es' ≡ all_land t es'
    all_same =
        first_lands_u
        ∙ ap (λ o. meets o (Dir dir.0) >>= λ _. all_land u (map (moved 0 goal) (drop 1 (finite.entries source)))) u_goal
        ∙ tail_lands (drop 1 (finite.entries source)) tail_below
        ∙ sym (first_lands ∙ ap (λ o. meets o (Dir dir.0) >>= λ _. all_land t (map (moved 0 goal) (drop 1 (finite.entries source)))) none)
      where
        first_lands_u : all_land u es' ≡ (meets (finite.get u goal) (Dir dir.0) >>= λ _. all_land u (map (moved 0 goal) (drop 1 (finite.entries source))))
        first_lands_u =
            ap (λ l. all_land u (map (moved 0 goal) l)) entries_are
            ∙ ap (λ p. fits p >>= λ _. meets (finite.get u p) (Dir dir.0)
            >>= λ _. all_land u (map (moved 0 goal) (drop 1 (finite.entries source)))) (append-nil goal)
            ∙ ap (λ r. r >>= λ _. meets (finite.get u goal) (Dir dir.0)
            >>= λ _. all_land u (map (moved 0 goal) (drop 1 (finite.entries source)))) (fits-Ok goal low)

    root_found : finite.find path_cmp goal es' ≡ Some (Dir dir.0)
    root_found = ap (λ p. finite.find path_cmp p es') (sym (append-nil goal)) ∙ find_moved goal [] (finite.entries source)
        ∙ sym (finite.get-entries source []) ∙ dir.1

    laid_same : (q : List (List ℕ)) → laid given (finite.get u q) (finite.find path_cmp q es') ≡ laid given (finite.get t q) (finite.find path_cmp q es')
    laid_same q = by_tie (eq_by_cmp path_cmp q goal) refl
      where
        at_goal : laid given (finite.get u goal) (finite.find path_cmp goal es') ≡ laid given (finite.get t goal) (finite.find path_cmp goal es')
        at_goal = (λ i. laid given (u_goal i) (root_found i)) ∙ sym (λ i. laid given (none i) (root_found i))

        by_tie : (b : Bool) → eq_by_cmp path_cmp q goal ≡ b → laid given (finite.get u q) (finite.find path_cmp q es')
            ≡ laid given (finite.get t q) (finite.find path_cmp q es')
        by_tie true tie =
            let same = same_path q goal tie in
            ap (λ k. laid given (finite.get u k) (finite.find path_cmp k es')) same ∙ at_goal
            ∙ ap (λ k. laid given (finite.get t k) (finite.find path_cmp k es')) (sym same)
        by_tie false tie = ap (λ o. laid given o (finite.find path_cmp q es')) (u_other q tie)

    -- the result of the landing is the same whether the directory is put first or not
    pub dir_made : land given es' u ≡ land_at given es' goal t
    dir_made =
        ap (λ r. r >>= λ _. Ok (laid_on given u es')) all_same
        ∙ ap (λ x. all_land t es' >>= λ _. Ok x)
        (finite.same_map path_cmp-IsTotalOrder path_cmp-IsAntisymmetric (laid_on given u es') (laid_on given t es')
        (λ q. get-laid_on given u es' q ∙ laid_same q ∙ sym (get-laid_on given t es' q)))
        ∙ sym (ap (λ r. r >>= λ _. land given es' t) walks)

    -- once it is put, a directory is at the target
    pub dir_is_made : is_dir (finite.get u goal) ≡ true
    dir_is_made = ap is_dir u_goal

-- ---- a file

pub record HasFile (o : Option Entry) : Type 0 where
  pub meta : MetaValue
  pub content : List ℕ
  pub is : o ≡ Some (File meta content)

-- an entry that is not a directory is a file, with a meta and a content
pub has_file : (o : Option Entry) → IsSome o → is_dir o ≡ false → HasFile o
has_file None there not_dir = absurd (true≢false (sym there))
has_file (Some (Dir m)) there not_dir = absurd (true≢false not_dir)
has_file (Some (File m b)) there not_dir = record { meta = m; content = b; is = refl }

module _ (given : MetaValue → MetaValue) (t : TreeMap) (goal : List (List ℕ)) (m : MetaValue) (b : List ℕ) (low : length goal ≤ 128) (tree : IsTree t) where
  abbrev one : List Pair
  one = (goal, File m b) ∷ []

  -- if a directory is at the target, a file can't land there
  pub file_refused : is_dir (finite.get t goal) ≡ true → land_at given one goal t ≡ Err Conflict
  file_refused is =
      by_there (finite.get t goal) refl is
    where
      by_there : (o : Option Entry) → finite.get t goal ≡ o → is_dir o ≡ true → land_at given one goal t ≡ Err Conflict
      by_there None there is = absurd (true≢false (sym is))
      by_there (Some (File n c)) there is = absurd (true≢false (sym is))
      by_there (Some (Dir n)) there is =
          ap (λ r. r >>= λ _. land given one t) (tree.closed goal (ap is_some there))
          ∙ ap (λ r. (r >>= λ _. meets (finite.get t goal) (File m b) >>= λ _. Ok tt) >>= λ _. Ok (laid_on given t one)) (fits-Ok goal low)
          ∙ ap (λ o. (meets o (File m b) >>= λ _. Ok tt) >>= λ _. Ok (laid_on given t one)) there

  one_laid : laid_on given t one ≡ finite.insert t goal (File (given m) b)
  one_laid = finite.same_map path_cmp-IsTotalOrder path_cmp-IsAntisymmetric (laid_on given t one) (finite.insert t goal (File (given m) b)) (λ q.
      get-laid_on given t one q ∙ by_tie q (eq_by_cmp path_cmp q goal) ∙ sym (finite.get-insert path_cmp-IsTotalOrder t goal (File (given m) b) q))
    where
      own : (o : Option Entry) → landed given o (File m b) ≡ File (given m) b
      own None = refl
      own (Some (Dir n)) = refl
      own (Some (File n c)) = refl

      by_tie : (q : List (List ℕ)) (x : Bool) → laid given (finite.get t q) (cond x (Some (File m b)) None) ≡ cond x (Some (File (given m) b)) (finite.get t q)
      by_tie q true = ap Some (own (finite.get t q))
      by_tie q false = refl

  -- with no directory at the target, the landing of one file is the edit that puts it
  pub file_lands : is_dir (finite.get t goal) ≡ false → land_at given one goal t ≡ put (File (given m) b) t goal
  file_lands not_dir =
      ap (λ x. walk (finite.get t) goal >>= λ _. x) (lands_one ∙ sym fits_one)
      ∙ sym (ap (λ r. r >>= λ _. walk (finite.get t) goal >>= λ _. file_fits (finite.get t goal)
      >>= λ _. Ok (finite.insert t goal (File (given m) b))) (named goal refl))
    where
      meets_one : (o : Option Entry) → is_dir o ≡ false → meets o (File m b) ≡ Ok tt
      meets_one None is = refl
      meets_one (Some (Dir n)) is = absurd (true≢false is)
      meets_one (Some (File n c)) is = refl

      fits_file : (o : Option Entry) → is_dir o ≡ false → file_fits o ≡ Ok tt
      fits_file None is = refl
      fits_file (Some (Dir n)) is = absurd (true≢false is)
      fits_file (Some (File n c)) is = refl

      lands_one : land given one t ≡ Ok (finite.insert t goal (File (given m) b))
      lands_one =
          ap (λ r. (r >>= λ _. meets (finite.get t goal) (File m b) >>= λ _. Ok tt) >>= λ _. Ok (laid_on given t one)) (fits-Ok goal low)
          ∙ ap (λ r. (r >>= λ _. Ok tt) >>= λ _. Ok (laid_on given t one)) (meets_one (finite.get t goal) not_dir)
          ∙ ap (λ x. Ok x) one_laid

      fits_one : (file_fits (finite.get t goal) >>= λ _. Ok (finite.insert t goal (File (given m) b))) ≡ Ok (finite.insert t goal (File (given m) b))
      fits_one = ap (λ r. r >>= λ _. Ok (finite.insert t goal (File (given m) b))) (fits_file (finite.get t goal) not_dir)

      named : (p : List (List ℕ)) → p ≡ goal → not_root goal ≡ Ok tt
      named [] is = absurd (true≢false (sym (ap is_dir (ap (finite.get t) (sym is) ∙ tree.root.1)) ∙ not_dir))
      named (n ∷ p) is = ap not_root (sym is)

-- ---- the parents that are made

-- making a directory keeps the directories that are there
pub keeps_dir : (m : MetaValue) (p : List (List ℕ)) (t u : TreeMap) → kept_or_made m p (finite.get t p) t ≡ Ok u → (q : List (List ℕ))
    → IsDirAt (finite.get t) q → IsDirAt (finite.get u) q
keeps_dir m p t u is q dir = by_there (finite.get t p) is
  where
    by_there : (o : Option Entry) → kept_or_made m p o t ≡ Ok u → IsDirAt (finite.get u) q
    by_there (Some (Dir n)) is = let same : t ≡ u = same_Ok is in subst (λ x. IsDirAt (finite.get x) q) same dir
    by_there (Some (File n b)) is = absurd cc
    by_there None is =
        let walks = bind_ok (walk (finite.get t) p) (λ _. dir_fits (finite.get t p) >>= λ _. Ok (finite.insert t p (Dir m))) u is in
        let fit = bind_ok (dir_fits (finite.get t p)) (λ _. Ok (finite.insert t p (Dir m))) u walks.2 in
        subst (λ x. IsDirAt (finite.get x) q) (same_Ok fit.2)
        (get-insert_cases (λ o. (n : MetaValue) × (o ≡ Some (Dir n))) t p (Dir m) q (λ same. (m, refl)) dir)

-- a directory is at the path where one is made or kept
pub makes_dir : (m : MetaValue) (p : List (List ℕ)) (t u : TreeMap) → kept_or_made m p (finite.get t p) t ≡ Ok u → IsDirAt (finite.get u) p
makes_dir m p t u is = by_there (finite.get t p) refl is
  where
    by_there : (o : Option Entry) → finite.get t p ≡ o → kept_or_made m p o t ≡ Ok u → IsDirAt (finite.get u) p
    by_there (Some (Dir n)) there is = subst (λ x. IsDirAt (finite.get x) p) (same_Ok is) (n, there)
    by_there (Some (File n b)) there is = absurd cc
    by_there None there is =
        let walks = bind_ok (walk (finite.get t) p) (λ _. dir_fits (finite.get t p) >>= λ _. Ok (finite.insert t p (Dir m))) u is in
        let fit = bind_ok (dir_fits (finite.get t p)) (λ _. Ok (finite.insert t p (Dir m))) u walks.2 in
        subst (λ x. IsDirAt (finite.get x) p) (same_Ok fit.2)
        (m, finite.get-insert path_cmp-IsTotalOrder t p (Dir m) p ∙ ap (λ b. cond b (Some (Dir m)) (finite.get t p)) (ties_itself p))

all_keep : (m : MetaValue) (ps : List (List (List ℕ))) (t u : TreeMap) → make_all m ps t ≡ Ok u → (q : List (List ℕ))
    → IsDirAt (finite.get t) q → IsDirAt (finite.get u) q
all_keep m [] t u is q dir = subst (λ x. IsDirAt (finite.get x) q) (same_Ok is) dir
all_keep m (p ∷ ps) t u is q dir =
    let step = bind_ok (kept_or_made m p (finite.get t p) t) (make_all m ps) u is in
    all_keep m ps step.0 u step.2 q (keeps_dir m p t step.0 step.1 q dir)

all_made : (m : MetaValue) (ps : List (List (List ℕ))) (t u : TreeMap) → make_all m ps t ≡ Ok u → all_dirs (map (finite.get u) ps) ≡ Ok tt
all_made m [] t u is = refl
all_made m (p ∷ ps) t u is =
    let step = bind_ok (kept_or_made m p (finite.get t p) t) (make_all m ps) u is in
    let dir = all_keep m ps step.0 u step.2 p (makes_dir m p t step.0 step.1) in
    ap (λ o. all_dirs (o ∷ map (finite.get u) ps)) dir.1 ∙ all_made m ps step.0 u step.2

pub walk_after : (m : MetaValue) (p : List (List ℕ)) (t u : TreeMap) → make_all m (parents p) t ≡ Ok u → walk (finite.get u) p ≡ Ok tt
walk_after m p t u is = all_made m (parents p) t u is

-- the subtree of a directory is the tree of what is at or below it
pub subtree_is : (t : TreeMap) (p : List (List ℕ)) (u : TreeMap) → subtree t p ≡ Ok u → u ≡ tree_at t p
subtree_is t p u is = sym (same_Ok (bind_ok (dir_there t p) (λ _. Ok (tree_at t p)) u is).2)

-- the subtree of a tree is a tree
pub IsTree-subtree : (t : TreeMap) (p : List (List ℕ)) (u : TreeMap) → IsTree t → subtree t p ≡ Ok u → IsTree u
IsTree-subtree t p u tree is = subst IsTree (sym (subtree_is t p u is)) (IsTree-tree_at t p tree (bind_ok (dir_there t p) (λ _. Ok (tree_at t p)) u is).1)

-- ---- one source

module _ (c : CopyFile) (second : TreeMap) (s place goal : List (List ℕ)) (t : TreeMap) (is : placed place ≡ Ok goal) where
  place_is : place ≡ goal
  place_is = same_Ok (bind_ok (fits place) (λ _. Ok place) goal is).2

  pub place_short : length goal ≤ 128
  place_short = fits_short goal (ap fits (sym place_is) ∙ (bind_ok (fits place) (λ _. Ok place) goal is).1)

  abbrev given : MetaValue → MetaValue
  given = copied c.mode c.owner

  fits_place : copy_to c second s place t ≡ (parents_for c.create_dest_path goal t >>= land given (at_target second s goal))
  fits_place =
      ap (λ p. copy_to c second s p t) place_is
      ∙ ap (λ r. r >>= λ _. parents_for c.create_dest_path goal t >>= land given (at_target second s goal)) (fits-Ok goal place_short)

  -- a copy that makes its missing parents lands in the tree that has them
  pub copy_made : (u : TreeMap) → c.create_dest_path ≡ true → make_all new_dir_meta (parents goal) t ≡ Ok u
      → copy_to c second s place t ≡ land_at given (at_target second s goal) goal u
  copy_made u create made =
      fits_place
      ∙ ap (λ b. parents_for b goal t >>= land given (at_target second s goal)) create
      ∙ ap (λ r. r >>= land given (at_target second s goal)) made
      ∙ sym (ap (λ r. r >>= λ _. land given (at_target second s goal) u) (walk_after new_dir_meta goal t u made))

  -- a copy that makes no parents lands in the tree as it is
  pub copy_kept : c.create_dest_path ≡ false → copy_to c second s place t ≡ land_at given (at_target second s goal) goal t
  copy_kept create = fits_place ∙ ap (λ b. parents_for b goal t >>= land given (at_target second s goal)) create ∙ by_walk (walk (finite.get t) goal)
    where
      by_walk : (r : Result (Unit {0}) TreeFault) → ((r >>= λ _. Ok t) >>= land given (at_target second s goal))
          ≡ (r >>= λ _. land given (at_target second s goal) t)
      by_walk (Ok x) = refl
      by_walk (Err e) = refl
