-- Alike trees: their entries, their paths, and what a tree's edits and tests make of them.
use Rattle.std.proofs.Common.{◌≡◌, ℕ, suc, Bool, true, false, cond, not, ◌||◌, ◌&&◌, ◌==◌, T, List, [], ◌∷◌, length, map, drop, get_or, Option, Some, None}
use Rattle.std.proofs.Common.{refl, sym, ap, subst, ◌∙◌}
use Rattle.std.specs.Prelude.{Result, Ok, Err, slice_get, option_map}
use Rattle.std.specs.List.{All, list_any, flat_map}
use Rattle.std.proofs.lemmas.List.Elements.{All-nil, All-cons, All-head, All-tail, All-append, All-drop, All-map}
use Rattle.std.specs.declared.cmp.Ordering.TheVariants.{Equal}
use Rattle.std.specs.Ordering.{eq_by_cmp, is_lt}
use Rattle.std.specs.FinMap as finite
use Rattle.std.specs.FinMap.Entries.{below_all, same_entries}
use Rattle.llb_wire.specs.CallResults.{◌>>=◌}
use Rattle.llb_tree.specs.Path.{path_cmp, is_within}
use Rattle.llb_tree.specs.PathOrder.{path_cmp-IsTotalOrder, path_cmp-IsAntisymmetric, same_path}
use Rattle.llb_tree.specs.ModeAndOwner.{MetaValue, new_dir_meta}
use Rattle.llb_tree.specs.Tree.{TreeMap, Entry, Dir, File, Look, parents, all_dirs, walk, file_fits, dir_fits, not_root, put_file, put_dir, found, without}
use Rattle.llb_tree.specs.Tree.{remove}
use Rattle.llb_tree.specs.Tree.{list, name_below, is_dir, empty_tree}
use Rattle.llb_tree.specs.Overlay.{is_file, below_file}
use Rattle.llb_tree.specs.declared.fault.TreeFault.{TreeFault}
use Rattle.llb_merge.specs.Laying.{or_else, lay_at, lay}
use Rattle.llb_merge.proofs.LayingProperties.{get-lay}
use Rattle.llb_fileop.proofs.PathOrderTraversal.{Pair, found_at}
use Rattle.llb_laws.specs.AlikeTrees.{BothOptions, BothResults, BothLists, AreLike, AreAlike}
use Rattle.llb_model.proofs.ConstructorEqualities.{none_some}
use Rattle.llb_laws.proofs.AlikeValues.{carry_options, cond_options, after_same, InResult, in_after, unread}
use Rattle.llb_laws.proofs.AlikeTreesWithNames.{IsNamed, Alike}

-- ---- paths

-- the paths of entries, with one number at each
abbrev mark_of : Entry → ℕ
mark_of e = 0

abbrev mark : Option ℕ
mark = Some 0

abbrev marks : List Pair → List (List (List ℕ) × ℕ)
marks es = map (λ e. (e.0, 0)) es

find_marks : (q : List (List ℕ)) (es : List Pair) → finite.find path_cmp q (marks es) ≡ option_map mark_of (finite.find path_cmp q es)
find_marks q [] = refl
find_marks q (e ∷ es) =
    ap (cond (eq_by_cmp path_cmp q e.0) mark) (find_marks q es)
    ∙ elim (eq_by_cmp path_cmp q e.0)
    as (λ b. cond b mark (option_map mark_of (finite.find path_cmp q es)) ≡ option_map mark_of (cond b (Some e.1) (finite.find path_cmp q es)))
    [ true ↦ refl | false ↦ refl ]

below_marks : (q : List (List ℕ)) (es : List Pair) → below_all path_cmp q (marks es) ≡ below_all path_cmp q es
below_marks q [] = refl
below_marks q (e ∷ es) = ap (λ b. is_lt (path_cmp q e.0) && b) (below_marks q es)

sorted_marks : (es : List Pair) → finite.is_sorted path_cmp (marks es) ≡ finite.is_sorted path_cmp es
sorted_marks [] = refl
sorted_marks (e ∷ es) = let first = below_marks e.0 es in let rest = sorted_marks es in λ i. first i && rest i

paths_of_marks : (es : List Pair) → map (λ e. e.0) (marks es) ≡ map (λ e. e.0) es
paths_of_marks [] = refl
paths_of_marks (e ∷ es) = ap (λ ps. e.0 ∷ ps) (paths_of_marks es)

-- an entry of one tree at the path of an entry of another
abbrev pub ArePairs : (List ℕ → List ℕ → Type 0) → Pair → Pair → Type 0
ArePairs R e f = (e.0 ≡ f.0) × AreLike R e.1 f.1

-- the entries of a list are those of a tree
HasEach : TreeMap → List Pair → Type 0
HasEach t es = (i : ℕ) (k : List (List ℕ)) (e : Entry) → slice_get es i ≡ Some (k, e) → finite.get t k ≡ Some e

has_each : (t : TreeMap) → HasEach t (finite.entries t)
unfolding HasEach
has_each t i k e there = finite.get-entries t k ∙ found_at (finite.entries t) i k e (finite.entries_sorted t) there

module _ (R : List ℕ → List ℕ → Type 0) where
  -- alike trees have the same paths
  pub same_keys : (t u : TreeMap) → AreAlike R t u → finite.keys t ≡ finite.keys u
  same_keys t u h =
      let there : (q : List (List ℕ)) → finite.find path_cmp q (marks (finite.entries t)) ≡ finite.find path_cmp q (marks (finite.entries u)) =
      λ q. find_marks q (finite.entries t) ∙ ap (option_map mark_of) (sym (finite.get-entries t q))
      ∙ unread R (option_map mark_of) (λ m a b. refl) (finite.get t q) (finite.get u q) (h q)
      ∙ ap (option_map mark_of) (finite.get-entries u q) ∙ sym (find_marks q (finite.entries u)) in
      sym (paths_of_marks (finite.entries t))
      ∙ ap (map (λ e. e.0)) (same_entries path_cmp path_cmp-IsTotalOrder path_cmp-IsAntisymmetric (marks (finite.entries t)) (marks (finite.entries u))
      (subst T (sym (sorted_marks (finite.entries t))) (finite.entries_sorted t))
      (subst T (sym (sorted_marks (finite.entries u))) (finite.entries_sorted u)) there)
      ∙ paths_of_marks (finite.entries u)

  pairs : (t u : TreeMap) → AreAlike R t u → (es fs : List Pair) → HasEach t es → HasEach u fs → map (λ e. e.0) es ≡ map (λ e. e.0) fs
      → BothLists (ArePairs R) es fs
  unfolding HasEach
  pairs t u h [] [] first second same = tt
  pairs t u h (e ∷ es) (f ∷ fs) first second same =
      let key : e.0 ≡ f.0 = ap (λ ks. get_or ks 0 e.0) same in
      let like : BothOptions (AreLike R) (Some e.1) (Some f.1) =
      carry_options (AreLike R) (Some e.1) (finite.get t e.0) (Some f.1) (finite.get u e.0) (sym (first 0 e.0 e.1 refl))
      (sym (second 0 f.0 f.1 refl) ∙ ap (finite.get u) (sym key)) (h e.0) in
      ((key, like), pairs t u h es fs (λ i. first (suc i)) (λ i. second (suc i)) (ap (drop 1) same))
  pairs t u h [] (f ∷ fs) first second same = absurd cc
  pairs t u h (e ∷ es) [] first second same = absurd cc

  -- alike trees have like entries, in the same order
  pub both_entries : (t u : TreeMap) → AreAlike R t u → BothLists (ArePairs R) (finite.entries t) (finite.entries u)
  both_entries t u h = pairs t u h (finite.entries t) (finite.entries u) (has_each t) (has_each u) (same_keys t u h)

  -- what is found among like entries is like
  pub find_both : (es fs : List Pair) → BothLists (ArePairs R) es fs → (q : List (List ℕ))
      → BothOptions (AreLike R) (finite.find path_cmp q es) (finite.find path_cmp q fs)
  find_both [] [] h q = tt
  find_both (e ∷ es) (f ∷ fs) h q =
      cond_options (AreLike R) (eq_by_cmp path_cmp q e.0) (eq_by_cmp path_cmp q f.0) (Some e.1) (Some f.1) (finite.find path_cmp q es)
      (finite.find path_cmp q fs)
      (ap (eq_by_cmp path_cmp q) h.0.0) h.0.1 (find_both es fs h.1 q)
  find_both [] (f ∷ fs) h q = absurd h
  find_both (e ∷ es) [] h q = absurd h

  -- ---- tests

  dirs_same : (f g : Look) → ((q : List (List ℕ)) → BothOptions (AreLike R) (f q) (g q)) → (ps : List (List (List ℕ)))
      → all_dirs (map f ps) ≡ all_dirs (map g ps)
  dirs_same f g like [] = refl
  dirs_same f g like (p ∷ ps) =
      unread R (λ o. all_dirs (o ∷ map f ps)) (λ m a b. refl) (f p) (g p) (like p) ∙ by_here (g p) (dirs_same f g like ps)
    where
      by_here : (o : Option Entry) → all_dirs (map f ps) ≡ all_dirs (map g ps) → all_dirs (o ∷ map f ps) ≡ all_dirs (o ∷ map g ps)
      by_here None rest = refl
      by_here (Some (File m b)) rest = refl
      by_here (Some (Dir m)) rest = rest

  pub walk_same : (t u : TreeMap) → AreAlike R t u → (p : List (List ℕ)) → walk (finite.get t) p ≡ walk (finite.get u) p
  walk_same t u h p = dirs_same (finite.get t) (finite.get u) h (parents p)

  files_same : (f g : Look) → ((q : List (List ℕ)) → BothOptions (AreLike R) (f q) (g q)) → (ps : List (List (List ℕ)))
      → list_any is_file (map f ps) ≡ list_any is_file (map g ps)
  files_same f g like [] = refl
  files_same f g like (p ∷ ps) =
      let first = unread R is_file (λ m a b. refl) (f p) (g p) (like p) in let rest = files_same f g like ps in λ i. first i || rest i

  -- ---- edits

  like_insert : (t u : TreeMap) → AreAlike R t u → (p : List (List ℕ)) (e f : Entry) → AreLike R e f
      → AreAlike R (finite.insert t p e) (finite.insert u p f)
  like_insert t u h p e f like q =
      carry_options (AreLike R) (finite.get (finite.insert t p e) q) (cond (eq_by_cmp path_cmp q p) (Some e) (finite.get t q))
      (finite.get (finite.insert u p f) q) (cond (eq_by_cmp path_cmp q p) (Some f) (finite.get u q))
      (finite.get-insert path_cmp-IsTotalOrder t p e q) (finite.get-insert path_cmp-IsTotalOrder u p f q)
      (cond_options (AreLike R) (eq_by_cmp path_cmp q p) (eq_by_cmp path_cmp q p) (Some e) (Some f) (finite.get t q) (finite.get u q) refl like (h q))

  like_retain : (t u : TreeMap) → AreAlike R t u → (p : List (List ℕ) → Bool) → AreAlike R (finite.retain_keys t p) (finite.retain_keys u p)
  like_retain t u h p q =
      let ties : (x : List (List ℕ)) → path_cmp q x ≡ Equal → p x ≡ p q = λ x tied. ap p (sym (path_cmp-IsAntisymmetric q x tied)) in
      carry_options (AreLike R) (finite.get (finite.retain_keys t p) q) (cond (p q) (finite.get t q) None)
      (finite.get (finite.retain_keys u p) q) (cond (p q) (finite.get u q) None)
      (finite.get-retain_keys t p q ties) (finite.get-retain_keys u p q ties)
      (cond_options (AreLike R) (p q) (p q) (finite.get t q) (finite.get u q) None None refl (h q) tt)

  pub found_same : (t u : TreeMap) → AreAlike R t u → (p : List (List ℕ)) → found (finite.get t p) ≡ found (finite.get u p)
  found_same t u h p = unread R found (λ m a b. refl) (finite.get t p) (finite.get u p) (h p)

  pub is_dir_same : (t u : TreeMap) → AreAlike R t u → (p : List (List ℕ)) → is_dir (finite.get t p) ≡ is_dir (finite.get u p)
  is_dir_same t u h p = unread R is_dir (λ m a b. refl) (finite.get t p) (finite.get u p) (h p)

  pub list_same : (t u : TreeMap) → AreAlike R t u → (p : List (List ℕ)) → list t p ≡ list u p
  list_same t u h p =
      let there = dirs_same (finite.get t) (finite.get u) h (p ∷ []) in
      let names = ap (flat_map (name_below p)) (same_keys t u h) in
      λ i. there i >>= λ _. Ok (names i)

  -- ---- a laying

  below_file_same : (t u : TreeMap) → AreAlike R t u → (p : List (List ℕ)) → below_file (finite.get t) p ≡ below_file (finite.get u) p
  below_file_same t u h p = files_same (finite.get t) (finite.get u) h (parents p)

  or_else_both : (o p q r : Option Entry) → BothOptions (AreLike R) o p → BothOptions (AreLike R) q r → BothOptions (AreLike R) (or_else o q) (or_else p r)
  or_else_both None None q r h k = k
  or_else_both (Some e) (Some f) q r h k = h
  or_else_both None (Some f) q r h k = absurd h
  or_else_both (Some e) None q r h k = absurd h

  -- alike trees laid over alike trees are alike
  like_lay : (t u v w : TreeMap) → AreAlike R t u → AreAlike R v w → AreAlike R (lay t v) (lay u w)
  like_lay t u v w h k q =
      carry_options (AreLike R) (finite.get (lay t v) q) (lay_at (finite.get t) (finite.get v) q) (finite.get (lay u w) q)
      (lay_at (finite.get u) (finite.get w) q)
      (get-lay t v q) (get-lay u w q)
      (or_else_both (finite.get v q) (finite.get w q) (cond (below_file (finite.get v) q) None (finite.get t q))
      (cond (below_file (finite.get w) q) None (finite.get u q)) (k q)
      (cond_options (AreLike R) (below_file (finite.get v) q) (below_file (finite.get w) q) None None (finite.get t q) (finite.get u q)
      (below_file_same v w k q) tt (h q)))

  none_alike : AreAlike R finite.empty finite.empty
  none_alike q =
      carry_options (AreLike R) (finite.get finite.empty q) None (finite.get finite.empty q) None (finite.get-empty path_cmp q) (finite.get-empty path_cmp q) tt

-- ---- names

module _ (N : List ℕ → Type 0) where
  named_insert : (t : TreeMap) → IsNamed N t → (p : List (List ℕ)) (e : Entry) → All N p → IsNamed N (finite.insert t p e)
  named_insert t h p e all q f is = by_tie (eq_by_cmp path_cmp q p) refl (sym (finite.get-insert path_cmp-IsTotalOrder t p e q) ∙ is)
    where
      by_tie : (b : Bool) → eq_by_cmp path_cmp q p ≡ b → cond b (Some e) (finite.get t q) ≡ Some f → All N q
      by_tie true tie there = subst (All N) (sym (same_path q p tie)) all
      by_tie false tie there = h q f there

  named_retain : (t : TreeMap) → IsNamed N t → (p : List (List ℕ) → Bool) → IsNamed N (finite.retain_keys t p)
  named_retain t h p q f is =
      by_test (p q) (sym (finite.get-retain_keys t p q (λ x tied. ap p (sym (path_cmp-IsAntisymmetric q x tied)))) ∙ is)
    where
      by_test : (b : Bool) → cond b (finite.get t q) None ≡ Some f → All N q
      by_test true there = h q f there
      by_test false there = absurd (none_some there)

  named_lay : (t v : TreeMap) → IsNamed N t → IsNamed N v → IsNamed N (lay t v)
  named_lay t v h k q f is = by_upper (finite.get v q) refl (sym (get-lay t v q) ∙ is)
    where
      by_below : (b : Bool) → cond b None (finite.get t q) ≡ Some f → All N q
      by_below true there = absurd (none_some there)
      by_below false there = h q f there

      by_upper : (o : Option Entry) → finite.get v q ≡ o → or_else o (cond (below_file (finite.get v) q) None (finite.get t q)) ≡ Some f → All N q
      by_upper (Some e) own there = k q e own
      by_upper None own there = by_below (below_file (finite.get v) q) there

  named_none : IsNamed N finite.empty
  named_none q f is = absurd (none_some (sym (finite.get-empty path_cmp q) ∙ is))

  keys_named : (t : TreeMap) (es : List Pair) → HasEach t es → IsNamed N t → All (λ (e : Pair). All N e.0) es
  unfolding HasEach
  keys_named t [] each h = All-nil (λ (e : Pair). All N e.0)
  keys_named t (e ∷ es) each h =
      All-cons (λ (e : Pair). All N e.0) e es (h e.0 e.1 (each 0 e.0 e.1 refl)) (keys_named t es (λ i. each (suc i)) h)

  -- the paths of a tree's entries
  pub entries_named : (t : TreeMap) → IsNamed N t → All (λ (e : Pair). All N e.0) (finite.entries t)
  entries_named t h = keys_named t (finite.entries t) (has_each t) h

  pub find_named : (es : List Pair) → All (λ (e : Pair). All N e.0) es → (q : List (List ℕ)) (f : Entry) → finite.find path_cmp q es ≡ Some f → All N q
  find_named [] all q f is = absurd (none_some is)
  find_named (e ∷ es) all q f is =
      by_tie (eq_by_cmp path_cmp q e.0) refl is (find_named es (All-tail (λ (e : Pair). All N e.0) e es all) q f)
    where
      by_tie : (b : Bool) → eq_by_cmp path_cmp q e.0 ≡ b → cond b (Some e.1) (finite.find path_cmp q es) ≡ Some f
          → (finite.find path_cmp q es ≡ Some f → All N q) → All N q
      by_tie true tie there rest = subst (All N) (sym (same_path q e.0 tie)) (All-head (λ (e : Pair). All N e.0) e es all)
      by_tie false tie there rest = rest there

  -- what a tree lists
  pub list_named : (t : TreeMap) → IsNamed N t → (p : List (List ℕ)) → InResult (All N) (list t p)
  list_named t h p =
      in_after (λ _. Unit {0}) (All N) (all_dirs (finite.get t p ∷ [])) (λ _. Ok (flat_map (name_below p) (finite.keys t)))
      (each_ok (all_dirs (finite.get t p ∷ []))) (λ _ _.
      each_below (finite.keys t) (All-map (All N) (λ (e : Pair). e.0) (finite.entries t) (entries_named t h)))
    where
      each_ok : (r : Result (Unit {0}) TreeFault) → InResult (λ _. Unit {0}) r
      each_ok (Ok u) = tt
      each_ok (Err e) = tt

      by_test : (b : Bool) (ns : List (List ℕ)) → All N ns → All N (cond b ns [])
      by_test true ns all = all
      by_test false ns all = All-nil N

      each_below : (qs : List (List (List ℕ))) → All (All N) qs → All N (flat_map (name_below p) qs)
      each_below [] all = All-nil N
      each_below (q ∷ qs) all =
          All-append N (name_below p q) (flat_map (name_below p) qs)
          (by_test (is_within p q && (length (drop (length p) q) == 1)) (drop (length p) q) (All-drop N (length p) q (All-head (All N) q qs all)))
          (each_below qs (All-tail (All N) q qs all))

-- ---- what edits make

module _ (N : List ℕ → Type 0) (R : List ℕ → List ℕ → Type 0) where
  alike_insert : (t u : TreeMap) → Alike N R t u → (p : List (List ℕ)) → All N p → (e f : Entry) → AreLike R e f
      → Alike N R (finite.insert t p e) (finite.insert u p f)
  alike_insert t u h p all e f like = record { like = like_insert R t u h.like p e f like; named = named_insert N t h.named p e all }

  pub alike_retain : (t u : TreeMap) → Alike N R t u → (p : List (List ℕ) → Bool) → Alike N R (finite.retain_keys t p) (finite.retain_keys u p)
  alike_retain t u h p = record { like = like_retain R t u h.like p; named = named_retain N t h.named p }

  pub alike_put_file : (t u : TreeMap) → Alike N R t u → (p : List (List ℕ)) → All N p → (m : MetaValue) (a b : List ℕ) → R a b
      → BothResults (Alike N R) (put_file t p m a) (put_file u p m b)
  alike_put_file t u h p all m a b r =
      after_same (Alike N R) (not_root p) (not_root p) (λ _. walk (finite.get t) p >>= λ _. file_fits (finite.get t p) >>= λ _. Ok (finite.insert t p
      (File m a)))
      (λ _. walk (finite.get u) p >>= λ _. file_fits (finite.get u p) >>= λ _. Ok (finite.insert u p (File m b))) refl (λ _.
      after_same (Alike N R) (walk (finite.get t) p) (walk (finite.get u) p) (λ _. file_fits (finite.get t p) >>= λ _. Ok (finite.insert t p (File m a)))
      (λ _. file_fits (finite.get u p) >>= λ _. Ok (finite.insert u p (File m b))) (walk_same R t u h.like p) (λ _.
      after_same (Alike N R) (file_fits (finite.get t p)) (file_fits (finite.get u p)) (λ _. Ok (finite.insert t p (File m a)))
      (λ _. Ok (finite.insert u p (File m b))) (unread R file_fits (λ m a b. refl) (finite.get t p) (finite.get u p) (h.like p)) (λ _.
      alike_insert t u h p all (File m a) (File m b) (refl, r))))

  pub alike_put_dir : (t u : TreeMap) → Alike N R t u → (p : List (List ℕ)) → All N p → (m : MetaValue)
      → BothResults (Alike N R) (put_dir t p m) (put_dir u p m)
  alike_put_dir t u h p all m =
      after_same (Alike N R) (walk (finite.get t) p) (walk (finite.get u) p) (λ _. dir_fits (finite.get t p) >>= λ _. Ok (finite.insert t p (Dir m)))
      (λ _. dir_fits (finite.get u p) >>= λ _. Ok (finite.insert u p (Dir m))) (walk_same R t u h.like p) (λ _.
      after_same (Alike N R) (dir_fits (finite.get t p)) (dir_fits (finite.get u p)) (λ _. Ok (finite.insert t p (Dir m)))
      (λ _. Ok (finite.insert u p (Dir m)))
      (unread R dir_fits (λ m a b. refl) (finite.get t p) (finite.get u p) (h.like p)) (λ _. alike_insert t u h p all (Dir m) (Dir m) refl))

  pub alike_without : (t u : TreeMap) → Alike N R t u → (p : List (List ℕ)) → Alike N R (without t p) (without u p)
  alike_without t u h p = alike_retain t u h (λ q. not (is_within p q))

  pub alike_remove : (t u : TreeMap) → Alike N R t u → (p : List (List ℕ)) → BothResults (Alike N R) (remove t p) (remove u p)
  alike_remove t u h p =
      after_same (Alike N R) (not_root p) (not_root p) (λ _. found (finite.get t p) >>= λ _. Ok (without t p))
      (λ _. found (finite.get u p) >>= λ _. Ok (without u p)) refl (λ _.
      after_same (Alike N R) (found (finite.get t p)) (found (finite.get u p)) (λ _. Ok (without t p)) (λ _. Ok (without u p)) (found_same R t u h.like p) (λ _.
      alike_without t u h p))

  -- alike trees laid over alike trees are alike
  pub alike_lay : (t u v w : TreeMap) → Alike N R t u → Alike N R v w → Alike N R (lay t v) (lay u w)
  alike_lay t u v w h k = record { like = like_lay R t u v w h.like k.like; named = named_lay N t v h.named k.named }

  -- the empty tree has no contents
  pub alike_empty : Alike N R empty_tree empty_tree
  alike_empty =
      alike_insert finite.empty finite.empty (record { like = none_alike R; named = named_none N }) [] (All-nil N) (Dir new_dir_meta) (Dir new_dir_meta) refl
