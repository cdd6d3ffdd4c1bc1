-- Actions on alike trees: they fail with one fault, or leave alike trees.
use Rattle.std.proofs.Common.{◌≡◌, ℕ, ◌-◌, Bool, true, false, cond, not, ◌||◌, ◌&&◌, nat_eq, List, [], ◌∷◌, ◌++◌, length, drop, Option, Some, None}
use Rattle.std.proofs.Common.{refl, sym, ap, subst, ◌∙◌}
use Rattle.std.specs.Prelude.{Result, Ok, Err}
use Rattle.std.specs.List.{All, ends_with, filter}
use Rattle.std.proofs.lemmas.List.Elements.{All-nil, All-cons, All-head, All-tail, All-append, All-drop, All-map, All-weaker}
use Rattle.std.specs.FinMap as finite
use Rattle.std.specs.FinMap.Entries.{where_key}
use Rattle.llb_wire.specs.CallResults.{◌>>=◌}
use Rattle.llb_ops.specs.declared.actions.MkFile as file
use Rattle.llb_ops.specs.declared.actions.MkDir as dir
use Rattle.llb_ops.specs.declared.actions.CopyFile.{CopyFile}
use Rattle.llb_ops.specs.declared.actions.Rm.{Rm}
use Rattle.llb_ops.specs.declared.file_op.ActionKind.{ActionKind}
use Rattle.llb_ops.specs.declared.file_op.ActionKind.TheVariants as kind
use Rattle.llb_tree.specs.Path.{path_cmp, path_of, is_name, is_within}
use Rattle.llb_tree.specs.ModeAndOwner.{MetaValue, new_dir_meta}
use Rattle.llb_tree.specs.Tree.{TreeMap, Entry, Dir, File, parents, walk, put_dir, put_file, not_root, moved, found, is_dir}
use Rattle.llb_tree.specs.declared.fault.TreeFault.{TreeFault}
use Rattle.llb_glob.specs.declared.item.Item.{Item}
use Rattle.llb_glob.specs.Matching.{path_matches}
use Rattle.llb_glob.specs.Pattern.{pattern_of}
use Rattle.llb_fileop.specs.declared.fault.ActFault.{ActFault}
use Rattle.llb_fileop.specs.CallResults.{on_tree, on_pattern, of_tree}
use Rattle.llb_fileop.specs.Owners.{made, copied}
use Rattle.llb_fileop.specs.Making.{mkfile, kept_or_made, make_all, with_parents, make_dir, mkdir}
use Rattle.llb_fileop.specs.Removing.{absent, removed, rm_path, matching, is_below_any, removed_all, rm_pattern, rm}
use Rattle.llb_fileop.specs.Copying.{resolved, Chosen, OnePath, EachMatch, chosen_by, some_match, sources, last_name, target, fits, meets, all_land, landed}
use Rattle.llb_fileop.specs.Copying.{laid_on, at_target, parents_for, land, copy_to, copy_one, copy_each, copy_chosen, copy}
use Rattle.llb_fileop.specs.CopyPlacement.{laid}
use Rattle.llb_fileop.specs.FileActions.{act}
use Rattle.llb_fileop.proofs.PathOrderTraversal.{Pair}
use Rattle.llb_fileop.proofs.TreeOverlays.{get-laid_on}
use Rattle.llb_laws.specs.AlikeTrees.{RelatesBody, BothOptions, BothResults, BothLists, AreLike, AreAlike}
use Rattle.llb_laws.proofs.AlikeValues.{carry_options, after_same, after_both, InResult, in_choice, in_after, after_in, by_likeness, unread, both_map}
use Rattle.llb_laws.proofs.AlikeValues.{both_filter}
use Rattle.llb_laws.proofs.AlikeTreesWithNames.{IsNamed, Alike}
use Rattle.llb_laws.proofs.PathsOfNames.{all_filter, parents_named, read_named}
use Rattle.llb_laws.proofs.AlikeTreeEdits.{same_keys, ArePairs, both_entries, find_both, walk_same, alike_put_file, alike_put_dir, alike_without}
use Rattle.llb_laws.proofs.AlikeTreeEdits.{alike_retain}
use Rattle.llb_laws.proofs.AlikeTreeEdits.{found_same, entries_named, find_named}
use Rattle.llb_laws.proofs.AlikeTreeEdits.{is_dir_same}

both_on_tree : {A : Type 0} (P : A → A → Type 0) (x y : Result A TreeFault) → BothResults P x y → BothResults P (on_tree x) (on_tree y)
both_on_tree P (Ok a) (Ok b) h = h
both_on_tree P (Err e) (Err f) h = ap of_tree h
both_on_tree P (Ok a) (Err f) h = absurd h
both_on_tree P (Err e) (Ok b) h = absurd h

in_on_tree : {A : Type 0} (P : A → Type 0) (x : Result A TreeFault) → InResult P x → InResult P (on_tree x)
in_on_tree P (Ok a) h = h
in_on_tree P (Err e) h = tt

module _ (N : List ℕ → Type 0) (names : (n : List ℕ) → is_name n ≡ true → N n) (R : List ℕ → List ℕ → Type 0) where
  -- ---- making

  alike_kept_or_made : (m : MetaValue) (p : List (List ℕ)) → All N p → (t u : TreeMap) → Alike N R t u
      → BothResults (Alike N R) (kept_or_made m p (finite.get t p) t) (kept_or_made m p (finite.get u p) u)
  alike_kept_or_made m p named t u h =
      by_likeness R (λ o q. BothResults (Alike N R) (kept_or_made m p o t) (kept_or_made m p q u)) (alike_put_dir N R t u h p named m) (λ n. h)
      (λ n a b r. refl) (finite.get t p) (finite.get u p) (h.like p)

  alike_make_all : (m : MetaValue) (ps : List (List (List ℕ))) → All (All N) ps → (t u : TreeMap) → Alike N R t u
      → BothResults (Alike N R) (make_all m ps t) (make_all m ps u)
  alike_make_all m [] named t u h = h
  alike_make_all m (p ∷ ps) named t u h =
      after_both (Alike N R) (Alike N R) (kept_or_made m p (finite.get t p) t) (kept_or_made m p (finite.get u p) u) (make_all m ps) (make_all m ps)
      (alike_kept_or_made m p (All-head (All N) p ps named) t u h) (alike_make_all m ps (All-tail (All N) p ps named))

  alike_with_parents : (all : Bool) (m : MetaValue) (p : List (List ℕ)) → All N p → (t u : TreeMap) → Alike N R t u
      → BothResults (Alike N R) (with_parents all m p t) (with_parents all m p u)
  alike_with_parents true m p named t u h = alike_make_all m (parents p) (parents_named N p named) t u h
  alike_with_parents false m p named t u h = h

  alike_make_dir : (all : Bool) (m : MetaValue) (p : List (List ℕ)) → All N p → (t u : TreeMap) → Alike N R t u
      → BothResults (Alike N R) (make_dir all m p (finite.get t p) t) (make_dir all m p (finite.get u p) u)
  alike_make_dir all m p named t u h =
      let made_new : BothResults (Alike N R) (with_parents all m p t >>= λ v. put_dir v p m) (with_parents all m p u >>= λ v. put_dir v p m) =
      after_both (Alike N R) (Alike N R) (with_parents all m p t) (with_parents all m p u) (λ v. put_dir v p m) (λ v. put_dir v p m)
      (alike_with_parents all m p named t u h) (λ v w k. alike_put_dir N R v w k p named m) in
      by_likeness R (λ o q. BothResults (Alike N R) (make_dir all m p o t) (make_dir all m p q u)) made_new (λ n. h) (λ n a b r. made_new)
      (finite.get t p) (finite.get u p) (h.like p)

  alike_mkdir : (m : dir.MkDir) (t u : TreeMap) → Alike N R t u → BothResults (Alike N R) (mkdir m t) (mkdir m u)
  alike_mkdir m t u h =
      after_in (All N) (Alike N R) (path_of m.path) (path_of m.path) (λ p. make_dir m.make_parents (made m.mode m.owner) p (finite.get t p) t)
      (λ p. make_dir m.make_parents (made m.mode m.owner) p (finite.get u p) u) refl (read_named N names m.path)
      (λ p named. alike_make_dir m.make_parents (made m.mode m.owner) p named t u h)

  alike_mkfile : (m : file.MkFile) → R m.body m.body → (t u : TreeMap) → Alike N R t u → BothResults (Alike N R) (mkfile m t) (mkfile m u)
  alike_mkfile m body t u h =
      after_in (All N) (Alike N R) (path_of m.path) (path_of m.path) (λ p. put_file t p (made m.mode m.owner) m.body)
      (λ p. put_file u p (made m.mode m.owner) m.body) refl (read_named N names m.path)
      (λ p named. alike_put_file N R t u h p named (made m.mode m.owner) m.body m.body body)

  -- ---- removing

  alike_absent : (allowed : Bool) (t u : TreeMap) → Alike N R t u → BothResults (Alike N R) (absent allowed t) (absent allowed u)
  alike_absent true t u h = h
  alike_absent false t u h = refl

  alike_rm_path : (allowed : Bool) (t u : TreeMap) → Alike N R t u → (p : List (List ℕ)) → BothResults (Alike N R) (rm_path allowed t p) (rm_path allowed u p)
  alike_rm_path allowed t u h p =
      after_same (Alike N R) (not_root p) (not_root p) (λ _. removed allowed p (finite.get t p) t) (λ _. removed allowed p (finite.get u p) u) refl (λ _.
      by_likeness R (λ o q. BothResults (Alike N R) (removed allowed p o t) (removed allowed p q u)) (alike_absent allowed t u h)
      (λ n. alike_without N R t u h p) (λ n a b r. alike_without N R t u h p) (finite.get t p) (finite.get u p) (h.like p))

  pub matching_same : (pattern : List (List Item)) (t u : TreeMap) → Alike N R t u → matching pattern t ≡ matching pattern u
  matching_same pattern t u h = ap (filter (path_matches pattern)) (same_keys R t u h.like)

  alike_removed_all : (allowed : Bool) (ps : List (List (List ℕ))) (t u : TreeMap) → Alike N R t u
      → BothResults (Alike N R) (removed_all allowed ps t) (removed_all allowed ps u)
  alike_removed_all allowed [] t u h = alike_absent allowed t u h
  alike_removed_all allowed (p ∷ ps) t u h = alike_retain N R t u h (λ q. not (is_below_any (p ∷ ps) q))

  alike_rm_pattern : (allowed : Bool) (t u : TreeMap) → Alike N R t u → (pattern : List (List Item))
      → BothResults (Alike N R) (rm_pattern allowed t pattern) (rm_pattern allowed u pattern)
  alike_rm_pattern allowed t u h [] = refl
  alike_rm_pattern allowed t u h (part ∷ parts) =
      subst (λ ps. BothResults (Alike N R) (removed_all allowed (matching (part ∷ parts) t) t) (removed_all allowed ps u)) (matching_same (part ∷ parts) t u h)
      (alike_removed_all allowed (matching (part ∷ parts) t) t u h)

  alike_rm : (r : Rm) (t u : TreeMap) → Alike N R t u → BothResults (Alike N R) (rm r t) (rm r u)
  alike_rm r t u h = by_way r.allow_wildcard
    where
      by_way : (b : Bool) → BothResults (Alike N R)
          (cond b (on_pattern (pattern_of r.path) >>= λ pattern. on_tree (rm_pattern r.allow_not_found t pattern))
          (on_tree (path_of r.path) >>= λ p. on_tree (rm_path r.allow_not_found t p)))
          (cond b (on_pattern (pattern_of r.path) >>= λ pattern. on_tree (rm_pattern r.allow_not_found u pattern))
          (on_tree (path_of r.path) >>= λ p. on_tree (rm_path r.allow_not_found u p)))
      by_way true =
          after_same (Alike N R) (on_pattern (pattern_of r.path)) (on_pattern (pattern_of r.path))
          (λ pattern. on_tree (rm_pattern r.allow_not_found t pattern))
          (λ pattern. on_tree (rm_pattern r.allow_not_found u pattern)) refl (λ pattern.
          both_on_tree (Alike N R) (rm_pattern r.allow_not_found t pattern) (rm_pattern r.allow_not_found u pattern)
          (alike_rm_pattern r.allow_not_found t u h pattern))
      by_way false =
          after_same (Alike N R) (on_tree (path_of r.path)) (on_tree (path_of r.path)) (λ p. on_tree (rm_path r.allow_not_found t p))
          (λ p. on_tree (rm_path r.allow_not_found u p)) refl (λ p.
          both_on_tree (Alike N R) (rm_path r.allow_not_found t p) (rm_path r.allow_not_found u p) (alike_rm_path r.allow_not_found t u h p))

  -- ---- copying

  sources_same : (allowed : Bool) (v w : TreeMap) → Alike N R v w → (chosen : Chosen) → sources allowed v chosen ≡ sources allowed w chosen
  sources_same allowed v w k (OnePath p) = ap (λ o. o >>= λ _. Ok (p ∷ [])) (found_same R v w k.like p)
  sources_same allowed v w k (EachMatch pattern) = ap (some_match allowed) (matching_same pattern v w k)

  abbrev IsNamedChoice : Chosen → Type 0
  IsNamedChoice (OnePath p) = All N p
  IsNamedChoice (EachMatch pattern) = Unit {0}

  choice_named : (c : CopyFile) → InResult IsNamedChoice (chosen_by c)
  choice_named c =
      in_choice IsNamedChoice c.allow_wildcard (on_pattern (pattern_of c.src) >>= λ pattern. Ok (EachMatch pattern))
      (on_tree (path_of c.src) >>= λ p. Ok (OnePath p)) (λ _. by_pattern (on_pattern (pattern_of c.src)))
      (in_after (All N) IsNamedChoice (on_tree (path_of c.src)) (λ p. Ok (OnePath p)) (in_on_tree (All N) (path_of c.src) (read_named N names c.src))
      (λ p is. is))
    where
      by_pattern : (r : Result (List (List Item)) ActFault) → InResult IsNamedChoice (r >>= λ pattern. Ok (EachMatch pattern))
      by_pattern (Ok pattern) = tt
      by_pattern (Err e) = tt

  sources_named : (allowed : Bool) (v w : TreeMap) → Alike N R v w → (chosen : Chosen) → IsNamedChoice chosen
      → InResult (All (All N)) (sources allowed v chosen)
  sources_named allowed v w k (OnePath p) named = by_found (found (finite.get v p))
    where
      by_found : (r : Result (Unit {0}) TreeFault) → InResult (All (All N)) (r >>= λ _. Ok (p ∷ []))
      by_found (Ok u) = All-cons (All N) p [] named (All-nil (All N))
      by_found (Err e) = tt
  sources_named allowed v w k (EachMatch pattern) named =
      by_some allowed (matching pattern v)
      (all_filter (All N) (path_matches pattern) (finite.keys v)
      (All-map (All N) (λ (e : Pair). e.0) (finite.entries v) (entries_named N v k.named)))
    where
      by_some : (b : Bool) (ps : List (List (List ℕ))) → All (All N) ps → InResult (All (All N)) (some_match b ps)
      by_some true ps each = each
      by_some false [] each = tt
      by_some false (p ∷ ps) each = each

  abbrev IsNamedDest : List (List ℕ) × Bool → Type 0
  IsNamedDest dest = All N dest.0

  dest_named : (text : List ℕ) → InResult IsNamedDest (resolved text)
  dest_named text =
      in_after (All N) IsNamedDest (path_of text) (λ p. Ok (p, ends_with nat_eq text (47 ∷ []))) (read_named N names text) (λ p is. is)

  target_named : (c : CopyFile) (dest : List (List ℕ) × Bool) → All N dest.0 → (v : TreeMap) (s : List (List ℕ)) → All N s → (t : TreeMap)
      → All N (target c dest v s t)
  target_named c dest named v s source t =
      either (c.dir_copy_contents && is_dir (finite.get v s)) dest.0 (cond (dest.1 || is_dir (finite.get t dest.0)) (dest.0 ++ last_name s) dest.0) named
      (either (dest.1 || is_dir (finite.get t dest.0)) (dest.0 ++ last_name s) dest.0
      (All-append N dest.0 (last_name s) named (All-drop N (length s - 1) s source)) named)
    where
      either : (b : Bool) (p q : List (List ℕ)) → All N p → All N q → All N (cond b p q)
      either true p q first second = first
      either false p q first second = second

  target_same : (c : CopyFile) (dest : List (List ℕ) × Bool) (v w : TreeMap) → Alike N R v w → (s : List (List ℕ)) (t u : TreeMap) → Alike N R t u
      → target c dest v s t ≡ target c dest w s u
  target_same c dest v w k s t u h =
      let own = is_dir_same R v w k.like s in
      let there = is_dir_same R t u h.like dest.0 in
      λ i. cond (c.dir_copy_contents && own i) dest.0 (cond (dest.1 || there i) (dest.0 ++ last_name s) dest.0)

  both_at_target : (v w : TreeMap) → Alike N R v w → (s goal : List (List ℕ)) → BothLists (ArePairs R) (at_target v s goal) (at_target w s goal)
  both_at_target v w k s goal =
      both_map (ArePairs R) (ArePairs R) (moved (length s) goal) (moved (length s) goal) (λ e f h. (ap (λ p. goal ++ drop (length s) p) h.0, h.1))
      (where_key path_cmp (is_within s) (finite.entries v)) (where_key path_cmp (is_within s) (finite.entries w))
      (both_filter (ArePairs R) (λ (e : Pair). is_within s e.0) (λ e f h. ap (is_within s) h.0) (finite.entries v) (finite.entries w)
      (both_entries R v w k.like))

  at_target_named : (v w : TreeMap) → Alike N R v w → (s goal : List (List ℕ)) → All N goal → All (λ (e : Pair). All N e.0) (at_target v s goal)
  at_target_named v w k s goal named =
      let there = all_filter (λ (e : Pair). All N e.0) (λ (e : Pair). is_within s e.0) (finite.entries v) (entries_named N v k.named) in
      All-map (λ (e : Pair). All N e.0) (moved (length s) goal) (where_key path_cmp (is_within s) (finite.entries v))
      (All-weaker (λ (e : Pair). All N e.0) (λ (e : Pair). All N (goal ++ drop (length s) e.0))
      (λ e is. All-append N goal (drop (length s) e.0) named (All-drop N (length s) e.0 is)) (where_key path_cmp (is_within s) (finite.entries v)) there)

  meets_same : (o q : Option Entry) → BothOptions (AreLike R) o q → (e f : Entry) → AreLike R e f → meets o e ≡ meets q f
  meets_same o q h e f like =
      unread R (λ x. meets x e) (λ m a b. by_own m a b e) o q h ∙ by_like q e f like
    where
      by_own : (m : MetaValue) (a b : List ℕ) (x : Entry) → meets (Some (File m a)) x ≡ meets (Some (File m b)) x
      by_own m a b (Dir n) = refl
      by_own m a b (File n c) = refl

      by_like : (q : Option Entry) (e f : Entry) → AreLike R e f → meets q e ≡ meets q f
      by_like None e f like = refl
      by_like (Some (Dir m)) (Dir n) (Dir k) like = refl
      by_like (Some (Dir m)) (File n a) (File k b) like = refl
      by_like (Some (File m c)) (Dir n) (Dir k) like = refl
      by_like (Some (File m c)) (File n a) (File k b) like = refl
      by_like (Some x) (Dir n) (File k b) like = absurd like
      by_like (Some x) (File n a) (Dir k) like = absurd like

  all_land_same : (t u : TreeMap) → Alike N R t u → (es fs : List Pair) → BothLists (ArePairs R) es fs → all_land t es ≡ all_land u fs
  all_land_same t u h [] [] k = refl
  all_land_same t u h (e ∷ es) (f ∷ fs) k =
      let room = ap fits k.0.0 in
      let there : meets (finite.get t e.0) e.1 ≡ meets (finite.get u f.0) f.1 =
      meets_same (finite.get t e.0) (finite.get u e.0) (h.like e.0) e.1 f.1 k.0.1 ∙ ap (λ p. meets (finite.get u p) f.1) k.0.0 in
      let rest = all_land_same t u h es fs k.1 in
      λ i. room i >>= λ _. there i >>= λ _. rest i
  all_land_same t u h [] (f ∷ fs) k = absurd k
  all_land_same t u h (e ∷ es) [] k = absurd k

  landed_like : (given : MetaValue → MetaValue) (o q : Option Entry) → BothOptions (AreLike R) o q → (e f : Entry) → AreLike R e f
      → AreLike R (landed given o e) (landed given q f)
  landed_like given o q h (Dir m) (Dir n) like =
      by_likeness R (λ x y. AreLike R (landed given x (Dir m)) (landed given y (Dir n))) (ap given like) (λ k. refl) (λ k a b r. ap given like) o q h
  landed_like given o q h (File m a) (File n b) like =
      by_likeness R (λ x y. AreLike R (landed given x (File m a)) (landed given y (File n b))) (ap given like.0, like.1) (λ k. (ap given like.0, like.1))
      (λ k c d r. (ap given like.0, like.1)) o q h
  landed_like given o q h (Dir m) (File n b) like = absurd like
  landed_like given o q h (File m a) (Dir n) like = absurd like

  laid_both : (given : MetaValue → MetaValue) (o q : Option Entry) → BothOptions (AreLike R) o q → (x y : Option Entry) → BothOptions (AreLike R) x y
      → BothOptions (AreLike R) (laid given o x) (laid given q y)
  laid_both given o q h None None k = h
  laid_both given o q h (Some e) (Some f) k = landed_like given o q h e f k
  laid_both given o q h None (Some f) k = absurd k
  laid_both given o q h (Some e) None k = absurd k

  named_laid_on : (given : MetaValue → MetaValue) (t : TreeMap) → IsNamed N t → (es : List Pair) → All (λ (e : Pair). All N e.0) es
      → IsNamed N (laid_on given t es)
  named_laid_on given t h es each q f is = by_found (finite.find path_cmp q es) refl (sym (get-laid_on given t es q) ∙ is)
    where
      by_found : (o : Option Entry) → finite.find path_cmp q es ≡ o → laid given (finite.get t q) o ≡ Some f → All N q
      by_found None found there = h q f there
      by_found (Some e) found there = find_named N es each q e found

  like_laid_on : (given : MetaValue → MetaValue) (t u : TreeMap) → Alike N R t u → (es fs : List Pair) → BothLists (ArePairs R) es fs
      → AreAlike R (laid_on given t es) (laid_on given u fs)
  like_laid_on given t u h es fs k q =
      carry_options (AreLike R) (finite.get (laid_on given t es) q) (laid given (finite.get t q) (finite.find path_cmp q es))
      (finite.get (laid_on given u fs) q) (laid given (finite.get u q) (finite.find path_cmp q fs)) (get-laid_on given t es q) (get-laid_on given u fs q)
      (laid_both given (finite.get t q) (finite.get u q) (h.like q) (finite.find path_cmp q es) (finite.find path_cmp q fs) (find_both R es fs k q))

  alike_land : (given : MetaValue → MetaValue) (es fs : List Pair) → BothLists (ArePairs R) es fs → All (λ (e : Pair). All N e.0) es
      → (t u : TreeMap) → Alike N R t u → BothResults (Alike N R) (land given es t) (land given fs u)
  alike_land given es fs k named t u h =
      after_same (Alike N R) (all_land t es) (all_land u fs) (λ _. Ok (laid_on given t es)) (λ _. Ok (laid_on given u fs)) (all_land_same t u h es fs k)
      (λ _. record { like = like_laid_on given t u h es fs k; named = named_laid_on given t h.named es named })

  alike_parents_for : (make : Bool) (p : List (List ℕ)) → All N p → (t u : TreeMap) → Alike N R t u
      → BothResults (Alike N R) (parents_for make p t) (parents_for make p u)
  alike_parents_for true p named t u h = alike_make_all new_dir_meta (parents p) (parents_named N p named) t u h
  alike_parents_for false p named t u h =
      after_same (Alike N R) (walk (finite.get t) p) (walk (finite.get u) p) (λ _. Ok t) (λ _. Ok u) (walk_same R t u h.like p) (λ _. h)

  module _ (c : CopyFile) (v w : TreeMap) (k : Alike N R v w) where
    alike_copy_to : (s goal : List (List ℕ)) → All N goal → (t u : TreeMap) → Alike N R t u
        → BothResults (Alike N R) (copy_to c v s goal t) (copy_to c w s goal u)
    alike_copy_to s goal named t u h =
        after_same (Alike N R) (fits goal) (fits goal) (λ _. parents_for c.create_dest_path goal t >>= land (copied c.mode c.owner) (at_target v s goal))
        (λ _. parents_for c.create_dest_path goal u >>= land (copied c.mode c.owner) (at_target w s goal)) refl (λ _.
        after_both (Alike N R) (Alike N R) (parents_for c.create_dest_path goal t) (parents_for c.create_dest_path goal u)
        (land (copied c.mode c.owner) (at_target v s goal)) (land (copied c.mode c.owner) (at_target w s goal))
        (alike_parents_for c.create_dest_path goal named t u h)
        (alike_land (copied c.mode c.owner) (at_target v s goal) (at_target w s goal) (both_at_target v w k s goal) (at_target_named v w k s goal named)))

    alike_copy_one : (dest : List (List ℕ) × Bool) → All N dest.0 → (s : List (List ℕ)) → All N s → (t u : TreeMap) → Alike N R t u
        → BothResults (Alike N R) (copy_one c dest v s t) (copy_one c dest w s u)
    alike_copy_one dest named s source t u h =
        subst (λ goal. BothResults (Alike N R) (copy_one c dest v s t) (copy_to c w s goal u)) (target_same c dest v w k s t u h)
        (alike_copy_to s (target c dest v s t) (target_named c dest named v s source t) t u h)

    alike_copy_each : (dest : List (List ℕ) × Bool) → All N dest.0 → (ss : List (List (List ℕ))) → All (All N) ss → (t u : TreeMap) → Alike N R t u
        → BothResults (Alike N R) (copy_each c dest v ss t) (copy_each c dest w ss u)
    alike_copy_each dest named [] each t u h = h
    alike_copy_each dest named (s ∷ ss) each t u h =
        after_both (Alike N R) (Alike N R) (copy_one c dest v s t) (copy_one c dest w s u) (copy_each c dest v ss) (copy_each c dest w ss)
        (alike_copy_one dest named s (All-head (All N) s ss each) t u h)
        (λ x y l. alike_copy_each dest named ss (All-tail (All N) s ss each) x y l)

    alike_copy_chosen : (dest : List (List ℕ) × Bool) → All N dest.0 → (t u : TreeMap) → Alike N R t u → (chosen : Chosen) → IsNamedChoice chosen
        → BothResults (Alike N R) (copy_chosen c dest t v chosen) (copy_chosen c dest u w chosen)
    alike_copy_chosen dest named t u h chosen choice =
        after_in (All (All N)) (Alike N R) (sources c.allow_empty_wildcard v chosen) (sources c.allow_empty_wildcard w chosen) (λ ss. copy_each c dest v ss t)
        (λ ss. copy_each c dest w ss u) (sources_same c.allow_empty_wildcard v w k chosen) (sources_named c.allow_empty_wildcard v w k chosen choice)
        (λ ss each. alike_copy_each dest named ss each t u h)

    alike_copy : (t u : TreeMap) → Alike N R t u → BothResults (Alike N R) (copy c t v) (copy c u w)
    alike_copy t u h =
        after_in IsNamedChoice (Alike N R) (chosen_by c) (chosen_by c)
        (λ chosen. on_tree (resolved c.dest) >>= λ dest. on_tree (copy_chosen c dest t v chosen))
        (λ chosen. on_tree (resolved c.dest) >>= λ dest. on_tree (copy_chosen c dest u w chosen)) refl (choice_named c) (λ chosen choice.
        after_in IsNamedDest (Alike N R) (on_tree (resolved c.dest)) (on_tree (resolved c.dest)) (λ dest. on_tree (copy_chosen c dest t v chosen))
        (λ dest. on_tree (copy_chosen c dest u w chosen)) refl (in_on_tree IsNamedDest (resolved c.dest) (dest_named c.dest)) (λ dest named.
        both_on_tree (Alike N R) (copy_chosen c dest t v chosen) (copy_chosen c dest u w chosen) (alike_copy_chosen dest named t u h chosen choice)))

  -- an action on alike bases and alike second trees
  pub alike_act : (a : Option ActionKind) → RelatesBody R a → (t u v w : TreeMap) → Alike N R t u → Alike N R v w
      → BothResults (Alike N R) (act a t v) (act a u w)
  alike_act (Some (kind.MkFile m)) body t u v w h k = both_on_tree (Alike N R) (mkfile m t) (mkfile m u) (alike_mkfile m body t u h)
  alike_act (Some (kind.MkDir m)) body t u v w h k = both_on_tree (Alike N R) (mkdir m t) (mkdir m u) (alike_mkdir m t u h)
  alike_act (Some (kind.Copy c)) body t u v w h k = alike_copy c v w k t u h
  alike_act (Some (kind.Rm r)) body t u v w h k = alike_rm r t u h
  alike_act None body t u v w h k = h
