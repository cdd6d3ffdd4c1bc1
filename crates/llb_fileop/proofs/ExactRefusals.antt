-- An action has a refusal exactly if `act` returns a fault, and then the fault is that of the refusal.
use Rattle.std.proofs.Common.{◌≡◌, ◌∙◌, ◌==◌, ℕ, Bool, true, false, cond, List, [], ◌∷◌, ◌++◌, map, drop, length, refl, sym, ap, subst, Option, Some, None}
use Rattle.std.proofs.Common.{Result, Ok, Err}
use Rattle.std.specs.Prelude.{option_map, nat_lt, ◌||◌}
use Rattle.std.specs.Result.{result_ok}
use Rattle.std.specs.Ordering.{eq_by_cmp}
use Rattle.std.specs.FinMap as finite
use Rattle.std.proofs.lemmas.List.{append-nil}
use Rattle.llb_wire.specs.CallResults.{◌>>=◌}
use Rattle.llb_ops.specs.declared.file_op.ActionKind.{ActionKind}
use Rattle.llb_ops.specs.declared.file_op.ActionKind.TheVariants as kind
use Rattle.llb_ops.specs.declared.actions.CopyFile.{CopyFile}
use Rattle.llb_ops.specs.declared.actions.Rm.{Rm}
use Rattle.llb_tree.specs.declared.fault.TreeFault.{TreeFault}
use Rattle.llb_tree.specs.declared.fault.TreeFault.TheVariants as fault
use Rattle.llb_tree.specs.Path.{path_cmp, is_name, is_dot, is_dots, name_of, below, enter, follow, parts_of, path_of}
use Rattle.llb_tree.specs.PathOrder.{path_cmp-IsTotalOrder, same_path}
use Rattle.llb_tree.specs.ModeAndOwner.{MetaValue, new_dir_meta}
use Rattle.llb_tree.specs.Tree as tree
use Rattle.llb_tree.specs.Tree.{TreeMap, Entry, parents, all_dirs, walk, file_fits, dir_fits, not_root, put_file, put_dir, moved, found, IsDirAt}
use Rattle.llb_tree.proofs.GraftedTrees.{walk_joined}
use Rattle.llb_tree.proofs.ParentClosure.{walk_more}
use Rattle.llb_tree.proofs.WalkByName.{put_dir-Ok}
use Rattle.llb_glob.specs.declared.item.Item.{Item}
use Rattle.llb_glob.specs.declared.fault.PatternFault.{PatternFault}
use Rattle.llb_glob.specs.Pattern.{pattern_of}
use Rattle.llb_glob.proofs.Refusals.{NothingElse, else-path}
use Rattle.llb_fileop.specs.declared.fault.ActFault.{ActFault}
use Rattle.llb_fileop.specs.declared.refusal.Field.{Field}
use Rattle.llb_fileop.specs.declared.refusal.Field.TheVariants as field
use Rattle.llb_fileop.specs.declared.refusal.Obstacle.TheVariants as obstacle
use Rattle.llb_fileop.specs.declared.refusal.Refusal.{Refusal}
use Rattle.llb_fileop.specs.declared.refusal.Refusal.TheVariants.{NotPath, NotPattern, At}
use Rattle.llb_fileop.specs.CallResults.{of_tree, of_pattern, on_tree, on_pattern}
use Rattle.llb_fileop.specs.Owners.{made, copied}
use Rattle.llb_fileop.specs.Making.{make_dir, make_all, kept_or_made, with_parents, parents_from}
use Rattle.llb_fileop.specs.Removing.{matching, removed, removed_all, rm_path, rm_pattern, rm}
use Rattle.llb_fileop.specs.Copying.{Chosen, OnePath, EachMatch, some_match, resolved, target, fits, meets, all_land, land, laid_on}
use Rattle.llb_fileop.specs.Copying.{at_target, parents_for, copy_to, copy_one, copy_each, copy_chosen, copy}
use Rattle.llb_fileop.specs.CopyPlacement.{placed}
use Rattle.llb_fileop.specs.FileActions.{act}
use Rattle.llb_fileop.specs.Refusals.{Names, fault_of, fault_in, first_some, first_of, or_refusal, not_dir, no_dirs, no_parent, at_root, dir_there}
use Rattle.llb_fileop.specs.Refusals.{no_file_put, no_dir_put, nothing_there, no_removal, no_match, no_removals, rm_refusal}
use Rattle.llb_fileop.specs.Refusals.{no_meeting, no_landing, no_landings, no_copy_to, no_copy, refused_or, no_copies, no_path_copy, no_match_copy, at_dest}
use Rattle.llb_fileop.specs.Refusals.{copy_refusal, refusal_of}
use Rattle.llb_fileop.proofs.Parents.{parents_are}
use Rattle.llb_fileop.proofs.PathOrderTraversal.{Pair}
use Rattle.llb_fileop.proofs.Grafting.{keeps_dir, makes_dir, walk_after}
use Rattle.llb_fileop.proofs.CopyByPath.{stays_below, lands_on}

-- there is a refusal exactly if there is a fault, which is that of the refusal
abbrev Exact : {A : Type 0} → Option Refusal → Result A ActFault → Type 0
Exact r o = option_map fault_of r ≡ fault_in o

-- a refusal is exact for a rule about trees, whose fault is seen as the fault of an action
abbrev Same : {A : Type 0} → Option Refusal → Result A TreeFault → Type 0
Same r o = Exact r (on_tree o)

-- ---- one rule after another

module _ {A B : Type 0} where
  then_same : (r s : Option Refusal) (o : Result A TreeFault) (f : A → Result B TreeFault) → Same r o → ((a : A) → o ≡ Ok a → Same s (f a))
      → Same (first_of r s) (o >>= f)
  then_same (Some r) s (Err e) f is each = is
  then_same (Some r) s (Ok a) f is each = absurd cc
  then_same None s (Err e) f is each = absurd cc
  then_same None s (Ok a) f is each = each a refl

  -- a second rule that has no fault
  kept_same : (r : Option Refusal) (o : Result A TreeFault) (f : A → B) → Same r o → Same r (o >>= λ a. Ok (f a))
  kept_same r (Err e) f is = is
  kept_same r (Ok a) f is = is

alone : (r : Option Refusal) → first_of r None ≡ r
alone None = refl
alone (Some r) = refl

-- ---- texts

-- a value, or a bad name
abbrev OnlyBadName : {A : Type 0} → Result A TreeFault → Type 0
OnlyBadName (Ok x) = Unit {0}
OnlyBadName (Err e) = e ≡ fault.BadName

only_then : {A B : Type 0} (r : Result A TreeFault) (f : A → Result B TreeFault) → OnlyBadName r → ((x : A) → OnlyBadName (f x)) → OnlyBadName (r >>= f)
only_then (Ok x) f first then = then x
only_then (Err e) f first then = first

only_if : {A : Type 0} (b : Bool) (r s : Result A TreeFault) → OnlyBadName r → OnlyBadName s → OnlyBadName (cond b r s)
only_if true r s first second = first
only_if false r s first second = second

only_below : (p : Names) (n : List ℕ) → OnlyBadName (below p n)
only_below p n = only_if (nat_lt (length p) 128) _ _ tt refl

only_enter : (p : Names) (part : List ℕ) → OnlyBadName (enter p part)
only_enter p part =
    only_if (length part == 0 || is_dot part) _ _ tt
    (only_if (is_dots part) _ _ tt (only_then (name_of part) (below p) (only_if (is_name part) _ _ tt refl) (only_below p)))

only_follow : (p : Names) (parts : List (List ℕ)) → OnlyBadName (follow p parts)
only_follow p [] = tt
only_follow p (part ∷ parts) = only_then (enter p part) (λ next. follow next parts) (only_enter p part) (λ next. only_follow next parts)

only_path : (text : List ℕ) → OnlyBadName (path_of text)
only_path text = only_follow [] (parts_of text)

only_resolved : (text : List ℕ) → OnlyBadName (resolved text)
only_resolved text = only_then (path_of text) _ (only_path text) (λ p. tt)

module _ {A B : Type 0} where
  -- a text that is read by a rule about trees, and a further rule about trees
  read_same : (text : Field) (r : Result A TreeFault) (k : A → Option Refusal) (f : A → Result B TreeFault) → OnlyBadName r
      → ((a : A) → Same (k a) (f a)) → Same (or_refusal (result_ok r) (NotPath text) k) (r >>= f)
  read_same text (Ok a) k f only each = each a
  read_same text (Err e) k f only each = ap (λ x. Some (of_tree x)) (sym only)

  -- and a further rule about actions
  read_exact : (text : Field) (r : Result A TreeFault) (k : A → Option Refusal) (f : A → Result B ActFault) → OnlyBadName r
      → ((a : A) → Exact (k a) (f a)) → Exact (or_refusal (result_ok r) (NotPath text) k) (on_tree r >>= f)
  read_exact text (Ok a) k f only each = each a
  read_exact text (Err e) k f only each = ap (λ x. Some (of_tree x)) (sym only)

  -- a text that is read as a pattern
  pattern_exact : (text : Field) (r : Result A PatternFault) (k : A → Option Refusal) (f : A → Result B ActFault) → NothingElse r
      → ((a : A) → Exact (k a) (f a)) → Exact (or_refusal (result_ok r) (NotPattern text) k) (on_pattern r >>= f)
  pattern_exact text (Ok a) k f only each = each a
  pattern_exact text (Err e) k f only each = ap (λ x. Some (of_pattern x)) (sym only)

-- ---- parents

-- parents that have to be there
dirs_same : (t : TreeMap) (ps : List Names) → Same (no_dirs false t ps) (all_dirs (map (finite.get t) ps))
dirs_same t [] = refl
dirs_same t (p ∷ ps) = by_entry (finite.get t p) (dirs_same t ps)
  where
    by_entry : (o : Option Entry) → Same (no_dirs false t ps) (all_dirs (map (finite.get t) ps))
        → Same (first_some (not_dir false p o ∷ map (λ q. not_dir false q (finite.get t q)) ps)) (all_dirs (o ∷ map (finite.get t) ps))
    by_entry None rest = refl
    by_entry (Some (tree.Dir m)) rest = rest
    by_entry (Some (tree.File m b)) rest = refl

-- the way leads one name further if a directory is kept or made
further : (m : MetaValue) (p : Names) (n : List ℕ) (t u : TreeMap) → walk (finite.get t) p ≡ Ok tt → kept_or_made m p (finite.get t p) t ≡ Ok u
    → walk (finite.get u) (p ++ n ∷ []) ≡ Ok tt
further m p n t u walks is =
    let dir = makes_dir m p t u is in
    walk_joined (finite.get u) p (n ∷ []) (walk_more (finite.get t) (finite.get u) (keeps_dir m p t u is) p walks)
    (ap (λ o. all_dirs (o ∷ [])) (ap (finite.get u) (append-nil p) ∙ dir.1))

-- a directory that is made where nothing was is no obstacle, as nothing was none
made_none : (m : MetaValue) (p : Names) (t : TreeMap) → finite.get t p ≡ None → (ps : List Names)
    → no_dirs true t ps ≡ no_dirs true (finite.insert t p (tree.Dir m)) ps
made_none m p t none ps = λ i. first_some (map (λ q. same q i) ps)
  where
    same : (q : Names) → not_dir true q (finite.get t q) ≡ not_dir true q (finite.get (finite.insert t p (tree.Dir m)) q)
    same q = by_tie (eq_by_cmp path_cmp q p) refl ∙ ap (not_dir true q) (sym (finite.get-insert path_cmp-IsTotalOrder t p (tree.Dir m) q))
      where
        by_tie : (b : Bool) → eq_by_cmp path_cmp q p ≡ b → not_dir true q (finite.get t q) ≡ not_dir true q (cond b (Some (tree.Dir m)) (finite.get t q))
        by_tie true tie = ap (not_dir true q) (ap (finite.get t) (same_path q p tie) ∙ none)
        by_tie false tie = refl

-- parents that are made if they are missing
made_from : (m : MetaValue) (ns : List (List ℕ)) (p : Names) (t : TreeMap) → walk (finite.get t) p ≡ Ok tt
    → Same (no_dirs true t (parents_from p ns)) (make_all m (parents_from p ns) t)
made_from m [] p t walks = refl
made_from m (n ∷ ns) p t walks = by_entry (finite.get t p) refl (made_from m ns (p ++ n ∷ []))
  where
    later : List Names
    later = parents_from (p ++ n ∷ []) ns

    by_entry : (o : Option Entry) → finite.get t p ≡ o
        → ((u : TreeMap) → walk (finite.get u) (p ++ n ∷ []) ≡ Ok tt → Same (no_dirs true u later) (make_all m later u))
        → Same (first_some (not_dir true p o ∷ map (λ q. not_dir true q (finite.get t q)) later)) (kept_or_made m p o t >>= make_all m later)
    by_entry (Some (tree.File k b)) is each = refl
    by_entry (Some (tree.Dir k)) is each = each t (further m p n t t walks (ap (λ o. kept_or_made m p o t) is))
    by_entry None is each =
        let u : TreeMap = finite.insert t p (tree.Dir m) in
        let put : put_dir t p m ≡ Ok u = put_dir-Ok t p m walks (ap dir_fits is) in
        ap (option_map fault_of) (made_none m p t is later)
        ∙ each u (further m p n t u walks (ap (λ o. kept_or_made m p o t) is ∙ put))
        ∙ ap (λ r. fault_in (on_tree (r >>= make_all m later))) (sym put)

made_same : (m : MetaValue) (t : TreeMap) (p : Names) → Same (no_parent true t p) (make_all m (parents p) t)
made_same m t p = subst (λ ps. Same (no_dirs true t ps) (make_all m ps t)) (parents_are p) (made_from m p [] t refl)

-- ---- making

root_same : (p : Names) → Same (at_root p) (not_root p)
root_same [] = refl
root_same (n ∷ p) = refl

file_put_same : (t : TreeMap) (p : Names) (m : MetaValue) (b : List ℕ) → Same (no_file_put t p) (put_file t p m b)
file_put_same t p m b =
    then_same (at_root p) _ (not_root p) _ (root_same p)
    (λ _ _. then_same (no_parent false t p) _ (walk (finite.get t) p) _ (dirs_same t (parents p)) (λ _ _. by_entry (finite.get t p)))
  where
    by_entry : (o : Option Entry) → Same (dir_there p o) (file_fits o >>= λ _. Ok (finite.insert t p (tree.File m b)))
    by_entry None = refl
    by_entry (Some (tree.Dir n)) = refl
    by_entry (Some (tree.File n c)) = refl

-- a directory that is put once its parents are there
put_same : (m : MetaValue) (t u : TreeMap) (p : Names) (r : Option Refusal) → walk (finite.get u) p ≡ Ok tt → finite.get u p ≡ finite.get t p
    → Same r (dir_fits (finite.get t p)) → Same r (put_dir u p m)
put_same m t u p r walks stays is =
    kept_same r (dir_fits (finite.get t p)) (λ _. finite.insert u p (tree.Dir m)) is
    ∙ sym (λ i. fault_in (on_tree (walks i >>= λ _. dir_fits (stays i) >>= λ _. Ok (finite.insert u p (tree.Dir m)))))

dir_put_same : (made : Bool) (m : MetaValue) (t : TreeMap) (p : Names) (r : Option Refusal) → Same r (dir_fits (finite.get t p))
    → Same (first_of (no_parent made t p) r) (with_parents made m p t >>= λ u. put_dir u p m)
dir_put_same true m t p r is =
    then_same (no_parent true t p) r (make_all m (parents p) t) (λ u. put_dir u p m) (made_same m t p)
    (λ u made. put_same m t u p r (walk_after m p t u made)
    (subst (λ q. finite.get u q ≡ finite.get t q) (append-nil p) (stays_below m p t u made [])) is)
dir_put_same false m t p r is =
    then_same (no_parent false t p) r (walk (finite.get t) p) _ (dirs_same t (parents p))
    (λ _ _. kept_same r (dir_fits (finite.get t p)) (λ _. finite.insert t p (tree.Dir m)) is)

make_dir_same : (made : Bool) (m : MetaValue) (t : TreeMap) (p : Names) (o : Option Entry) → finite.get t p ≡ o
    → Same (no_dir_put made t p o) (make_dir made m p o t)
make_dir_same made m t p None is =
    ap (option_map fault_of) (sym (alone (no_parent made t p))) ∙ dir_put_same made m t p None (ap (λ o. fault_in (on_tree (dir_fits o))) (sym is))
make_dir_same made m t p (Some (tree.Dir n)) is = refl
make_dir_same made m t p (Some (tree.File n b)) is =
    dir_put_same made m t p (Some (At obstacle.IsFile p)) (ap (λ o. fault_in (on_tree (dir_fits o))) (sym is))

-- ---- removing

removed_same : (allowed : Bool) (t : TreeMap) (p : Names) (o : Option Entry) → Same (nothing_there allowed p o) (removed allowed p o t)
removed_same true t p None = refl
removed_same false t p None = refl
removed_same allowed t p (Some e) = refl

removed_all_same : (allowed : Bool) (ps : List Names) (t : TreeMap) → Same (no_match field.Path allowed ps) (removed_all allowed ps t)
removed_all_same true [] t = refl
removed_all_same false [] t = refl
removed_all_same allowed (p ∷ ps) t = refl

rm_pattern_same : (allowed : Bool) (t : TreeMap) (pattern : List (List Item)) → Same (no_removals allowed t pattern) (rm_pattern allowed t pattern)
rm_pattern_same allowed t [] = refl
rm_pattern_same allowed t (part ∷ parts) = removed_all_same allowed (matching (part ∷ parts) t) t

rm_exact : (r : Rm) (t : TreeMap) → Exact (rm_refusal r t) (rm r t)
rm_exact r t = by_flag r.allow_wildcard
  where
    by_flag : (b : Bool) → Exact
        (cond b (or_refusal (result_ok (pattern_of r.path)) (NotPattern field.Path) (no_removals r.allow_not_found t))
        (or_refusal (result_ok (path_of r.path)) (NotPath field.Path) (no_removal r.allow_not_found t)))
        (cond b (on_pattern (pattern_of r.path) >>= λ pattern. on_tree (rm_pattern r.allow_not_found t pattern))
        (on_tree (path_of r.path) >>= λ p. on_tree (rm_path r.allow_not_found t p)))
    by_flag true = pattern_exact field.Path (pattern_of r.path) _ _ (else-path (path_of r.path)) (rm_pattern_same r.allow_not_found t)
    by_flag false =
        read_exact field.Path (path_of r.path) _ _ (only_path r.path)
        (λ p. then_same (at_root p) _ (not_root p) _ (root_same p) (λ _ _. removed_same r.allow_not_found t p (finite.get t p)))

-- ---- copying

landings_same : (s : Names) (t : TreeMap) (es : List Pair) → Same (no_landings s t es) (all_land t es)
landings_same s t [] = refl
landings_same s t (e ∷ es) = by_entry (nat_lt 128 (length e.0)) (finite.get t e.0) e.1 (landings_same s t es)
  where
    by_entry : (b : Bool) (o : Option Entry) (x : Entry) → Same (no_landings s t es) (all_land t es)
        → Same (first_some (cond b (Some (At obstacle.TooLong s)) (no_meeting e.0 o x) ∷ map (no_landing s t) es))
        (cond {A = Result (Unit {0}) TreeFault} b (Err fault.BadName) (Ok tt) >>= λ _. meets o x >>= λ _. all_land t es)
    by_entry true o x rest = refl
    by_entry false None x rest = rest
    by_entry false (Some (tree.Dir m)) (tree.Dir n) rest = rest
    by_entry false (Some (tree.Dir m)) (tree.File n b) rest = refl
    by_entry false (Some (tree.File m a)) (tree.Dir n) rest = refl
    by_entry false (Some (tree.File m a)) (tree.File n b) rest = rest

-- what is at and below a path is what decides over entries that are moved there
moved_land : (t v : TreeMap) (goal : Names) → ((q : Names) → finite.get v (goal ++ q) ≡ finite.get t (goal ++ q)) → (n : ℕ) (es : List Pair)
    → all_land t (map (moved n goal) es) ≡ all_land v (map (moved n goal) es)
moved_land t v goal stays n [] = refl
moved_land t v goal stays n (e ∷ es) =
    λ i. fits (goal ++ drop n e.0) >>= λ _. meets (sym (stays (drop n e.0)) i) e.1 >>= λ _. moved_land t v goal stays n es i

parents_same : (create : Bool) (t : TreeMap) (goal : Names) → Same (no_parent create t goal) (parents_for create goal t)
parents_same true t goal = made_same new_dir_meta t goal
parents_same false t goal = kept_same (no_parent false t goal) (walk (finite.get t) goal) (λ _. t) (dirs_same t (parents goal))

module _ (c : CopyFile) (dest : Names × Bool) (second : TreeMap) where
  to_same : (s goal : Names) (t : TreeMap)
      → Same (no_copy_to c second s t goal) (parents_for c.create_dest_path goal t >>= land (copied c.mode c.owner) (at_target second s goal))
  to_same s goal t =
      let es : List Pair = at_target second s goal in
      then_same (no_parent c.create_dest_path t goal) (no_landings s t es) (parents_for c.create_dest_path goal t) _ (parents_same c.create_dest_path t goal)
      (λ v is. kept_same (no_landings s t es) (all_land v es) (λ _. laid_on (copied c.mode c.owner) v es)
      (landings_same s t es
      ∙ ap (λ r. fault_in (on_tree r)) (moved_land t v goal (lands_on c.create_dest_path goal t v is).below (length s) _)))

  one_same : (s : Names) (t : TreeMap) → Same (no_copy c dest second s t) (copy_one c dest second s t)
  one_same s t = by_fit (target c dest second s t)
    where
      by_fit : (goal : Names) → Same (or_refusal (result_ok (placed goal)) (At obstacle.TooLong s) (no_copy_to c second s t)) (copy_to c second s goal t)
      by_fit goal = by_test (nat_lt 128 (length goal))
        where
          by_test : (b : Bool) → Same
              (or_refusal (result_ok (cond {A = Result (Unit {0}) TreeFault} b (Err fault.BadName) (Ok tt) >>= λ _. Ok goal)) (At obstacle.TooLong s)
              (no_copy_to c second s t))
              (cond {A = Result (Unit {0}) TreeFault} b (Err fault.BadName) (Ok tt)
              >>= λ _. parents_for c.create_dest_path goal t >>= land (copied c.mode c.owner) (at_target second s goal))
          by_test true = refl
          by_test false = to_same s goal t

  copies_same : (ss : List Names) (t : TreeMap) → Same (no_copies c dest second ss t) (copy_each c dest second ss t)
  copies_same [] t = refl
  copies_same (s ∷ ss) t = by_copy (copy_one c dest second s t) (one_same s t) (copies_same ss)
    where
      by_copy : (o : Result TreeMap TreeFault) → Same (no_copy c dest second s t) o
          → ((u : TreeMap) → Same (no_copies c dest second ss u) (copy_each c dest second ss u))
          → Same (refused_or o (no_copy c dest second s t) (no_copies c dest second ss)) (o >>= copy_each c dest second ss)
      by_copy (Ok u) is each = each u
      by_copy (Err f) is each = is

  path_same : (s : Names) (t : TreeMap) (o : Option Entry)
      → Same (no_path_copy c dest second s t o) ((found o >>= λ _. Ok (s ∷ [])) >>= λ ss. copy_each c dest second ss t)
  path_same s t None = refl
  path_same s t (Some e) = kept_same (no_copy c dest second s t) (copy_one c dest second s t) (λ u. u) (one_same s t)

  match_same : (ss : List Names) (t : TreeMap)
      → Same (no_match_copy c dest second ss t) (some_match c.allow_empty_wildcard ss >>= λ ps. copy_each c dest second ps t)
  match_same ss t = by_flag c.allow_empty_wildcard ss
    where
      by_flag : (b : Bool) (ps : List Names)
          → Same (first_of (no_match field.Source b ps) (no_copies c dest second ps t)) (some_match b ps >>= λ qs. copy_each c dest second qs t)
      by_flag true [] = refl
      by_flag true (p ∷ ps) = copies_same (p ∷ ps) t
      by_flag false [] = refl
      by_flag false (p ∷ ps) = copies_same (p ∷ ps) t

copy_exact : (c : CopyFile) (t second : TreeMap) → Exact (copy_refusal c t second) (copy c t second)
copy_exact c t second = by_flag c.allow_wildcard
  where
    -- the destination, and what is chosen
    to : Chosen → Result TreeMap ActFault
    to chosen = on_tree (resolved c.dest) >>= λ dest. on_tree (copy_chosen c dest t second chosen)

    bound : {A : Type 0} (r : Result A ActFault) (f : A → Chosen) → ((r >>= λ a. Ok (f a)) >>= to) ≡ (r >>= λ a. to (f a))
    bound (Ok a) f = refl
    bound (Err e) f = refl

    by_flag : (b : Bool) → Exact
        (cond b (or_refusal (result_ok (pattern_of c.src)) (NotPattern field.Source)
        (λ pattern. at_dest c (λ dest. no_match_copy c dest second (matching pattern second) t)))
        (or_refusal (result_ok (path_of c.src)) (NotPath field.Source)
        (λ s. at_dest c (λ dest. no_path_copy c dest second s t (finite.get second s)))))
        (cond b (on_pattern (pattern_of c.src) >>= λ pattern. Ok (EachMatch pattern)) (on_tree (path_of c.src) >>= λ p. Ok (OnePath p)) >>= to)
    by_flag true =
        pattern_exact field.Source (pattern_of c.src) _ (λ pattern. to (EachMatch pattern)) (else-path (path_of c.src))
        (λ pattern. read_exact field.Dest (resolved c.dest) _ _ (only_resolved c.dest)
        (λ dest. match_same c dest second (matching pattern second) t))
        ∙ ap fault_in (sym (bound (on_pattern (pattern_of c.src)) (λ pattern. EachMatch pattern)))
    by_flag false =
        read_exact field.Source (path_of c.src) _ (λ s. to (OnePath s)) (only_path c.src)
        (λ s. read_exact field.Dest (resolved c.dest) _ _ (only_resolved c.dest)
        (λ dest. path_same c dest second s t (finite.get second s)))
        ∙ ap fault_in (sym (bound (on_tree (path_of c.src)) (λ p. OnePath p)))

-- ---- actions

-- an action has a refusal exactly if it has a fault, which is that of the refusal
pub exact : (action : Option ActionKind) (t second : TreeMap) → option_map fault_of (refusal_of action t second) ≡ fault_in (act action t second)
exact (Some (kind.MkFile m)) t second =
    read_same field.Path (path_of m.path) _ _ (only_path m.path) (λ p. file_put_same t p (made m.mode m.owner) m.body)
exact (Some (kind.MkDir m)) t second =
    read_same field.Path (path_of m.path) _ _ (only_path m.path) (λ p. make_dir_same m.make_parents (made m.mode m.owner) t p (finite.get t p) refl)
exact (Some (kind.Copy c)) t second = copy_exact c t second
exact (Some (kind.Rm r)) t second = rm_exact r t
exact None t second = refl
