-- A copy from two trees that agree at and below what it copies.
use Rattle.std.proofs.Common.{◌≡◌, ℕ, Bool, true, false, cond, ◌||◌, ◌&&◌, List, [], ◌∷◌, ◌++◌, map, length, Option, Some, None, refl, sym, ap, ◌∙◌}
use Rattle.std.specs.Prelude.{Result, Ok, Err}
use Rattle.std.specs.List.{filter}
use Rattle.std.specs.FinMap as finite
use Rattle.std.specs.FinMap.Entries.{where_key, find-where_key, is_sorted-where_key, same_entries}
use Rattle.llb_wire.specs.CallResults.{◌>>=◌}
use Rattle.llb_ops.specs.declared.actions.CopyFile.{CopyFile}
use Rattle.llb_ops.specs.declared.file_op.ActionKind.{ActionKind}
use Rattle.llb_ops.specs.declared.file_op.ActionKind.TheVariants as kind
use Rattle.llb_tree.specs.Path.{path_cmp, is_within}
use Rattle.llb_tree.specs.PathOrder.{path_cmp-IsTotalOrder, path_cmp-IsAntisymmetric}
use Rattle.llb_tree.specs.Tree.{TreeMap, moved, found, is_dir}
use Rattle.llb_tree.specs.declared.fault.TreeFault.{TreeFault}
use Rattle.llb_tree.proofs.PathsBelow.{within_itself}
use Rattle.llb_glob.specs.declared.item.Item.{Item}
use Rattle.llb_glob.specs.Matching.{path_matches}
use Rattle.llb_fileop.specs.declared.fault.ActFault.{ActFault}
use Rattle.llb_fileop.specs.CallResults.{on_tree}
use Rattle.llb_fileop.specs.Owners.{copied}
use Rattle.llb_fileop.specs.Removing.{matching}
use Rattle.llb_fileop.specs.Copying.{resolved, Chosen, OnePath, EachMatch, chosen_by, some_match, last_name, target, fits, parents_for, land}
use Rattle.llb_fileop.specs.Copying.{copy_one, copy_each, copy_chosen}
use Rattle.llb_fileop.specs.FileActions.{act}
use Rattle.llb_fileop.proofs.PathOrderTraversal.{Pair}
use Rattle.llb_model.proofs.Lists.{Each_of}
use Rattle.llb_laws.specs.CopiedPaths.{AgreeBelow, AgreeOn, AgreeFor, CopiesAlike}

-- the paths that pass a test are those of the entries whose paths pass it
filter_keys : (test : List (List ℕ) → Bool) (es : List Pair) → filter test (map (λ (e : Pair). e.0) es) ≡ map (λ (e : Pair). e.0) (where_key path_cmp test es)
filter_keys test [] = refl
filter_keys test (e ∷ es) = by_test (test e.0) (filter_keys test es)
  where
    by_test : (b : Bool) → filter test (map (λ (e : Pair). e.0) es) ≡ map (λ (e : Pair). e.0) (where_key path_cmp test es)
        → cond b (e.0 ∷ filter test (map (λ (e : Pair). e.0) es)) (filter test (map (λ (e : Pair). e.0) es))
        ≡ map (λ (e : Pair). e.0) (cond b (e ∷ where_key path_cmp test es) (where_key path_cmp test es))
    by_test true rest = ap (λ l. e.0 ∷ l) rest
    by_test false rest = rest

-- what holds of each path that passes a test holds of each that is left of a list by the test
each_passing : (P : List (List ℕ) → Type 0) (test : List (List ℕ) → Bool) → ((p : List (List ℕ)) → test p ≡ true → P p) → (ps : List (List (List ℕ)))
    → Each_of P (filter test ps)
each_passing P test h [] = tt
each_passing P test h (p ∷ ps) = by_test (test p) refl (each_passing P test h ps)
  where
    by_test : (b : Bool) → test p ≡ b → Each_of P (filter test ps) → Each_of P (cond b (p ∷ filter test ps) (filter test ps))
    by_test true is rest = (h p is, rest)
    by_test false is rest = rest

module _ (t u : TreeMap) where
  -- trees that have the same at each path that passes a test have the same entries at these paths
  same_where : (test : List (List ℕ) → Bool) → ((q : List (List ℕ)) → test q ≡ true → finite.get t q ≡ finite.get u q)
      → where_key path_cmp test (finite.entries t) ≡ where_key path_cmp test (finite.entries u)
  same_where test same =
      same_entries path_cmp path_cmp-IsTotalOrder path_cmp-IsAntisymmetric (where_key path_cmp test (finite.entries t))
      (where_key path_cmp test (finite.entries u)) (is_sorted-where_key path_cmp test (finite.entries t) (finite.entries_sorted t))
      (is_sorted-where_key path_cmp test (finite.entries u) (finite.entries_sorted u)) (λ q. look t q ∙ by_test q (test q) refl ∙ sym (look u q))
    where
      look : (v : TreeMap) (q : List (List ℕ))
          → finite.find path_cmp q (where_key path_cmp test (finite.entries v)) ≡ cond (test q) (finite.get v q) None
      look v q =
          find-where_key path_cmp test q (λ x tie. ap test (sym (path_cmp-IsAntisymmetric q x tie))) (finite.entries v)
          ∙ ap (λ o. cond (test q) o None) (sym (finite.get-entries v q))

      by_test : (q : List (List ℕ)) (b : Bool) → test q ≡ b → cond b (finite.get t q) None ≡ cond b (finite.get u q) None
      by_test q true is = same q is
      by_test q false is = refl

  -- trees that agree on the paths that match a pattern have the same paths that match it
  matching_same : (pattern : List (List Item)) → AgreeOn t u (EachMatch pattern) → matching pattern t ≡ matching pattern u
  matching_same pattern agree =
      filter_keys (path_matches pattern) (finite.entries t)
      ∙ ap (map (λ (e : Pair). e.0)) (same_where (path_matches pattern) (λ q is. agree q is q (within_itself q)))
      ∙ sym (filter_keys (path_matches pattern) (finite.entries u))

  module _ (c : CopyFile) (dest : List (List ℕ) × Bool) where
    -- the tree after entries are copied from below a source to below a target
    abbrev landed_from : List (List ℕ) → TreeMap → List (List ℕ) → List Pair → Result TreeMap TreeFault
    landed_from s base goal es = fits goal >>= λ _. parents_for c.create_dest_path goal base >>= land (copied c.mode c.owner) (map (moved (length s) goal) es)

    one_same : (s : List (List ℕ)) → AgreeBelow t u s → (base : TreeMap) → copy_one c dest t s base ≡ copy_one c dest u s base
    one_same s agree base =
        let goal : target c dest t s base ≡ target c dest u s base =
        ap (λ o. cond (c.dir_copy_contents && is_dir o) dest.0 (cond (dest.1 || is_dir (finite.get base dest.0)) (dest.0 ++ last_name s) dest.0))
        (agree s (within_itself s)) in
        let below = same_where (is_within s) agree in
        λ i. landed_from s base (goal i) (below i)

    each_same : (ss : List (List (List ℕ))) → Each_of (AgreeBelow t u) ss → (base : TreeMap) → copy_each c dest t ss base ≡ copy_each c dest u ss base
    each_same [] agree base = refl
    each_same (s ∷ ss) agree base = λ i. one_same s agree.0 base i >>= λ x. each_same ss agree.1 x i

    chosen_same : (base : TreeMap) (chosen : Chosen) → AgreeOn t u chosen → copy_chosen c dest base t chosen ≡ copy_chosen c dest base u chosen
    chosen_same base (OnePath p) agree =
        ap (λ o. (found o >>= λ _. Ok (p ∷ [])) >>= λ ss. copy_each c dest t ss base) (agree p (within_itself p)) ∙ by_found (found (finite.get u p))
      where
        by_found : (r : Result (Unit {0}) TreeFault)
            → ((r >>= λ _. Ok (p ∷ [])) >>= λ ss. copy_each c dest t ss base) ≡ ((r >>= λ _. Ok (p ∷ [])) >>= λ ss. copy_each c dest u ss base)
        by_found (Ok _) = each_same (p ∷ []) (agree, tt) base
        by_found (Err e) = refl
    chosen_same base (EachMatch pattern) agree =
        ap (λ ps. some_match c.allow_empty_wildcard ps >>= λ ss. copy_each c dest t ss base) (matching_same pattern agree)
        ∙ by_some c.allow_empty_wildcard (matching pattern u) (each_passing (AgreeBelow t u) (path_matches pattern) agree (finite.keys u))
      where
        by_some : (b : Bool) (ps : List (List (List ℕ))) → Each_of (AgreeBelow t u) ps
            → (some_match b ps >>= λ ss. copy_each c dest t ss base) ≡ (some_match b ps >>= λ ss. copy_each c dest u ss base)
        by_some true ps each = each_same ps each base
        by_some false [] each = refl
        by_some false (p ∷ ps) each = each_same (p ∷ ps) each base

-- the tree after what a copy has chosen is copied from a tree, or the fault
abbrev copied_from : CopyFile → TreeMap → TreeMap → Chosen → Result TreeMap ActFault
copied_from c base v chosen = on_tree (resolved c.dest) >>= λ dest. on_tree (copy_chosen c dest base v chosen)

-- a copy from either of two trees that agree at and below what it chooses is the same
pub copied_alike : (c : CopyFile) (base t u : TreeMap) → CopiesAlike c base t u
copied_alike c base t u agree = by_choice (chosen_by c) refl
  where
    by_choice : (r : Result Chosen ActFault) → chosen_by c ≡ r → (r >>= copied_from c base t) ≡ (r >>= copied_from c base u)
    by_choice (Ok chosen) is = λ i. on_tree (resolved c.dest) >>= λ dest. on_tree (chosen_same t u c dest base chosen (agree chosen is) i)
    by_choice (Err e) is = refl

-- an action on either of two second trees is the same, if they agree for each copy that it is
pub act_alike : (a : Option ActionKind) (base t u : TreeMap) → ((c : CopyFile) → a ≡ Some (kind.Copy c) → AgreeFor c t u) → act a base t ≡ act a base u
act_alike (Some (kind.MkFile m)) base t u agree = refl
act_alike (Some (kind.MkDir m)) base t u agree = refl
act_alike (Some (kind.Copy c)) base t u agree = copied_alike c base t u (agree c refl)
act_alike (Some (kind.Rm r)) base t u agree = refl
act_alike None base t u agree = refl
