-- Edits keep the parents of every path.
use Rattle.std.proofs.Common.{◌≡◌, ℕ, List, [], ◌∷◌, map, Option, Some, None, IsSome, is_some, Bool, true, false, cond, Ok, refl, sym, ap}
use Rattle.std.proofs.Common.{subst, ◌∙◌, true≢false, arith}
use Rattle.std.specs.Ordering.{eq_by_cmp}
use Rattle.std.specs.FinMap as finite
use Rattle.llb_wire.specs.Spelling.{AreBytes}
use Rattle.llb_tree.specs.ModeAndOwner.{MetaValue, IsMeta}
use Rattle.llb_tree.specs.Path.{path_cmp, IsPath}
use Rattle.llb_tree.specs.PathOrder.{path_cmp-IsTotalOrder, same_path}
use Rattle.llb_tree.specs.Tree.{Entry, Dir, File, Look, TreeMap, parents, all_dirs, walk, file_fits, IsDirAt, IsAllowedAt, IsTree}
use Rattle.llb_tree.proofs.SubtreeEntries.{walk-cons}

-- a path is p, or what is there stays
pub get-insert_cases : (P : Option Entry → Type 0) (t : TreeMap) (p : List (List ℕ)) (e : Entry) (q : List (List ℕ)) → (q ≡ p → P (Some e))
    → P (finite.get t q) → P (finite.get (finite.insert t p e) q)
get-insert_cases P t p e q here there = subst P (sym (finite.get-insert path_cmp-IsTotalOrder t p e q)) (by_test (eq_by_cmp path_cmp q p) refl)
  where
    by_test : (b : Bool) → eq_by_cmp path_cmp q p ≡ b → P (cond b (Some e) (finite.get t q))
    by_test true is = here (same_path q p is)
    by_test false is = there

-- more directories let a walk through
pub walk_more : (f g : Look) → ((r : List (List ℕ)) → IsDirAt f r → IsDirAt g r) → (p : List (List ℕ)) → walk f p ≡ Ok tt → walk g p ≡ Ok tt
walk_more f g more [] walks = refl
walk_more f g more (n ∷ p) walks =
    by_root (f []) refl (sym (walk-cons f n p) ∙ walks) (walk_more (λ q. f (n ∷ q)) (λ q. g (n ∷ q)) (λ r. more (n ∷ r)) p)
  where
    by_root : (e : Option Entry) → f [] ≡ e → all_dirs (e ∷ map (λ q. f (n ∷ q)) (parents p)) ≡ Ok tt
        → (walk (λ q. f (n ∷ q)) p ≡ Ok tt → walk (λ q. g (n ∷ q)) p ≡ Ok tt) → walk g (n ∷ p) ≡ Ok tt
    by_root None is walks rest = absurd (cc)
    by_root (Some (File m b)) is walks rest = absurd (cc)
    by_root (Some (Dir m)) is walks rest =
        let own = more [] (m, is) in
        walk-cons g n p ∙ ap (λ e. all_dirs (e ∷ map (λ q. g (n ∷ q)) (parents p))) own.1 ∙ rest walks

allowed_there : (p : List (List ℕ)) (e : Entry) → IsAllowedAt p e → (q : List (List ℕ)) (d : Entry) → q ≡ p → Some e ≡ Some d → IsAllowedAt q d
allowed_there p e can q d same is = let own : e ≡ d = cc in subst (λ x. IsAllowedAt x d) (sym same) (subst (IsAllowedAt p) own can)

module _ (t : TreeMap) (tree : IsTree t) (p : List (List ℕ)) (walks : walk (finite.get t) p ≡ Ok tt) where
  -- an entry that takes no directory's place keeps the tree
  pub IsTree-insert : (e : Entry) → IsAllowedAt p e → ((q : List (List ℕ)) → IsDirAt (finite.get t) q → q ≡ p
      → (m : MetaValue) × (Some e ≡ Some (Dir m))) → IsTree (finite.insert t p e)
  IsTree-insert e can dirs =
      let more : (q : List (List ℕ)) → IsDirAt (finite.get t) q → IsDirAt (finite.get (finite.insert t p e)) q =
      λ q dir. get-insert_cases (λ o. (m : MetaValue) × (o ≡ Some (Dir m))) t p e q (dirs q dir) dir in
      record {
        root = more [] tree.root;
        closed = λ q there. walk_more (finite.get t) (finite.get (finite.insert t p e)) more q
            (get-insert_cases (λ o. IsSome o → walk (finite.get t) q ≡ Ok tt) t p e q (λ same _. ap (walk (finite.get t)) same ∙ walks) (tree.closed q) there);
        allowed = λ q d. get-insert_cases (λ o. o ≡ Some d → IsAllowedAt q d) t p e q (allowed_there p e can q d) (tree.allowed q d);
      }

  -- a tree stays a tree after a directory is put at the path, whatever is there
  pub IsTree-insert_dir : (m : MetaValue) → IsPath p → IsMeta m → IsTree (finite.insert t p (Dir m))
  IsTree-insert_dir m path is = IsTree-insert (Dir m) (record { path = path; meta = is; bytes = tt }) (λ q dir same. (m, refl))

  -- a tree stays a tree after a file is put at the path, if no directory is there
  pub IsTree-insert_file : (m : MetaValue) (b : List ℕ) → IsPath p → IsMeta m → AreBytes b
      → file_fits (finite.get t p) ≡ Ok tt → IsTree (finite.insert t p (File m b))
  IsTree-insert_file m b path is bytes fits = IsTree-insert (File m b) (record { path = path; meta = is; bytes = bytes })
      (λ q dir same. let e = sym (ap file_fits (ap (finite.get t) (sym same) ∙ dir.1)) ∙ fits in absurd (cc))

abbrev single : MetaValue → TreeMap
single m = finite.insert finite.empty [] (Dir m)

none_there : {C : Type 0} (q : List (List ℕ)) → IsSome (finite.get (finite.empty {X = Entry} {R = path_cmp}) q) → C
none_there q some = absurd (true≢false (sym some ∙ ap is_some (finite.get-empty path_cmp q)))

none_allowed : (q : List (List ℕ)) (d : Entry) → finite.get (finite.empty {X = Entry} {R = path_cmp}) q ≡ Some d → IsAllowedAt q d
none_allowed q d is = none_there q (ap is_some is)

root_path : IsPath []
root_path = record { short = omega arith; named = λ k d lt. absurd (omega arith) }

-- a directory at the root with nothing below it is a tree, where its mode and its owners are in range
pub IsTree-empty : (m : MetaValue) → IsMeta m → IsTree (single m)
IsTree-empty m is = record {
  root = (m, finite.get-insert path_cmp-IsTotalOrder finite.empty [] (Dir m) []);
  closed = λ q. get-insert_cases (λ o. IsSome o → walk (finite.get (single m)) q ≡ Ok tt) finite.empty [] (Dir m) q
      (λ same _. ap (walk (finite.get (single m))) same) (none_there q);
  allowed = λ q d. get-insert_cases (λ o. o ≡ Some d → IsAllowedAt q d) finite.empty [] (Dir m) q
      (allowed_there [] (Dir m) (record { path = root_path; meta = is; bytes = tt }) q d) (none_allowed q d);
}
