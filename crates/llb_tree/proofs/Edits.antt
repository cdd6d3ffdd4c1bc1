-- The result of each edit: the tree of its rule, whole again.
use Rattle.std.proofs.Common.{◌≡◌, ◌≢◌, ℕ, ◌+◌, ◌-◌, ◌≤◌, List, [], ◌∷◌, ◌++◌, length, Some, None, is_some, true, Option, Ok, refl, sym, ap}
use Rattle.std.proofs.Common.{subst, ◌∙◌, arith, length-append}
use Rattle.std.specs.FinMap as finite
use Rattle.llb_wire.specs.Spelling.{AreBytes}
use Rattle.llb_tree.specs.Path.{path_cmp, IsPath}
use Rattle.llb_tree.specs.ModeAndOwner.{MetaValue, IsMeta, new_dir_meta}
use Rattle.llb_tree.specs.Tree.{TreeMap, Entry, Dir, walk, file_fits, dir_fits, found, dir_there, places_fit, put_file, put_dir, remove}
use Rattle.llb_tree.specs.Tree.{graft, subtree, with_tree, empty_tree, IsTree}
use Rattle.llb_tree.specs.Nodes.{look_in, set_look, dir_look, file_look, IsWhole}
use Rattle.llb_tree.proofs.WalkByName.{put_dir-Ok, put_file-Ok}
use Rattle.llb_tree.proofs.ParentClosure.{IsTree-insert_dir, IsTree-insert_file, IsTree-empty, get-insert_cases}
use Rattle.llb_tree.proofs.SubtreeRemoval.{remove-Ok, IsTree-removed}
use Rattle.llb_tree.proofs.SubtreeEntries.{IsTree-tree_at, subtree-Ok}
use Rattle.llb_tree.proofs.GraftedTrees.{IsTree-with_tree, graft-Ok, get_inside}
use Rattle.llb_tree.proofs.EditedMaps.{dir_put, file_put, taken_away, tree_put, tree_taken, whole_set, deep_from, height_from}

module _ (t new one : TreeMap) (d n : ℕ) (p : List (List ℕ)) (m : MetaValue) (whole : IsWhole t d) (path : IsPath p) (is : IsMeta m)
    (walks : walk (finite.get t) p ≡ Ok tt) (le : d ≤ n) (long : length p ≤ n) (short : n ≤ 128)
    (set : (q : List (List ℕ)) → finite.get new q ≡ set_look p (Some one) (finite.get t) q) where
  -- a node of the file alone, set at the path, is the edit that puts the file, and the tree stays whole
  pub file_edit : (b : List ℕ) → AreBytes b → p ≢ [] → file_fits (finite.get t p) ≡ Ok tt
      → ((q : List (List ℕ)) → finite.get one q ≡ file_look m b q) → IsWhole new n × (put_file t p m b ≡ Ok new)
  file_edit b bytes named fits made =
      let same = file_put t new one p m b whole.tree fits made set in (
        whole_set t new p (Some one) d n whole (subst IsTree (sym same) (IsTree-insert_file t whole.tree p walks m b path is bytes fits)) le
            short (below long made) set,
        put_file-Ok t p m b named walks fits ∙ ap Ok (sym same),
      )
    where
      below : length p ≤ n → ((q : List (List ℕ)) → finite.get one q ≡ file_look m b q) → (q : List (List ℕ))
          → is_some (look_in (Some one) q) ≡ true → length p + length q ≤ n
      below long made [] there = omega arith
      below long made (x ∷ q) there = absurd (let e = sym (ap is_some (made (x ∷ q))) ∙ there in cc)

  -- a node of the directory, with what was below it, is the edit that puts the directory
  pub dir_edit : dir_fits (finite.get t p) ≡ Ok tt → ((q : List (List ℕ)) → finite.get one q ≡ dir_look m (λ r. finite.get t (p ++ r)) q)
      → IsWhole new n × (put_dir t p m ≡ Ok new)
  dir_edit fits made =
      let same = dir_put t new one p m made set in (
        whole_set t new p (Some one) d n whole (subst IsTree (sym same) (IsTree-insert_dir t whole.tree p walks m path is)) le short
            (below long le made) set,
        put_dir-Ok t p m walks fits ∙ ap Ok (sym same),
      )
    where
      below : length p ≤ n → d ≤ n → ((q : List (List ℕ)) → finite.get one q ≡ dir_look m (λ r. finite.get t (p ++ r)) q)
          → (q : List (List ℕ)) → is_some (look_in (Some one) q) ≡ true → length p + length q ≤ n
      below long le made [] there = omega arith
      below long le made (x ∷ q) there = let h = deep_from t d whole.deep (p ++ (x ∷ q)) (sym (ap is_some (made (x ∷ q))) ∙ there) in
          omega (arith, h, length-append p (x ∷ q))

-- a tree with nothing set at a path that was there, and was not the root, is whole and the result of the removal
pub removal : (t new : TreeMap) (d : ℕ) (p : List (List ℕ)) → IsWhole t d → p ≢ [] → found (finite.get t p) ≡ Ok tt
    → ((q : List (List ℕ)) → finite.get new q ≡ set_look p None (finite.get t) q) → IsWhole new d × (remove t p ≡ Ok new)
removal t new d p whole named there set =
    let same = taken_away t new p set in (
      whole_set t new p None d d whole (subst IsTree (sym same) (IsTree-removed t p whole.tree named)) (omega arith) whole.short
          (λ q none. absurd (cc)) set,
      remove-Ok t p named there ∙ ap Ok (sym same),
    )

module _ (t new other : TreeMap) (d e n : ℕ) (p : List (List ℕ)) (whole : IsWhole t d) (whole2 : IsWhole other e) (path : IsPath p)
    (walks : walk (finite.get t) p ≡ Ok tt) (fit : places_fit p (finite.keys other) ≡ Ok tt)
    (set : (q : List (List ℕ)) → finite.get new q ≡ set_look p (Some other) (finite.get t) q) where
  same : new ≡ with_tree t p other
  same = tree_put t new other p set

  tree : IsTree new
  tree = subst IsTree (sym same) (IsTree-with_tree t whole.tree p path other whole2.tree walks fit)

  -- the other tree, set at the path, is the graft of it, and the tree stays whole if the depth has room
  pub grafting : d ≤ n → n ≤ 128 → ((k : ℕ) → k ≤ length p + e → k ≤ 128 → k ≤ n) → IsWhole new n × (graft t p other ≡ Ok new)
  grafting le short room = (
    whole_set t new p (Some other) d n whole tree le short
        (λ q there. room (length p + length q) (let h = deep_from other e whole2.deep q there in omega arith) (deep q there)) set,
    graft-Ok t p other walks fit ∙ ap Ok (sym same),
  )
    where
      at : (o : Option Entry) (q : List (List ℕ)) → finite.get other q ≡ o → is_some o ≡ true → length p + length q ≤ 128
      at None q is there = absurd (cc)
      at (Some x) q is there = let h =
          (tree.allowed (p ++ q) x (ap (λ s. finite.get s (p ++ q)) same ∙ get_inside t p other q ∙ is)).path.short in omega (arith, h, length-append p q)

      deep : (q : List (List ℕ)) → is_some (finite.get other q) ≡ true → length p + length q ≤ 128
      deep q there = at (finite.get other q) q refl there

-- what a whole tree has at and below a directory is whole, less deep by that path's names, and is the subtree there
pub taking : (t sub : TreeMap) (d n : ℕ) (p : List (List ℕ)) → IsWhole t d → dir_there t p ≡ Ok tt → d - length p ≤ n → n ≤ 128
    → ((q : List (List ℕ)) → finite.get sub q ≡ finite.get t (p ++ q)) → IsWhole sub n × (subtree t p ≡ Ok sub)
taking t sub d n p whole there le short is =
    let same = tree_taken t sub p is in (
      record {
        tree = subst IsTree (sym same) (IsTree-tree_at t p whole.tree there);
        deep = height_from sub n (λ q some. let h = deep_from t d whole.deep (p ++ q) (sym (ap is_some (is q)) ∙ some) in omega (arith, h, length-append p q));
        short = short;
      },
      subtree-Ok t p there ∙ ap Ok (sym same),
    )

-- the empty tree is whole, and its one path has no name
pub IsWhole-empty : (t : TreeMap) → t ≡ empty_tree → IsWhole t 0
IsWhole-empty t is = subst (λ s. IsWhole s 0) (sym is) (record {
  tree = IsTree-empty new_dir_meta (record { mode = omega arith; uid = omega arith; gid = omega arith });
  deep = height_from empty_tree 0 (λ q. get-insert_cases (λ o. is_some o ≡ true → length q ≤ 0) finite.empty [] (Dir new_dir_meta) q
      (λ root there. let e = ap length root in omega arith) (λ there. absurd (let e = sym (ap is_some (finite.get-empty path_cmp q)) ∙ there in cc)));
  short = omega arith;
})
