-- Trees that are laid on one another.
use Rattle.std.proofs.Common.{◌≡◌, ℕ, Bool, true, false, cond, ◌||◌, List, [], ◌∷◌, ◌++◌, map, Option, Some, None, is_some, Result, Ok, Err, refl, sym, ap, ◌∙◌}
use Rattle.std.specs.List.{list_any}
use Rattle.std.specs.Ordering.{eq_by_cmp}
use Rattle.std.specs.FinMap as finite
use Rattle.llb_tree.specs.Path.{path_cmp}
use Rattle.llb_tree.specs.PathOrder.{path_cmp-IsTotalOrder, path_cmp-IsAntisymmetric, same_path}
use Rattle.llb_tree.specs.ModeAndOwner.{MetaValue}
use Rattle.llb_tree.specs.Tree.{TreeMap, Entry, Dir, File, Look, parents, all_dirs, IsTree}
use Rattle.llb_tree.specs.Overlay as lay
use Rattle.llb_tree.specs.Overlay.{SettingsValue, is_file, below_file, over, over_at}
use Rattle.llb_tree.specs.declared.fault.TreeFault.{TreeFault}
use Rattle.llb_tree.specs.declared.fault.TreeFault.TheVariants.{Conflict}
use Rattle.llb_fileop.specs.Copying.{meets, landed, landed_on, laid_on}
use Rattle.llb_fileop.specs.CopyPlacement.{laid, AgreeOn}
use Rattle.llb_fileop.proofs.PathOrderTraversal.{Pair}

-- what is found in a tree with entries over it
pub find_laid : (given : MetaValue → MetaValue) (t : TreeMap) (es : List Pair) (q : List (List ℕ))
    → finite.find path_cmp q (map (landed_on given t) es ++ finite.entries t) ≡ laid given (finite.get t q) (finite.find path_cmp q es)
find_laid given t [] q = sym (finite.get-entries t q)
find_laid given t (e ∷ es) q = by_tie (eq_by_cmp path_cmp q e.0) refl (find_laid given t es q)
  where
    by_tie : (b : Bool) → eq_by_cmp path_cmp q e.0 ≡ b → finite.find path_cmp q (map (landed_on given t) es ++ finite.entries t)
        ≡ laid given (finite.get t q) (finite.find path_cmp q es)
        → cond b (Some (landed given (finite.get t e.0) e.1)) (finite.find path_cmp q (map (landed_on given t) es ++ finite.entries t))
        ≡ laid given (finite.get t q) (cond b (Some e.1) (finite.find path_cmp q es))
    by_tie true t2 rest = ap (λ k. Some (landed given (finite.get t k) e.1)) (sym (same_path q e.0 t2))
    by_tie false t2 rest = rest

-- after entries land on a tree, a path has what the tree had there with the entry found for that path laid over it
pub get-laid_on : (given : MetaValue → MetaValue) (t : TreeMap) (es : List Pair) (q : List (List ℕ))
    → finite.get (laid_on given t es) q ≡ laid given (finite.get t q) (finite.find path_cmp q es)
get-laid_on given t es q = finite.get-from_entries path_cmp-IsTotalOrder (map (landed_on given t) es ++ finite.entries t) q ∙ find_laid given t es q

module _ (given : MetaValue → MetaValue) (here source : TreeMap) where
  -- where all entries of a source are laid on a tree, each path has the source's own entry laid on the tree's
  pub get-whole : (q : List (List ℕ)) → finite.get (laid_on given here (finite.entries source)) q ≡ laid given (finite.get here q) (finite.get source q)
  get-whole q = get-laid_on given here (finite.entries source) q ∙ ap (laid given (finite.get here q)) (sym (finite.get-entries source q))

-- ---- an overlay

-- no file is above a path to which a walk finds only directories
walked_free : (f g : Look) (ps : List (List (List ℕ))) → ((r : List (List ℕ)) (m : MetaValue) → f r ≡ Some (Dir m) → is_file (g r) ≡ false)
    → all_dirs (map f ps) ≡ Ok tt → list_any is_file (map g ps) ≡ false
walked_free f g [] free walks = refl
walked_free f g (p ∷ ps) free walks = by_dir (f p) refl walks (walked_free f g ps free)
  where
    by_dir : (o : Option Entry) → f p ≡ o → all_dirs (o ∷ map f ps) ≡ Ok tt → (all_dirs (map f ps) ≡ Ok tt → list_any is_file (map g ps) ≡ false)
        → (is_file (g p) || list_any is_file (map g ps)) ≡ false
    by_dir None is walks rest = absurd cc
    by_dir (Some (File m b)) is walks rest = absurd cc
    by_dir (Some (Dir m)) is walks rest = ap (λ x. x || list_any is_file (map g ps)) (free p m is) ∙ rest walks

module _ (settings : SettingsValue) (given : MetaValue → MetaValue) (gives : (m : MetaValue) → lay.laid_meta settings m ≡ given m)
    (keeps : settings.keeps ≡ true) where
  over_lands : (there : Option Entry) (e : Entry) → over settings there e ≡ landed given there e
  over_lands (Some (Dir m)) (Dir k) = ap (λ b. Dir (cond b m (lay.laid_meta settings k))) keeps
  over_lands (Some (File m b)) (Dir k) = ap Dir (gives k)
  over_lands None (Dir k) = ap Dir (gives k)
  over_lands (Some (Dir m)) (File k c) = ap (λ x. File x c) (gives k)
  over_lands (Some (File m b)) (File k c) = ap (λ x. File x c) (gives k)
  over_lands None (File k c) = ap (λ x. File x c) (gives k)

  module _ (here source : TreeMap) (tree : IsTree here) (agree : AgreeOn here source) where
    free : (r : List (List ℕ)) (m : MetaValue) → finite.get here r ≡ Some (Dir m) → is_file (finite.get source r) ≡ false
    free r m is = by_own (finite.get source r) refl
      where
        by_own : (o : Option Entry) → finite.get source r ≡ o → is_file o ≡ false
        by_own None own = refl
        by_own (Some (Dir n)) own = refl
        by_own (Some (File n b)) own =
            let no : ◌≡◌ {A = Result (Unit {0}) TreeFault} (Err Conflict) (Ok tt) = sym (ap (λ o. meets o (File n b)) is) ∙ agree r (File n b) own in
            absurd cc

    over_is_laid : (q : List (List ℕ)) → over_at settings (finite.get here) (finite.get source) q ≡ laid given (finite.get here q) (finite.get source q)
    over_is_laid q = by_own (finite.get source q) (finite.get here q) refl
      where
        by_own : (o there : Option Entry) → finite.get here q ≡ there → lay.laid_over settings there o (below_file (finite.get source) q) ≡ laid given there o
        by_own (Some e) there is = ap Some (over_lands there e)
        by_own None None is = either (below_file (finite.get source) q)
          where
            either : (b : Bool) → cond {A = Option Entry} b None None ≡ None
            either true = refl
            either false = refl
        by_own None (Some d) is =
            ap (λ b. cond b None (Some d)) (walked_free (finite.get here) (finite.get source) (parents q) free (tree.closed q (ap is_some is)))

    -- if a source agrees with a tree, laying it over the tree has the same result as landing its entries on the tree
    pub overlaid_is : (merged : TreeMap) → ((q : List (List ℕ)) → finite.get merged q ≡ over_at settings (finite.get here) (finite.get source) q)
        → laid_on given here (finite.entries source) ≡ merged
    overlaid_is merged is =
        finite.same_map path_cmp-IsTotalOrder path_cmp-IsAntisymmetric (laid_on given here (finite.entries source)) merged
        (λ q. get-whole given here source q ∙ sym (is q ∙ over_is_laid q))
