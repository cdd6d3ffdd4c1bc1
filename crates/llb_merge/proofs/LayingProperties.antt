-- What a laying has at each path, that it is a tree, and what the empty tree and a tree itself do in it.
use Rattle.std.proofs.Common.{◌≡◌, ℕ, Bool, true, false, not, cond, ◌||◌, List, [], ◌∷◌, ◌++◌, map}
use Rattle.std.proofs.Common.{Option, Some, None, IsSome, is_some, Ok, refl, sym, ap, ◌∙◌, true≢false}
use Rattle.std.specs.Prelude.{unwrap_or}
use Rattle.std.specs.List.{list_any}
use Rattle.std.specs.Ordering.{eq_by_cmp}
use Rattle.std.specs.FinMap as finite
use Rattle.std.specs.FinMap.Entries.{where_key, find-where_key}
use Rattle.llb_tree.specs.ModeAndOwner.{new_dir_meta}
use Rattle.llb_tree.specs.Path.{path_cmp}
use Rattle.llb_tree.specs.PathOrder.{path_cmp-IsTotalOrder, path_cmp-IsAntisymmetric}
use Rattle.llb_tree.specs.Tree.{Entry, Dir, File, TreeMap, Look, parents, all_dirs, walk, IsDirAt, IsAllowedAt, IsTree, empty_tree}
use Rattle.llb_tree.specs.Overlay.{SettingsValue, settings_of, laid_over, over_at}
use Rattle.llb_tree.proofs.SubtreeEntries.{map-map, walk-cons}
use Rattle.llb_tree.proofs.ParentClosure.{walk_more}
use Rattle.llb_merge.specs.Laying.{is_file, below_file, or_else, lay_at, lay}

-- a path, and the entry at it
abbrev Pair : Type 0
Pair = List (List ℕ) × Entry

-- ---- the entry at each path

find_both : (q : List (List ℕ)) (es fs : List Pair) → finite.find path_cmp q (es ++ fs) ≡ or_else (finite.find path_cmp q es) (finite.find path_cmp q fs)
find_both q [] fs = refl
find_both q (e ∷ es) fs =
    ap (cond (eq_by_cmp path_cmp q e.0) (Some e.1)) (find_both q es fs)
    ∙ elim (eq_by_cmp path_cmp q e.0)
    as (λ b. cond b (Some e.1) (or_else (finite.find path_cmp q es) (finite.find path_cmp q fs))
    ≡ or_else (cond b (Some e.1) (finite.find path_cmp q es)) (finite.find path_cmp q fs)) [ true ↦ refl | false ↦ refl ]

cond-not : (b : Bool) (x y : Option Entry) → cond (not b) x y ≡ cond b y x
cond-not true x y = refl
cond-not false x y = refl

pub get-lay : (a b : TreeMap) (q : List (List ℕ)) → finite.get (lay a b) q ≡ lay_at (finite.get a) (finite.get b) q
unfolding lay
get-lay a b q =
    let kept = λ (p : List (List ℕ)). not (below_file (finite.get b) p) in
    finite.get-from_entries path_cmp-IsTotalOrder (finite.entries b ++ where_key path_cmp kept (finite.entries a)) q
    ∙ find_both q (finite.entries b) (where_key path_cmp kept (finite.entries a))
    ∙ (λ i. or_else (sym (finite.get-entries b q) i)
    (find-where_key path_cmp kept q (λ x tied. ap kept (sym (path_cmp-IsAntisymmetric q x tied))) (finite.entries a) i))
    ∙ ap (or_else (finite.get b q)) (cond-not (below_file (finite.get b) q) (finite.find path_cmp q (finite.entries a)) None
    ∙ ap (λ o. cond (below_file (finite.get b) q) None o) (sym (finite.get-entries a q)))

-- a tree that has these entries at all paths is the result of laying
pub lay_only : (a b t : TreeMap) → ((q : List (List ℕ)) → finite.get t q ≡ lay_at (finite.get a) (finite.get b) q) → t ≡ lay a b
lay_only a b t is = finite.same_map path_cmp-IsTotalOrder path_cmp-IsAntisymmetric t (lay a b) (λ q. is q ∙ sym (get-lay a b q))

-- the overlay of llb_tree that changes no mode and no owner, and keeps no directory of the lower tree, is this laying
abbrev plain_settings : SettingsValue
plain_settings = record { mode = None; uid = None; gid = None; keeps = false }

over_plain : (f g : Look) (q : List (List ℕ)) → over_at plain_settings f g q ≡ lay_at f g q
over_plain f g q = by_upper (g q) (f q)
  where
    by_upper : (o there : Option Entry) → laid_over plain_settings there o (below_file g q) ≡ or_else o (cond (below_file g q) None there)
    by_upper None there = refl
    by_upper (Some (File m b)) None = refl
    by_upper (Some (File m b)) (Some (File k c)) = refl
    by_upper (Some (File m b)) (Some (Dir k)) = refl
    by_upper (Some (Dir m)) None = refl
    by_upper (Some (Dir m)) (Some (File k c)) = refl
    by_upper (Some (Dir m)) (Some (Dir k)) = refl

pub over_is_lay : (w : SettingsValue) → settings_of None None None false ≡ Some w → (a b t : TreeMap)
    → ((q : List (List ℕ)) → finite.get t q ≡ over_at w (finite.get a) (finite.get b) q) → t ≡ lay a b
over_is_lay w is a b t over = lay_only a b t (λ q.
    over q
    ∙ ap (λ x. over_at x (finite.get a) (finite.get b) q) (sym (ap (λ o. unwrap_or o w) is))
    ∙ over_plain (finite.get a) (finite.get b) q)

-- ---- the parents of a path

pub below_file-cons : (look : Look) (n : List ℕ) (p : List (List ℕ)) → below_file look (n ∷ p) ≡ (is_file (look []) || below_file (λ q. look (n ∷ q)) p)
below_file-cons look n p = ap (λ ys. list_any is_file (look [] ∷ ys)) (map-map look (λ q. n ∷ q) (parents p))

-- what can be walked to in the lower tree can be walked to in both, if no file of the upper one is above it
walk_both : (f g : Look) (p : List (List ℕ)) → walk f p ≡ Ok tt → below_file g p ≡ false → walk (lay_at f g) p ≡ Ok tt
walk_both f g [] walks clear = refl
walk_both f g (n ∷ p) walks clear =
    walk-cons (lay_at f g) n p
    ∙ (λ i. all_dirs (lay_at f g [] ∷ map (λ q. or_else (g (n ∷ q)) (cond (below_file-cons g n q i) None (f (n ∷ q)))) (parents p)))
    ∙ by_root (f []) (g []) (sym (walk-cons f n p) ∙ walks) (sym (below_file-cons g n p) ∙ clear) (walk_both (λ q. f (n ∷ q)) (λ q. g (n ∷ q)) p)
  where
    by_root : (a b : Option Entry) → all_dirs (a ∷ map (λ q. f (n ∷ q)) (parents p)) ≡ Ok tt
        → (is_file b || below_file (λ q. g (n ∷ q)) p) ≡ false
        → (walk (λ q. f (n ∷ q)) p ≡ Ok tt → below_file (λ q. g (n ∷ q)) p ≡ false
        → walk (lay_at (λ q. f (n ∷ q)) (λ q. g (n ∷ q))) p ≡ Ok tt)
        → all_dirs (or_else b a ∷ map (λ q. or_else (g (n ∷ q)) (cond (is_file b || below_file (λ r. g (n ∷ r)) q) None (f (n ∷ q)))) (parents p)) ≡ Ok tt
    by_root None b walks clear rest = absurd cc
    by_root (Some (File m c)) b walks clear rest = absurd cc
    by_root (Some (Dir m)) (Some (File k c)) walks clear rest = absurd (true≢false clear)
    by_root (Some (Dir m)) (Some (Dir k)) walks clear rest = rest walks clear
    by_root (Some (Dir m)) None walks clear rest = rest walks clear

-- ---- the result is a tree

-- an entry of the result is the upper tree's, or the lower one's if no file of the upper tree is above it
pub laid_cases : (C : Type 0) (f g : Look) (q : List (List ℕ)) (e : Entry)
    → (g q ≡ Some e → C) → (g q ≡ None → below_file g q ≡ false → f q ≡ Some e → C) → lay_at f g q ≡ Some e → C
laid_cases C f g q e up low is = by_upper (g q) refl is
  where
    by_test : g q ≡ None → (b : Bool) → below_file g q ≡ b → cond b None (f q) ≡ Some e → C
    by_test none true t is = absurd (true≢false (sym (ap is_some is)))
    by_test none false t is = low none t is

    by_upper : (o : Option Entry) → g q ≡ o → or_else o (cond (below_file g q) None (f q)) ≡ Some e → C
    by_upper None there is = by_test there (below_file g q) refl is
    by_upper (Some x) there is = up (there ∙ is)

some_is : (o : Option Entry) → IsSome o → (e : Entry) × (o ≡ Some e)
some_is None there = absurd (true≢false (sym there))
some_is (Some e) there = (e, refl)

dir_over : (f g : Look) (r : List (List ℕ)) → IsDirAt g r → IsDirAt (lay_at f g) r
dir_over f g r is = (is.0, ap (λ o. or_else o (cond (below_file g r) None (f r))) is.1)

module _ (a b : TreeMap) (lower : IsTree a) (upper : IsTree b) where
  looks : (p : List (List ℕ)) → walk (finite.get (lay a b)) p ≡ walk (lay_at (finite.get a) (finite.get b)) p
  looks p = ap (λ look. walk look p) (λ i r. get-lay a b r i)

  closed : (p : List (List ℕ)) (e : Entry) → lay_at (finite.get a) (finite.get b) p ≡ Some e → walk (lay_at (finite.get a) (finite.get b)) p ≡ Ok tt
  closed p e = laid_cases (walk (lay_at (finite.get a) (finite.get b)) p ≡ Ok tt) (finite.get a) (finite.get b) p e
      (λ is. walk_more (finite.get b) (lay_at (finite.get a) (finite.get b)) (dir_over (finite.get a) (finite.get b)) p (upper.closed p (ap is_some is)))
      (λ none clear is. walk_both (finite.get a) (finite.get b) p (lower.closed p (ap is_some is)) clear)

  pub IsTree-lay : IsTree (lay a b)
  unfolding dir_over
  IsTree-lay = record {
    root = (upper.root.0, get-lay a b [] ∙ (dir_over (finite.get a) (finite.get b) [] upper.root).1);
    closed = λ p there. let some = some_is (finite.get (lay a b) p) there in looks p ∙ closed p some.0 (sym (get-lay a b p) ∙ some.1);
    allowed = λ p e is.
        laid_cases (IsAllowedAt p e) (finite.get a) (finite.get b) p e (upper.allowed p e) (λ none clear there. lower.allowed p e there)
        (sym (get-lay a b p) ∙ is);
  }

-- ---- the empty tree, and a tree over itself

get-empty_tree : (q : List (List ℕ)) → finite.get empty_tree q ≡ cond (eq_by_cmp path_cmp q []) (Some (Dir new_dir_meta)) None
get-empty_tree q =
    finite.get-insert path_cmp-IsTotalOrder finite.empty [] (Dir new_dir_meta) q
    ∙ ap (λ o. cond (eq_by_cmp path_cmp q []) (Some (Dir new_dir_meta)) o) (finite.get-empty path_cmp q)

kept_same : (b : Bool) (o : Option Entry) → or_else o (cond b None o) ≡ o
kept_same b (Some e) = refl
kept_same true None = refl
kept_same false None = refl

none_more : (b : Bool) (o : Option Entry) → or_else o (cond b None None) ≡ o
none_more b (Some e) = refl
none_more true None = refl
none_more false None = refl

pub lay_itself : (t : TreeMap) → lay t t ≡ t
lay_itself t = sym (lay_only t t t (λ q. sym (kept_same (below_file (finite.get t) q) (finite.get t q))))

pub lay_over_empty : (t : TreeMap) → IsTree t → lay empty_tree t ≡ t
lay_over_empty t tree = sym (lay_only empty_tree t t there)
  where
    there : (q : List (List ℕ)) → finite.get t q ≡ lay_at (finite.get empty_tree) (finite.get t) q
    there [] = tree.root.1 ∙ ap (λ o. or_else o (finite.get empty_tree [])) (sym tree.root.1)
    there (n ∷ q) =
        sym (ap (λ o. or_else (finite.get t (n ∷ q)) (cond (below_file (finite.get t) (n ∷ q)) None o)) (get-empty_tree (n ∷ q))
        ∙ none_more (below_file (finite.get t) (n ∷ q)) (finite.get t (n ∷ q)))

-- a tree without files has no file above a path
below_none : (look : Look) → ((r : List (List ℕ)) → is_file (look r) ≡ false) → (p : List (List ℕ)) → below_file look p ≡ false
below_none look none p = go (parents p)
  where
    go : (ps : List (List (List ℕ))) → list_any is_file (map look ps) ≡ false
    go [] = refl
    go (r ∷ ps) = ap (λ b. b || list_any is_file (map look ps)) (none r) ∙ go ps

empty_no_file : (q : List (List ℕ)) → is_file (finite.get empty_tree q) ≡ false
empty_no_file q =
    ap is_file (get-empty_tree q)
    ∙ elim (eq_by_cmp path_cmp q []) as (λ b. is_file (cond b (Some (Dir new_dir_meta)) None) ≡ false) [ true ↦ refl | false ↦ refl ]

pub lay_under_empty : (t : TreeMap) → lay t empty_tree ≡ finite.insert t [] (Dir new_dir_meta)
lay_under_empty t = sym (lay_only t empty_tree (finite.insert t [] (Dir new_dir_meta)) (λ q.
    finite.get-insert path_cmp-IsTotalOrder t [] (Dir new_dir_meta) q
    ∙ elim (eq_by_cmp path_cmp q [])
    as (λ b. cond b (Some (Dir new_dir_meta)) (finite.get t q) ≡ or_else (cond b (Some (Dir new_dir_meta)) None) (finite.get t q))
    [ true ↦ refl | false ↦ refl ]
    ∙ (λ i. or_else (sym (get-empty_tree q) i) (cond (sym (below_none (finite.get empty_tree) empty_no_file q) i) None (finite.get t q)))))
