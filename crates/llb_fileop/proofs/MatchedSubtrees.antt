-- The paths that match a pattern, and what is at or below them, by tests of their names.
use Rattle.std.proofs.Common.{◌≡◌, ◌≢◌, ◌<◌, ◌+◌, ℕ, zero, suc, Bool, true, false, cond, not, ◌||◌, ◌&&◌, List, [], ◌∷◌, ◌++◌, length, map, drop, get_or}
use Rattle.std.proofs.Common.{Option, Some, None, IsSome, is_some, Result, Ok, refl, sym, ap, subst, ◌∙◌, true≢false, append-nil, drop-cons, add-one, arith}
use Rattle.std.specs.List.{list_any, filter}
use Rattle.std.specs.Str.{chars}
use Rattle.std.specs.Ordering.{eq_by_cmp}
use Rattle.std.specs.FinMap as finite
use Rattle.llb_glob.specs.declared.item.Item.{Item}
use Rattle.llb_glob.specs.Matching.{name_matches, path_matches}
use Rattle.llb_wire.specs.CallResults.{◌>>=◌}
use Rattle.llb_tree.specs.Path.{path_cmp, is_within}
use Rattle.llb_tree.specs.PathOrder.{path_cmp-IsTotalOrder, path_cmp-IsAntisymmetric, same_path}
use Rattle.llb_tree.proofs.PathsBelow.{within_split, within-append}
use Rattle.llb_tree.proofs.SubtreeEntries.{walk_below, walk-cons}
use Rattle.llb_tree.specs.PathTests.{passes_all, goes, any_goes, thin, rid_of}
use Rattle.llb_tree.specs.Tree.{TreeMap, Entry, parents, all_dirs, IsTree}
use Rattle.llb_tree.specs.declared.fault.TreeFault.{TreeFault}
use Rattle.llb_fileop.specs.Removing.{matching, is_below_any, left, removed_all, absent, rm_pattern}
use Rattle.llb_fileop.specs.Copying.{some_match, copy_one, copy_each, copy_chosen, EachMatch}
use Rattle.llb_ops.specs.declared.actions.CopyFile.{CopyFile}
use Rattle.llb_fileop.proofs.PathOrderTraversal.{Pair, ties_itself}

abbrev Paths : Type 0
Paths = List (List (List ℕ))

-- the test of a name by a part of a pattern
abbrev pub fits_part : List Item → List ℕ → Bool
fits_part part name = name_matches part (chars name)

-- a path passes the tests of a pattern's parts exactly if it matches the pattern
same_tests : (parts : List (List Item)) (q : List (List ℕ)) → passes_all fits_part parts q ≡ path_matches parts q
same_tests [] [] = refl
same_tests [] (n ∷ q) = refl
same_tests (part ∷ parts) [] = refl
same_tests (part ∷ parts) (n ∷ q) = ap (λ b. fits_part part n && b) (same_tests parts q)

matching_is : (parts : List (List Item)) (t : TreeMap) → filter (passes_all fits_part parts) (finite.keys t) ≡ matching parts t
matching_is parts t = ap (λ test. filter test (finite.keys t)) (λ i q. same_tests parts q i)

-- ---- the paths that go

-- a path below one that matches goes
goes_below : (parts : List (List Item)) (p r : List (List ℕ)) → path_matches parts p ≡ true → goes fits_part parts (p ++ r) ≡ true
goes_below [] [] r is = refl
goes_below [] (n ∷ p) r is = absurd (true≢false (sym is))
goes_below (part ∷ parts) [] r is = absurd (true≢false (sym is))
goes_below (part ∷ parts) (n ∷ p) r is = by_test (fits_part part n) is (goes_below parts p r)
  where
    by_test : (b : Bool) → (b && path_matches parts p) ≡ true → (path_matches parts p ≡ true → goes fits_part parts (p ++ r) ≡ true)
        → (b && goes fits_part parts (p ++ r)) ≡ true
    by_test true is rest = rest is
    by_test false is rest = absurd (true≢false (sym is))

-- a path that goes is at or below one that matches
record IsBelowHit (parts : List (List Item)) (q : List (List ℕ)) : Type 0 where
  hit : List (List ℕ)
  rest : List (List ℕ)
  matches : path_matches parts hit ≡ true
  whole : q ≡ hit ++ rest

below_hit : (parts : List (List Item)) (q : List (List ℕ)) → goes fits_part parts q ≡ true → IsBelowHit parts q
below_hit [] q is = record { hit = []; rest = q; matches = refl; whole = refl }
below_hit (part ∷ parts) [] is = absurd (true≢false (sym is))
below_hit (part ∷ parts) (n ∷ q) is = by_test (fits_part part n) refl is (below_hit parts q)
  where
    by_test : (b : Bool) → fits_part part n ≡ b → (b && goes fits_part parts q) ≡ true → (goes fits_part parts q ≡ true → IsBelowHit parts q)
        → IsBelowHit (part ∷ parts) (n ∷ q)
    by_test false test is rest = absurd (true≢false (sym is))
    by_test true test is rest =
        let below = rest is in
        record {
          hit = n ∷ below.hit;
          rest = below.rest;
          matches = ap (λ b. b && path_matches parts below.hit) test ∙ below.matches;
          whole = ap (λ x. n ∷ x) below.whole;
        }

-- every path above one that is in a tree is in the tree too
there_above : (t : TreeMap) → IsTree t → (p r : List (List ℕ)) → IsSome (finite.get t (p ++ r)) → IsSome (finite.get t p)
there_above t tree p [] there = subst (λ x. IsSome (finite.get t x)) (append-nil p) there
there_above t tree p (n ∷ r) there =
    subst (λ x. IsSome (finite.get t x)) (append-nil p) (is_dir (finite.get t (p ++ []))
    (sym (walk-cons (λ x. finite.get t (p ++ x)) n r) ∙ walk_below (finite.get t) p (n ∷ r) (tree.closed (p ++ n ∷ r) there)))
  where
    is_dir : (o : Option Entry) → all_dirs (o ∷ map (λ x. finite.get t (p ++ n ∷ x)) (parents r)) ≡ Ok tt → IsSome o
    is_dir None is = absurd cc
    is_dir (Some e) is = refl

-- if a path in a list passes both tests, some path of the list that passes the first test passes the second
among : (f g : List (List ℕ) → Bool) (p : List (List ℕ)) (ks : Paths) → list_any (eq_by_cmp path_cmp p) ks ≡ true → f p ≡ true → g p ≡ true
    → list_any g (filter f ks) ≡ true
among f g p [] some hit is = absurd (true≢false (sym some))
among f g p (k ∷ ks) some hit is = by_tie (eq_by_cmp path_cmp p k) refl some (f k) refl (among f g p ks)
  where
    by_tie : (a : Bool) → eq_by_cmp path_cmp p k ≡ a → (a || list_any (eq_by_cmp path_cmp p) ks) ≡ true → (b : Bool) → f k ≡ b
        → (list_any (eq_by_cmp path_cmp p) ks ≡ true → f p ≡ true → g p ≡ true → list_any g (filter f ks) ≡ true)
        → list_any g (cond b (k ∷ filter f ks) (filter f ks)) ≡ true
    by_tie true at some true test rest = ap (λ b. b || list_any g (filter f ks)) (ap g (sym (same_path p k at)) ∙ is)
    by_tie true at some false miss rest = absurd (true≢false (sym hit ∙ ap f (same_path p k at) ∙ miss))
    by_tie false at some true test rest = or_true (g k) (rest some hit is)
      where
        or_true : (b : Bool) → list_any g (filter f ks) ≡ true → (b || list_any g (filter f ks)) ≡ true
        or_true true is = refl
        or_true false is = is
    by_tie false at some false miss rest = rest some hit is

-- if every path that passes the first test fails the second, no path of the list that passes the first passes the second
none_of : (f g : List (List ℕ) → Bool) (ks : Paths) → ((k : List (List ℕ)) → f k ≡ true → g k ≡ false) → list_any g (filter f ks) ≡ false
none_of f g [] fails = refl
none_of f g (k ∷ ks) fails = by_test (f k) refl (none_of f g ks fails)
  where
    by_test : (b : Bool) → f k ≡ b → list_any g (filter f ks) ≡ false → list_any g (cond b (k ∷ filter f ks) (filter f ks)) ≡ false
    by_test true test rest = ap (λ b. b || list_any g (filter f ks)) (fails k test) ∙ rest
    by_test false test rest = rest

module _ (parts : List (List Item)) (t : TreeMap) (tree : IsTree t) where
  -- a path that is in the tree goes exactly if it is at or below a path of the tree that matches
  below_same : (q : List (List ℕ)) → IsSome (finite.get t q) → is_below_any (matching parts t) q ≡ goes fits_part parts q
  below_same q there = by_test (goes fits_part parts q) refl
    where
      by_test : (b : Bool) → goes fits_part parts q ≡ b → is_below_any (matching parts t) q ≡ b
      by_test true is =
          let below = below_hit parts q is in
          let above = there_above t tree below.hit below.rest (subst (λ x. IsSome (finite.get t x)) below.whole there) in
          among (path_matches parts) (λ p. is_within p q) below.hit (finite.keys t) (sym (finite.contains_key-keys t below.hit) ∙ above) below.matches
          (ap (is_within below.hit) below.whole ∙ within-append below.hit below.rest)
      by_test false is = none_of (path_matches parts) (λ p. is_within p q) (finite.keys t) (λ p hit. by_within p hit (is_within p q) refl)
        where
          by_within : (p : List (List ℕ)) → path_matches parts p ≡ true → (b : Bool) → is_within p q ≡ b → b ≡ false
          by_within p hit false w = refl
          by_within p hit true w = absurd (true≢false (sym (ap (goes fits_part parts) (within_split p q w)
              ∙ goes_below parts p (drop (length p) q) hit) ∙ is))

  -- so the tree without the paths that go is the tree without the paths that match and what is below them
  left_is : thin fits_part parts t ≡ left parts t
  left_is = finite.same_map path_cmp-IsTotalOrder path_cmp-IsAntisymmetric (thin fits_part parts t) (left parts t) (λ q.
      finite.get-retain_keys t (λ x. not (goes fits_part parts x)) q (λ x tie. ap (λ y. not (goes fits_part parts y)) (sym (path_cmp-IsAntisymmetric q x tie)))
      ∙ by_there q (finite.get t q) refl
      ∙ sym (finite.get-retain_keys t (λ x. not (is_below_any (matching parts t) x)) q
      (λ x tie. ap (λ y. not (is_below_any (matching parts t) y)) (sym (path_cmp-IsAntisymmetric q x tie)))))
    where
      none : (a b : Bool) → ◌≡◌ {A = Option Entry} (cond a None None) (cond b None None)
      none true true = refl
      none true false = refl
      none false true = refl
      none false false = refl

      by_there : (q : List (List ℕ)) (o : Option Entry) → finite.get t q ≡ o
          → cond (not (goes fits_part parts q)) o None ≡ cond (not (is_below_any (matching parts t) q)) o None
      by_there q None is = none (not (goes fits_part parts q)) (not (is_below_any (matching parts t) q))
      by_there q (Some e) is = ap (λ b. cond (not b) (Some e) None) (sym (below_same q (ap is_some is)))

  -- some path goes exactly if some path matches
  any_same : (ps : Paths) → matching parts t ≡ ps → any_goes fits_part parts t ≡ list_any (λ _. true) ps
  any_same ps is = by_any (any_goes fits_part parts t) refl ps is
    where
      -- if the path of some entry passes a test, a path that passes it is found among the entries
      passing : (f : List (List ℕ) → Bool) (es : List Pair) → list_any f (map (λ e. e.0) es) ≡ true
          → (q : List (List ℕ)) × (f q ≡ true) × (is_some (finite.find path_cmp q es) ≡ true)
      passing f [] some = absurd (true≢false (sym some))
      passing f (e ∷ es) some = by_first (f e.0) refl some (passing f es)
        where
          by_first : (b : Bool) → f e.0 ≡ b → (b || list_any f (map (λ e. e.0) es)) ≡ true
              → (list_any f (map (λ e. e.0) es) ≡ true → (q : List (List ℕ)) × (f q ≡ true) × (is_some (finite.find path_cmp q es) ≡ true))
              → (q : List (List ℕ)) × (f q ≡ true) × (is_some (finite.find path_cmp q (e ∷ es)) ≡ true)
          by_first true hit some rest = (e.0, hit, ap (λ b. is_some (cond b (Some e.1) (finite.find path_cmp e.0 es))) (ties_itself e.0))
          by_first false miss some rest =
              let later = rest some in (
                later.0,
                later.1,
                elim (eq_by_cmp path_cmp later.0 e.0) as (λ b. is_some (cond b (Some e.1) (finite.find path_cmp later.0 es)) ≡ true)
                    [ true ↦ refl | false ↦ later.2 ],
              )

      by_any : (b : Bool) → any_goes fits_part parts t ≡ b → (ps : Paths) → matching parts t ≡ ps → b ≡ list_any (λ _. true) ps
      by_any true some (p ∷ ps) is = refl
      by_any false none [] is = refl
      by_any true some [] is =
          let one = passing (goes fits_part parts) (finite.entries t) some in
          absurd (true≢false (sym (below_same one.0 (ap is_some (finite.get-entries t one.0) ∙ one.2) ∙ one.1) ∙ ap (λ xs. is_below_any xs one.0) is))
      by_any false none (p ∷ ps) is = absurd (true≢false (sym (any_hit (finite.keys t) p ps is) ∙ none))
        where
          any_hit : (ks : Paths) (p : List (List ℕ)) (ps : Paths) → filter (path_matches parts) ks ≡ p ∷ ps → list_any (goes fits_part parts) ks ≡ true
          any_hit [] p ps is = absurd cc
          any_hit (k ∷ ks) p ps is = by_first (path_matches parts k) refl is (any_hit ks p ps)
            where
              by_first : (b : Bool) → path_matches parts k ≡ b → cond b (k ∷ filter (path_matches parts) ks) (filter (path_matches parts) ks) ≡ p ∷ ps
                  → (filter (path_matches parts) ks ≡ p ∷ ps → list_any (goes fits_part parts) ks ≡ true)
                  → (goes fits_part parts k || list_any (goes fits_part parts) ks) ≡ true
              by_first true hit is rest = ap (λ b. b || list_any (goes fits_part parts) ks)
                  (ap (goes fits_part parts) (sym (append-nil k)) ∙ goes_below parts k [] hit)
              by_first false miss is rest = or_true (goes fits_part parts k) (rest is)
                where
                  or_true : (b : Bool) → list_any (goes fits_part parts) ks ≡ true → (b || list_any (goes fits_part parts) ks) ≡ true
                  or_true true is = refl
                  or_true false is = is

-- ---- a removal by a pattern, from the tree without the paths that go

-- the tree that is left; if there is none, the result of `absent`
abbrev pub or_absent : Bool → TreeMap → Option TreeMap → Result TreeMap TreeFault
or_absent allowed t None = absent allowed t
or_absent allowed t (Some u) = Ok u

pub rm_is : (parts : List (List Item)) (t : TreeMap) (allowed : Bool) → IsTree t
    → (rid_of fits_part parts t >>= or_absent allowed t) ≡ rm_pattern allowed t parts
rm_is [] t allowed tree = refl
rm_is (part ∷ parts) t allowed tree =
    let all = part ∷ parts in
    (λ i. or_absent allowed t (cond (any_same all t tree (matching all t) refl i) (Some (left_is all t tree i)) None)) ∙ by_paths (matching all t)
  where
    by_paths : (ps : Paths) → or_absent allowed t (cond (list_any (λ _. true) ps) (Some (finite.retain_keys t (λ q. not (is_below_any ps q)))) None)
        ≡ removed_all allowed ps t
    by_paths [] = refl
    by_paths (p ∷ ps) = refl

-- ---- the sources of a copy by a pattern

-- all these paths are in the tree
abbrev pub AreThere : TreeMap → Paths → Type 0
AreThere t [] = Unit {0}
AreThere t (p ∷ ps) = IsSome (finite.get t p) × AreThere t ps

pub there_all : (parts : List (List Item)) (t : TreeMap) → AreThere t (matching parts t)
there_all parts t = go (finite.entries t) (λ q is. ap is_some (finite.get-entries t q) ∙ is)
  where
    go : (es : List Pair) → ((q : List (List ℕ)) → is_some (finite.find path_cmp q es) ≡ true → IsSome (finite.get t q))
        → AreThere t (filter (path_matches parts) (map (λ e. e.0) es))
    go [] each = tt
    go (e ∷ es) each = by_test (path_matches parts e.0) (each e.0 (ap (λ b. is_some (cond b (Some e.1) (finite.find path_cmp e.0 es))) (ties_itself e.0)))
        (go es (λ q is. each q (elim (eq_by_cmp path_cmp q e.0) as (λ b. is_some (cond b (Some e.1) (finite.find path_cmp q es)) ≡ true)
        [ true ↦ refl | false ↦ is ])))
      where
        by_test : (b : Bool) → IsSome (finite.get t e.0) → AreThere t (filter (path_matches parts) (map (λ e. e.0) es))
            → AreThere t (cond b (e.0 ∷ filter (path_matches parts) (map (λ e. e.0) es)) (filter (path_matches parts) (map (λ e. e.0) es)))
        by_test true here rest = (here, rest)
        by_test false here rest = rest

pub there_at : (t : TreeMap) (ps : Paths) (i : ℕ) (d : List (List ℕ)) → i < length ps → AreThere t ps → IsSome (finite.get t (get_or ps i d))
there_at t [] i d lt all = absurd (omega arith)
there_at t (p ∷ ps) zero d lt all = all.0
there_at t (p ∷ ps) (suc i) d lt all = there_at t ps i d (omega arith) all.1

-- if no path matches, the result is that of `absent`
pub copy_none : (c : CopyFile) (dest : List (List ℕ) × Bool) (second t : TreeMap) (ps : Paths) (allowed : Bool) → ps ≡ []
    → (some_match allowed ps >>= λ ss. copy_each c dest second ss t) ≡ absent allowed t
copy_none c dest second t ps allowed none = ap (λ xs. some_match allowed xs >>= λ ss. copy_each c dest second ss t) none ∙ by_leave allowed
  where
    by_leave : (b : Bool) → (some_match b [] >>= λ ss. copy_each c dest second ss t) ≡ absent b t
    by_leave true = refl
    by_leave false = refl

some_match-Ok : (ps : Paths) (allowed : Bool) → ps ≢ [] → some_match allowed ps ≡ Ok ps
some_match-Ok ps true some = refl
some_match-Ok [] false some = absurd (some refl)
some_match-Ok (p ∷ ps) false some = refl

-- if some paths match, they are copied
pub copy_some : (c : CopyFile) (dest : List (List ℕ) × Bool) (second t : TreeMap) (parts : List (List Item)) (ps : Paths) → ps ≡ matching parts second
    → (length ps ≡ 0 → ⊥) → copy_chosen c dest t second (EachMatch parts) ≡ copy_each c dest second ps t
copy_some c dest second t parts ps found some =
    ap (λ xs. some_match c.allow_empty_wildcard xs >>= λ ss. copy_each c dest second ss t) (sym found)
    ∙ ap (λ r. r >>= λ ss. copy_each c dest second ss t) (some_match-Ok ps c.allow_empty_wildcard (λ none. some (ap length none)))

-- copying the sources that are left is copying the next one, and then the others
pub copy_next : (c : CopyFile) (dest : List (List ℕ) × Bool) (second t : TreeMap) (ps : Paths) (i : ℕ) (p : List (List ℕ)) → i < length ps
    → p ≡ get_or ps i p → copy_each c dest second (drop i ps) t ≡ (copy_one c dest second p t >>= copy_each c dest second (drop (i + 1) ps))
copy_next c dest second t ps i p lt is =
    ap (λ xs. copy_each c dest second xs t) (drop-cons ps i p lt)
    ∙ (λ j. copy_one c dest second (sym is j) t >>= copy_each c dest second (drop (sym (add-one i) j) ps))

-- a list of length 0 is empty
pub no_path : (ps : Paths) → length ps ≡ 0 → ps ≡ []
no_path [] none = refl
no_path (p ∷ ps) none = absurd (omega arith)

-- the paths that are found by the parts of a pattern are those that match it
pub sources_are : (parts given : List (List Item)) (t : TreeMap) (found : Paths) → given ≡ parts
    → ◌≡◌ {A = Result Paths TreeFault} (Ok (filter (passes_all fits_part given) (finite.keys t))) (Ok found) → found ≡ matching parts t
sources_are parts given t found same is =
    let found_is : filter (passes_all fits_part given) (finite.keys t) ≡ found = cc in
    sym found_is ∙ ap (λ ps. filter (passes_all fits_part ps) (finite.keys t)) same ∙ matching_is parts t
