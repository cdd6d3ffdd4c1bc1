-- A tree with another one at a path.
use Rattle.std.proofs.Common.{◌≡◌, ℕ, ◌+◌, ◌≤◌, nat_lt, Bool, true, false, not, cond, ◌&&◌, List, [], ◌∷◌, ◌++◌, length, drop, map, Option}
use Rattle.std.proofs.Common.{Some, None, IsSome, is_some, Result, Ok, Err, refl, sym, ap, subst, ◌∙◌, true≢false, arith, length-append}
use Rattle.std.proofs.lemmas.Bool.{ltb-false}
use Rattle.std.proofs.lemmas.List.Elements.{All-head, All-tail, All-append, All-map}
use Rattle.std.specs.Ordering.{is_eq, eq_by_cmp}
use Rattle.std.specs.Cmp.Lexicographic.{bytes_decides}
use Rattle.std.specs.List.{All}
use Rattle.std.specs.FinMap as finite
use Rattle.llb_tree.specs.Path.{is_name, path_cmp, is_within, IsPath}
use Rattle.llb_tree.specs.PathOrder.{path_cmp-IsTotalOrder, same_path}
use Rattle.llb_tree.specs.ModeAndOwner.{MetaValue}
use Rattle.llb_tree.specs.Tree.{Entry, Dir, File, Look, TreeMap, parents, all_dirs, walk, moved, without, with_tree, places_fit, graft, IsAllowedAt, IsTree}
use Rattle.llb_tree.specs.declared.fault.TreeFault.{TreeFault}
use Rattle.llb_tree.specs.declared.fault.TreeFault.TheVariants.{BadName}
use Rattle.llb_wire.specs.CallResults.{◌>>=◌}
use Rattle.llb_tree.proofs.SubtreeEntries.{Pair, walk-cons}
use Rattle.llb_tree.proofs.PathsBelow.{within_split, within-append, cmp-append}
use Rattle.llb_tree.proofs.SubtreeRemoval.{get-without, walk_beside}

-- ---- looking among entries

find_first_of : (q : List (List ℕ)) (e : Pair) (xs ys : List Pair) (b : Bool)
    → (finite.find path_cmp q xs ≡ None → finite.find path_cmp q (xs ++ ys) ≡ finite.find path_cmp q ys)
    → cond b (Some e.1) (finite.find path_cmp q xs) ≡ None → cond b (Some e.1) (finite.find path_cmp q (xs ++ ys)) ≡ finite.find path_cmp q ys
find_first_of q e xs ys true rest none = absurd (true≢false (ap is_some none))
find_first_of q e xs ys false rest none = rest none

find_past : (q : List (List ℕ)) (xs ys : List Pair) → finite.find path_cmp q xs ≡ None → finite.find path_cmp q (xs ++ ys) ≡ finite.find path_cmp q ys
find_past q [] ys none = refl
find_past q (e ∷ xs) ys none = find_first_of q e xs ys (eq_by_cmp path_cmp q e.0) (find_past q xs ys) none

find_front : (q : List (List ℕ)) (xs ys : List Pair) → finite.find path_cmp q ys ≡ None → finite.find path_cmp q (xs ++ ys) ≡ finite.find path_cmp q xs
find_front q [] ys none = none
find_front q (e ∷ xs) ys none = ap (λ o. cond (eq_by_cmp path_cmp q e.0) (Some e.1) o) (find_front q xs ys none)

-- a path is not found where a test separates all of them from it
find_apart : (p q : List (List ℕ)) (b : Bool) (es : List Pair) → (is_within p q ≡ b → ⊥) → All (λ (e : Pair). is_within p e.0 ≡ b) es
    → finite.find path_cmp q es ≡ None
find_apart p q b [] apart all = refl
find_apart p q b (e ∷ es) apart all = by_tie (eq_by_cmp path_cmp q e.0) refl ∙ find_apart p q b es apart (All-tail (λ (x : Pair). is_within p x.0 ≡ b) e es all)
  where
    by_tie : (t : Bool) → eq_by_cmp path_cmp q e.0 ≡ t → cond t (Some e.1) (finite.find path_cmp q es) ≡ finite.find path_cmp q es
    by_tie false t = refl
    by_tie true t = absurd (apart (ap (is_within p) (same_path q e.0 t) ∙ All-head (λ (x : Pair). is_within p x.0 ≡ b) e es all))

-- among entries that are moved below a path, what was found at q before is found at q below it
pub find_moved : (p q : List (List ℕ)) (es : List Pair) → finite.find path_cmp (p ++ q) (map (moved 0 p) es) ≡ finite.find path_cmp q es
find_moved p q [] = refl
find_moved p q (e ∷ es) = λ i. cond (is_eq (cmp-append p q e.0 i)) (Some e.1) (find_moved p q es i)

all_moved : (p : List (List ℕ)) (es : List Pair) → All (λ (e : Pair). is_within p e.0 ≡ true) (map (moved 0 p) es)
all_moved p es = All-map (λ (e : Pair). is_within p e.0 ≡ true) (moved 0 p) es (λ k d lt. within-append p _)

-- ---- what the tree has

module _ (t : TreeMap) (p : List (List ℕ)) (other : TreeMap) where
  -- at and below the path, a grafted tree has what the other tree has
  pub get_inside : (q : List (List ℕ)) → finite.get (with_tree t p other) (p ++ q) ≡ finite.get other q
  get_inside q =
      finite.get-from_entries path_cmp-IsTotalOrder (map (moved 0 p) (finite.entries other) ++ finite.entries (without t p)) (p ++ q)
      ∙ find_front (p ++ q) (map (moved 0 p) (finite.entries other)) (finite.entries (without t p))
      (sym (finite.get-entries (without t p) (p ++ q)) ∙ get-without t p (p ++ q)
      ∙ ap (λ b. cond (not b) (finite.get t (p ++ q)) None) (within-append p q))
      ∙ find_moved p q (finite.entries other) ∙ sym (finite.get-entries other q)

  -- everywhere else, the tree has what it had
  pub get_outside : (q : List (List ℕ)) → is_within p q ≡ false → finite.get (with_tree t p other) q ≡ finite.get t q
  get_outside q out =
      finite.get-from_entries path_cmp-IsTotalOrder (map (moved 0 p) (finite.entries other) ++ finite.entries (without t p)) q
      ∙ find_past q (map (moved 0 p) (finite.entries other)) (finite.entries (without t p))
      (find_apart p q true _ (λ is. true≢false (sym is ∙ out)) (all_moved p (finite.entries other)))
      ∙ sym (finite.get-entries (without t p) q) ∙ get-without t p q ∙ ap (λ b. cond (not b) (finite.get t q) None) out

-- ---- the tree is one

-- the looks above a path decide the walk to it
pub walk_to : (f g : Look) (p : List (List ℕ)) → ((r : List (List ℕ)) → is_within p r ≡ false → f r ≡ g r) → walk f p ≡ walk g p
walk_to f g [] same = refl
walk_to f g (n ∷ p) same =
    walk-cons f n p ∙ (λ i. all_dirs (same [] refl i ∷ map (λ r. f (n ∷ r)) (parents p)))
    ∙ onward (g []) (walk_to (λ r. f (n ∷ r)) (λ r. g (n ∷ r)) p (λ r out. same (n ∷ r) (ap (λ b. b && is_within p r) ((bytes_decides n n).1 refl) ∙ out)))
    ∙ sym (walk-cons g n p)
  where
    onward : (o : Option Entry) → walk (λ r. f (n ∷ r)) p ≡ walk (λ r. g (n ∷ r)) p
        → all_dirs (o ∷ map (λ r. f (n ∷ r)) (parents p)) ≡ all_dirs (o ∷ map (λ r. g (n ∷ r)) (parents p))
    onward None is = refl
    onward (Some (File m b)) is = refl
    onward (Some (Dir m)) is = is

-- a walk to a path, and one from there
pub walk_joined : (look : Look) (p q : List (List ℕ)) → walk look p ≡ Ok tt → walk (λ r. look (p ++ r)) q ≡ Ok tt → walk look (p ++ q) ≡ Ok tt
walk_joined look [] q to from = from
walk_joined look (n ∷ p) q to from = walk-cons look n (p ++ q) ∙ go (look []) (walk_joined (λ r. look (n ∷ r)) p q) (sym (walk-cons look n p) ∙ to)
  where
    go : (o : Option Entry) → (walk (λ r. look (n ∷ r)) p ≡ Ok tt → walk (λ r. look (n ∷ (p ++ r))) q ≡ Ok tt
        → walk (λ r. look (n ∷ r)) (p ++ q) ≡ Ok tt) → all_dirs (o ∷ map (λ r. look (n ∷ r)) (parents p)) ≡ Ok tt
        → all_dirs (o ∷ map (λ r. look (n ∷ r)) (parents (p ++ q))) ≡ Ok tt
    go None rest is = absurd cc
    go (Some (File m b)) rest is = absurd cc
    go (Some (Dir m)) rest is = rest is from

fits_first : (n : ℕ) (r : Result (Unit {0}) TreeFault) → cond (nat_lt 128 n) (Err BadName) r ≡ Ok tt → (n ≤ 128) × (r ≡ Ok tt)
fits_first n r is = go (nat_lt 128 n) refl is
  where
    go : (b : Bool) → nat_lt 128 n ≡ b → cond b (Err BadName) r ≡ Ok tt → (n ≤ 128) × (r ≡ Ok tt)
    go true lt is = absurd cc
    go false lt is = (ltb-false 128 n lt, is)

fits_there : (p q : List (List ℕ)) (e : Entry) (es : List Pair) → places_fit p (map (λ x. x.0) es) ≡ Ok tt
    → finite.find path_cmp q es ≡ Some e → length p + length q ≤ 128
fits_there p q e [] fit is = absurd cc
fits_there p q e (x ∷ es) fit is =
    let parts = fits_first (length p + length x.0) (places_fit p (map (λ y. y.0) es)) fit in
    by_tie (eq_by_cmp path_cmp q x.0) refl (fits_there p q e es parts.1) parts.0 is
  where
    by_tie : (t : Bool) → eq_by_cmp path_cmp q x.0 ≡ t → (finite.find path_cmp q es ≡ Some e → length p + length q ≤ 128)
        → length p + length x.0 ≤ 128 → cond t (Some x.1) (finite.find path_cmp q es) ≡ Some e → length p + length q ≤ 128
    by_tie true t rest le is = subst (λ y. length p + length y ≤ 128) (sym (same_path q x.0 t)) le
    by_tie false t rest le is = rest is

empty : (q : List (List ℕ)) → length q ≡ 0 → q ≡ []
empty [] none = refl
empty (n ∷ q) none = absurd (omega arith)

module _ (t : TreeMap) (tree : IsTree t) (p : List (List ℕ)) (path : IsPath p) (other : TreeMap) (tree2 : IsTree other)
    (walks : walk (finite.get t) p ≡ Ok tt) (fit : places_fit p (finite.keys other) ≡ Ok tt) where
  abbrev pub grafted : TreeMap
  grafted = with_tree t p other

  by_place : (C : List (List ℕ) → Type 0) → ((q : List (List ℕ)) → C (p ++ q)) → ((q : List (List ℕ)) → is_within p q ≡ false → C q) → (q : List (List ℕ)) → C q
  by_place C in' out q = by_test (is_within p q) refl
    where
      by_test : (b : Bool) → is_within p q ≡ b → C q
      by_test true is = subst C (sym (within_split p q is)) (in' (drop (length p) q))
      by_test false is = out q is

  same_above : (r : List (List ℕ)) → is_within p r ≡ false → finite.get t r ≡ finite.get grafted r
  same_above r out = sym (get_outside t p other r out)

  -- a tree that is grafted where its place can be reached and its paths fit makes a tree
  pub IsTree-with_tree : IsTree grafted
  IsTree-with_tree = record {
    root = by_place (λ q. (length q ≡ 0) → (m : MetaValue) × (finite.get grafted q ≡ Some (Dir m)))
        (λ q none. (tree2.root.0, get_inside t p other q ∙ ap (finite.get other) (empty q (omega (arith, none, length-append p q))) ∙ tree2.root.1))
        (λ q out none. (tree.root.0, sym (same_above q out) ∙ ap (finite.get t) (empty q none) ∙ tree.root.1)) [] refl;
    closed = by_place (λ q. IsSome (finite.get grafted q) → walk (finite.get grafted) q ≡ Ok tt)
        (λ q there. walk_joined (finite.get grafted) p q (sym (walk_to (finite.get t) (finite.get grafted) p same_above) ∙ walks)
        (ap (λ look. walk look q) (λ i r. get_inside t p other r i) ∙ tree2.closed q (subst IsSome (get_inside t p other q) there)))
        (λ q out there. sym (walk_beside (finite.get t) (finite.get grafted) p q same_above out)
        ∙ tree.closed q (subst IsSome (get_outside t p other q out) there));
    allowed = λ q e. by_place (λ q. finite.get grafted q ≡ Some e → IsAllowedAt q e)
        (λ q is.
        let there = sym (get_inside t p other q) ∙ is in
        let can = tree2.allowed q e there in
        let le = fits_there p q e (finite.entries other) fit (sym (finite.get-entries other q) ∙ there) in
        record {
          path = record {
            short = omega (arith, le, length-append p q);
            named =
                All-append (λ n. is_name n ≡ true) p q path.named can.path.named;
          };
          meta = can.meta;
          bytes = can.bytes;
        })
        (λ q out is. tree.allowed q e (sym (get_outside t p other q out) ∙ is)) q;
  }

-- a graft with directories all the way to its path, and with room for all its places, results in the tree with the other in it
pub graft-Ok : (t : TreeMap) (p : List (List ℕ)) (other : TreeMap) → walk (finite.get t) p ≡ Ok tt
    → places_fit p (finite.keys other) ≡ Ok tt → graft t p other ≡ Ok (with_tree t p other)
graft-Ok t p other walks fit = ap (λ r. r >>= λ _. places_fit p (finite.keys other) >>= λ _. Ok (with_tree t p other)) walks
    ∙ ap (λ r. r >>= λ _. Ok (with_tree t p other)) fit
