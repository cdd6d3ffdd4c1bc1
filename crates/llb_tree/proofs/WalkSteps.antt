-- The steps of a walk: down to a child, up from a directory, and after what is below the present entry.
use Rattle.std.proofs.Common.{◌≡◌, ℕ, ◌+◌, ◌-◌, ◌<◌, ◌≤◌, Bool, true, false, not, ◌&&◌, nat_eq, cond, List, [], ◌∷◌, ◌++◌, length, take}
use Rattle.std.proofs.Common.{map, T, refl, sym, ap, subst, ◌∙◌, true≢false, arith, append_assoc, length-append}
use Rattle.std.proofs.lemmas.List.{map-append, append-nil, take_at, drop_at}
use Rattle.std.proofs.lemmas.List.Elements.{All-cons, All-drop, filter-append}
use Rattle.std.specs.declared.cmp.Ordering.TheVariants.{Less}
use Rattle.std.specs.Ordering.{is_lt}
use Rattle.std.specs.Cmp.{tied_itself}
use Rattle.std.specs.Cmp.Lexicographic.{pointwise, bytes_decides, nat_list_cmp_total}
use Rattle.std.specs.FinMap as finite
use Rattle.std.specs.FinMap.Entries.{where_key, below_all}
use Rattle.llb_tree.specs.Path.{name_cmp, path_cmp, is_within}
use Rattle.llb_tree.specs.Tree.{Entry, TreeMap, moved}
use Rattle.llb_tree.specs.Nodes.{name_of, below, flat, pair_of, AreSorted, IsWhole}
use Rattle.llb_tree.specs.Walks.{past, behind, AreBehind, AreShort}
use Rattle.llb_tree.specs.declared.node.Child.{Child}
use Rattle.llb_tree.proofs.EntryOrder.{is_less, and_first, and_second}
use Rattle.llb_tree.proofs.PathsBelow.{within-append}
use denote.Param.Weighed.{most}

abbrev Pair : Type 0
Pair = List (List ℕ) × Entry

abbrev prefixed : List ℕ → List Pair → List Pair
prefixed n es = map (λ (e : Pair). (n ∷ e.0, e.1)) es

-- ---- down to a child

moved-push : (p : List (List ℕ)) (n : List ℕ) (es : List Pair) → map (moved 0 (p ++ n ∷ [])) es ≡ map (moved 0 p) (prefixed n es)
moved-push p n [] = refl
moved-push p n (e ∷ es) = λ i. (append_assoc p (n ∷ []) e.0 i, e.1) ∷ moved-push p n es i

moved-cons : (p : List (List ℕ)) (n : List ℕ) (es : List Pair) → prefixed n (map (moved 0 p) es) ≡ map (moved 0 (n ∷ p)) es
moved-cons p n [] = refl
moved-cons p n (e ∷ es) = ap (λ xs. moved 0 (n ∷ p) e ∷ xs) (moved-cons p n es)

pub moved-root : (es : List Pair) → map (moved 0 []) es ≡ es
moved-root [] = refl
moved-root (e ∷ es) = ap (λ xs. e ∷ xs) (moved-root es)

behind-push : (p : List (List ℕ)) (ls : List (List Child)) (n : List ℕ) (l : List Child) → AreBehind p ls
    → behind (p ++ n ∷ []) (ls ++ l ∷ []) ≡ map (moved 0 p) (flat l) ++ behind p ls
behind-push [] [] n l h = sym (append-nil (map (moved 0 []) (flat l)) ∙ moved-root (flat l))
behind-push [] (x ∷ ls) n l h = absurd h
behind-push (m ∷ p) [] n l h = absurd h
behind-push (m ∷ p) (x ∷ ls) n l h =
    ap (λ es. prefixed m es ++ flat x) (behind-push p ls n l h.1)
    ∙ ap (λ es. es ++ flat x) (map-append (λ (e : Pair). (m ∷ e.0, e.1)) (map (moved 0 p) (flat l)) (behind p ls)
    ∙ ap (λ es. es ++ prefixed m (behind p ls)) (moved-cons p m (flat l)))
    ∙ append_assoc (map (moved 0 (m ∷ p)) (flat l)) (prefixed m (behind p ls)) (flat x)

pub AreBehind-push : (p : List (List ℕ)) (ls : List (List Child)) (n : List ℕ) (l : List Child) → AreBehind p ls → T (below_all name_cmp n (map pair_of l))
    → AreSorted l → AreBehind (p ++ n ∷ []) (ls ++ l ∷ [])
AreBehind-push [] [] n l h b s = ((b, s), tt)
AreBehind-push [] (x ∷ ls) n l h b s = absurd h
AreBehind-push (m ∷ p) [] n l h b s = absurd h
AreBehind-push (m ∷ p) (x ∷ ls) n l h b s = (h.0, AreBehind-push p ls n l h.1 b s)

-- what is left at a child, and after it
pub entered : (p : List (List ℕ)) (ls : List (List Child)) (k : Child) (l : List Child) → AreBehind p ls
    → map (moved 0 (p ++ name_of k ∷ [])) (finite.entries k.node) ++ behind (p ++ name_of k ∷ []) (ls ++ l ∷ [])
    ≡ map (moved 0 p) (flat (k ∷ l)) ++ behind p ls
entered p ls k l h =
    (λ i. moved-push p (name_of k) (finite.entries k.node) i ++ behind-push p ls (name_of k) l h i)
    ∙ sym (append_assoc (map (moved 0 p) (below k)) (map (moved 0 p) (flat l)) (behind p ls))
    ∙ ap (λ es. es ++ behind p ls) (sym (map-append (moved 0 p) (below k) (flat l)))

pub record CameTo (p : List (List ℕ)) (ls : List (List Child)) (k : Child) (l : List Child) (q : List (List ℕ)) (new : List (List Child))
    (m : TreeMap) : Type 0 where
  pub left : map (moved 0 q) (finite.entries m) ++ behind q new ≡ map (moved 0 p) (flat (k ∷ l)) ++ behind p ls
  pub on : AreBehind q new

-- at the child that comes first, what is left is what was left before, and the rows after the longer path are in order
pub came_to : (p : List (List ℕ)) (ls : List (List Child)) (k : Child) (l : List Child) (q : List (List ℕ)) (new : List (List Child)) (m : TreeMap)
    → AreBehind p ls → AreSorted (k ∷ l) → q ≡ p ++ name_of k ∷ [] → new ≡ ls ++ l ∷ [] → m ≡ k.node → CameTo p ls k l q new m
came_to p ls k l q new m h sorted path levels node = record {
  left = (λ i. map (moved 0 (path i)) (finite.entries (node i)) ++ behind (path i) (levels i)) ∙ entered p ls k l h;
  on = subst (λ x. AreBehind x new) (sym path) (subst (AreBehind (p ++ name_of k ∷ [])) (sym levels)
      (AreBehind-push p ls (name_of k) l h (and_first _ _ sorted) (and_second _ _ sorted)));
}

-- ---- up from a directory

pub record Popped (p : List (List ℕ)) (ls : List (List Child)) (l : List Child) : Type 0 where
  pub upper : List (List ℕ)
  pub name : List ℕ
  pub is : p ≡ upper ++ name ∷ []
  pub behind : AreBehind upper ls
  pub sorted : AreSorted l

popped : (p : List (List ℕ)) (ls : List (List Child)) (l : List Child) → AreBehind p (ls ++ l ∷ []) → Popped p ls l
popped [] [] l h = absurd h
popped [] (x ∷ ls) l h = absurd h
popped (n ∷ []) [] l h = record { upper = []; name = n; is = refl; behind = tt; sorted = h.0.1 }
popped (n ∷ m ∷ p) [] l h = absurd h.1
popped (n ∷ p) (x ∷ ls) l h =
    let up = popped p ls l h.1 in
    record { upper = n ∷ up.upper; name = up.name; is = ap (λ q. n ∷ q) up.is; behind = (h.0, up.behind); sorted = up.sorted }

pub record Above (p : List (List ℕ)) (all ls : List (List Child)) (l : List Child) (up : List (List ℕ)) : Type 0 where
  pub on : AreBehind up ls
  pub sorted : AreSorted l
  pub same : behind p all ≡ map (moved 0 up) (flat l) ++ behind up ls

-- what is left after a path is the last row, whose entries lie below its parent, and then what is left after the parent
pub above : (p : List (List ℕ)) (all ls : List (List Child)) (l : List Child) (q : List (List ℕ)) → all ≡ ls ++ l ∷ [] → q ≡ take (length p - 1) p
    → AreBehind p all → Above p all ls l q
above p all ls l q whole path h =
    let up = popped p ls l (subst (AreBehind p) whole h) in
    let long : length up.upper + 1 ≡ length p = sym (length-append up.upper (up.name ∷ [])) ∙ ap length (sym up.is) in
    let one : length p - 1 ≡ length up.upper = omega arith in
    let is : up.upper ≡ q = sym (take_at up.upper (up.name ∷ []) (length up.upper) refl) ∙ (λ i. take (sym one i) (sym up.is i)) ∙ sym path in
    subst (Above p all ls l) is (record {
      on = up.behind;
      sorted = up.sorted;
      same = (λ i. behind (up.is i) (whole i)) ∙ behind-push up.upper ls up.name l up.behind;
    })

-- nothing is left below the root
pub behind-nil : (p : List (List ℕ)) → behind p [] ≡ []
behind-nil [] = refl
behind-nil (n ∷ p) = refl

-- ---- after what is below the present entry

beside_moved : (p : List (List ℕ)) (es : List Pair) → where_key path_cmp (λ q. not (is_within p q)) (map (moved 0 p) es) ≡ []
beside_moved p [] = refl
beside_moved p (e ∷ es) =
    ap (λ b. cond (not b) (moved 0 p e ∷ where_key path_cmp (λ q. not (is_within p q)) (map (moved 0 p) es))
    (where_key path_cmp (λ q. not (is_within p q)) (map (moved 0 p) es))) (within-append p e.0)
    ∙ beside_moved p es

same_name : (n : List ℕ) (p : List (List ℕ)) (es : List Pair)
    → where_key path_cmp (λ q. not (is_within (n ∷ p) q)) (prefixed n es) ≡ prefixed n (where_key path_cmp (λ q. not (is_within p q)) es)
same_name n p [] = refl
same_name n p (e ∷ es) =
    (λ i. cond (not ((bytes_decides n n).1 refl i && is_within p e.0)) ((n ∷ e.0, e.1) ∷ same_name n p es i) (same_name n p es i))
    ∙ by_test (is_within p e.0)
  where
    by_test : (b : Bool) → cond (not b) ((n ∷ e.0, e.1) ∷ prefixed n (where_key path_cmp (λ q. not (is_within p q)) es))
        (prefixed n (where_key path_cmp (λ q. not (is_within p q)) es))
        ≡ prefixed n (cond (not b) (e ∷ where_key path_cmp (λ q. not (is_within p q)) es) (where_key path_cmp (λ q. not (is_within p q)) es))
    by_test true = refl
    by_test false = refl

other_name : (n m : List ℕ) (p : List (List ℕ)) (es : List Pair) → pointwise nat_eq n m ≡ false
    → where_key path_cmp (λ q. not (is_within (n ∷ p) q)) (prefixed m es) ≡ prefixed m es
other_name n m p [] other = refl
other_name n m p (e ∷ es) other = (λ i. cond (not (other i && is_within p e.0)) ((m ∷ e.0, e.1) ∷ other_name n m p es other i) (other_name n m p es other i))

less_other : (n m : List ℕ) → name_cmp n m ≡ Less → pointwise nat_eq n m ≡ false
less_other n m lt = go (pointwise nat_eq n m) refl
  where
    go : (b : Bool) → pointwise nat_eq n m ≡ b → b ≡ false
    go false is = refl
    go true is = let same : n ≡ m = (bytes_decides n m).0 is in
        absurd (true≢false (ap is_lt (sym lt ∙ ap (name_cmp n) (sym same) ∙ tied_itself nat_list_cmp_total n)))

other_flat : (n : List ℕ) (p : List (List ℕ)) (ks : List Child) → T (below_all name_cmp n (map pair_of ks))
    → where_key path_cmp (λ q. not (is_within (n ∷ p) q)) (flat ks) ≡ flat ks
other_flat n p [] h = refl
other_flat n p (k ∷ ks) h =
    filter-append (λ (e : Pair). not (is_within (n ∷ p) e.0)) (below k) (flat ks)
    ∙ (λ i. other_name n (name_of k) p (finite.entries k.node) (less_other n (name_of k) (is_less _ (and_first _ _ h))) i
    ++ other_flat n p ks (and_second _ _ h) i)

beside_behind : (p : List (List ℕ)) (ls : List (List Child)) → AreBehind p ls → where_key path_cmp (λ q. not (is_within p q)) (behind p ls) ≡ behind p ls
beside_behind [] [] h = refl
beside_behind [] (l ∷ ls) h = absurd h
beside_behind (n ∷ p) [] h = absurd h
beside_behind (n ∷ p) (l ∷ ls) h =
    filter-append (λ (e : Pair). not (is_within (n ∷ p) e.0)) (prefixed n (behind p ls)) (flat l)
    ∙ (λ i. same_name n p (behind p ls) i ++ other_flat n p l h.0.0 i)
    ∙ ap (λ es. prefixed n es ++ flat l) (beside_behind p ls h.1)

module _ (p : List (List ℕ)) (ls : List (List Child)) (m : TreeMap) (e : Entry) (rest : List Pair) (is : finite.entries m ≡ ([], e) ∷ rest) where
  -- the first entry that is left is the present one
  pub first_left : map (moved 0 p) (finite.entries m) ++ behind p ls ≡ (p, e) ∷ (map (moved 0 p) rest ++ behind p ls)
  first_left = ap (λ es. map (moved 0 p) es ++ behind p ls) is ∙ ap (λ q. (q, e) ∷ (map (moved 0 p) rest ++ behind p ls)) (append-nil p)

  -- past the present node and all below it, the entries of the levels above are left
  pub skipped : AreBehind p ls → past (map (moved 0 p) (finite.entries m) ++ behind p ls) ≡ behind p ls
  skipped h =
      ap past first_left
      ∙ filter-append (λ (x : Pair). not (is_within p x.0)) (map (moved 0 p) rest) (behind p ls)
      ∙ (λ i. beside_moved p rest i ++ beside_behind p ls h i)

-- ---- no path is too long

-- where no path that is left has too many names, neither has one after the present node
pub short_behind : (p : List (List ℕ)) (ls : List (List Child)) (es : List Pair) → AreShort (map (moved 0 p) es ++ behind p ls) → AreShort (behind p ls)
short_behind p ls es h =
    subst AreShort (drop_at (map (moved 0 p) es) (behind p ls) (length (map (moved 0 p) es)) refl)
    (All-drop (λ (x : Pair). length x.0 ≤ 128) (length (map (moved 0 p) es)) _ h)

-- a child has a path, so the path of its parent has a name less
pub room_below : (p : List (List ℕ)) (ls : List (List Child)) (m : TreeMap) (e f : Entry) (k : Child) (l : List Child) (rest : List Pair)
    → AreShort (map (moved 0 p) (finite.entries m) ++ behind p ls)
    → finite.entries m ≡ ([], e) ∷ flat (k ∷ l) → finite.entries k.node ≡ ([], f) ∷ rest → length p < 128
room_below p ls m e f k l rest short is kid =
    let all = subst (λ es. AreShort (map (moved 0 p) es ++ behind p ls)) (is ∙ ap (λ es. ([], e) ∷ (prefixed (name_of k) es ++ flat l)) kid) short in
    let second : length (p ++ name_of k ∷ []) ≤ 128 = all 1 ([], e) (omega arith) in
    omega (arith, length-append p (name_of k ∷ []))

short_most : (es : List Pair) → most (λ (e : Pair). length e.0 + 1) es ≤ 129 → AreShort es
short_most [] h = λ k d lt. absurd (omega arith)
short_most (e ∷ es) h =
    let here : length e.0 ≤ 128 = omega arith in
    let rest : most (λ (x : Pair). length x.0 + 1) es ≤ 129 = omega arith in
    All-cons (λ (x : Pair). length x.0 ≤ 128) e es here (short_most es rest)

-- no path of a whole tree has more than 128 names
pub short_tree : (t : TreeMap) (depth : ℕ) → IsWhole t depth → AreShort (finite.entries t)
short_tree t depth whole = short_most (finite.entries t) (omega (arith, whole.deep, whole.short))

-- ---- at the root all is left

-- at the root, with no rows after it, all entries of the tree are left
pub whole_left : (p : List (List ℕ)) (ls : List (List Child)) (t : TreeMap) → p ≡ [] → ls ≡ []
    → map (moved 0 p) (finite.entries t) ++ behind p ls ≡ finite.entries t
whole_left p ls t root none =
    (λ i. map (moved 0 (root i)) (finite.entries t) ++ behind (root i) ls) ∙ append-nil (map (moved 0 []) (finite.entries t)) ∙ moved-root (finite.entries t)
