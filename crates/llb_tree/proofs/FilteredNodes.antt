-- What is left of nodes where the paths go that pass tests of their names.
use Rattle.std.proofs.Common.{◌≡◌, ℕ, zero, suc, ◌-◌, ◌+◌, ◌<◌, ◌≤◌, Bool, true, false, cond, not, ◌||◌, ◌&&◌, List, [], ◌∷◌, ◌++◌, map, take, drop, length}
use Rattle.std.proofs.Common.{get_or, Option, Some, None, is_some, T, refl, sym, ap, subst, ◌∙◌, true≢false, append_assoc, drop-cons, add-one, arith}
use Rattle.std.proofs.lemmas.List.{map-append, take_all, drop_all, append-nil}
use Rattle.std.proofs.lemmas.List.Folds.{list_any-append}
use Rattle.std.specs.Prelude.{unwrap_or}
use Rattle.std.specs.List.{list_any}
use Rattle.std.specs.Option.{option_or}
use Rattle.std.specs.declared.cmp.Ordering.{Ordering}
use Rattle.std.specs.declared.cmp.Ordering.TheVariants.{Less, Equal, Greater}
use Rattle.std.specs.Ordering.{is_eq, is_lt, eq_by_cmp}
use Rattle.std.specs.FinMap as finite
use Rattle.std.specs.FinMap.Entries.{below_all, is_some-find}
use Rattle.llb_tree.specs.Path.{name_cmp, path_cmp}
use Rattle.llb_tree.specs.PathOrder.{name_cmp-IsAntisymmetric, same_path}
use Rattle.llb_tree.specs.Tree.{TreeMap, Entry}
use Rattle.llb_tree.specs.Nodes.{Pair, Pairs, name_of, below, flat, kids_of, own_entry, map_of, pair_of, AreSorted}
use Rattle.llb_tree.specs.EntryLookup.{look_kids, find_flat, get-below, get-root}
use Rattle.llb_tree.specs.PathTests.{goes, any_goes, unless_goes, Thins, KeepsAll, Keeps}
use Rattle.llb_tree.specs.declared.node.Kind.{Kind}
use Rattle.llb_tree.specs.declared.node.Child.{Child}
use Rattle.llb_tree.proofs.EntryOrder.{and_first, and_second, and_both}
use Rattle.llb_tree.proofs.Entries.{entries-map_of, entries-root}
use Rattle.llb_tree.proofs.ChildLookup.{or_None}

abbrev pub keys_of : List Pair → List (List (List ℕ))
keys_of = map (λ e. e.0)

-- a list with a first is that and the others
pub split_first : {A : Type 0} (xs : List A) (x : A) → 1 ≤ length xs → x ≡ get_or xs 0 x → xs ≡ x ∷ take (length xs - 1) (drop 1 xs)
split_first [] x h is = absurd (omega arith)
split_first (y ∷ xs) x h is = (λ i. sym is i ∷ sym (take_all (suc (length xs) - 1) xs (omega arith)) i)

-- the first i and the next one are the first i + 1
pub split_next : (ks : List Child) (i : ℕ) (kid : Child) → i < length ks → kid ≡ get_or ks i kid → take (i + 1) ks ≡ take i ks ++ kid ∷ []
split_next ks i kid lt is = ap (λ j. take j ks) (add-one i) ∙ go ks i lt is
  where
    go : (ks : List Child) (i : ℕ) → i < length ks → kid ≡ get_or ks i kid → take (suc i) ks ≡ take i ks ++ kid ∷ []
    go [] i lt is = absurd (omega arith)
    go (k ∷ ks) zero lt is = ap (λ x. x ∷ []) (sym is)
    go (k ∷ ks) (suc i) lt is = ap (λ xs. k ∷ xs) (go ks i (omega arith) is)

-- ---- sorted children

below_less : (n : List ℕ) (xs ys : Pairs) (y : List ℕ × TreeMap) → T (below_all name_cmp n (xs ++ y ∷ ys)) → T (below_all name_cmp n (xs ++ ys))
below_less n [] ys y h = and_second _ _ h
below_less n (x ∷ xs) ys y h = and_both _ _ (and_first _ _ h) (below_less n xs ys y (and_second _ _ h))

sorted_less : (xs ys : Pairs) (y : List ℕ × TreeMap) → T (finite.is_sorted name_cmp (xs ++ y ∷ ys)) → T (finite.is_sorted name_cmp (xs ++ ys))
sorted_less [] ys y h = and_second _ _ h
sorted_less (x ∷ xs) ys y h = and_both _ _ (below_less x.0 xs ys y (and_first _ _ h)) (sorted_less xs ys y (and_second _ _ h))

below_swap : (n m : List ℕ) (a b : TreeMap) (xs ys : Pairs) → below_all name_cmp n (xs ++ (m, a) ∷ ys) ≡ below_all name_cmp n (xs ++ (m, b) ∷ ys)
below_swap n m a b [] ys = refl
below_swap n m a b (x ∷ xs) ys = ap (λ t. is_lt (name_cmp n x.0) && t) (below_swap n m a b xs ys)

sorted_swap : (m : List ℕ) (a b : TreeMap) (xs ys : Pairs) → finite.is_sorted name_cmp (xs ++ (m, a) ∷ ys) ≡ finite.is_sorted name_cmp (xs ++ (m, b) ∷ ys)
sorted_swap m a b [] ys = refl
sorted_swap m a b (x ∷ xs) ys = λ i. below_swap x.0 m a b xs ys i && sorted_swap m a b xs ys i

-- ---- looks among children

or_or : (a b c : Option Entry) → option_or (option_or a b) c ≡ option_or a (option_or b c)
or_or None b c = refl
or_or (Some x) b c = refl

look_append : (ks : List Child) (k : Child) (n : List ℕ) (q : List (List ℕ))
    → look_kids (ks ++ k ∷ []) n q ≡ option_or (look_kids ks n q) (look_kids (k ∷ []) n q)
look_append [] k n q = refl
look_append (j ∷ ks) k n q =
    ap (option_or (cond (is_eq (name_cmp n (name_of j))) (finite.get j.node q) None)) (look_append ks k n q)
    ∙ sym (or_or (cond (is_eq (name_cmp n (name_of j))) (finite.get j.node q) None) (look_kids ks n q) (look_kids (k ∷ []) n q))

any_flat : (f : List (List ℕ) → Bool) (ks : List Child) (k : Child)
    → list_any f (keys_of (flat (ks ++ k ∷ []))) ≡ (list_any f (keys_of (flat ks)) || list_any f (keys_of (below k)))
any_flat f [] k = ap (λ es. list_any f (keys_of es)) (append-nil (below k))
any_flat f (j ∷ ks) k =
    ap (list_any f) (map-append (λ (e : Pair). e.0) (below j) (flat (ks ++ k ∷ [])))
    ∙ list_any-append f (keys_of (below j)) (keys_of (flat (ks ++ k ∷ [])))
    ∙ ap (λ b. list_any f (keys_of (below j)) || b) (any_flat f ks k)
    ∙ sym (or_assoc (list_any f (keys_of (below j))) (list_any f (keys_of (flat ks))) (list_any f (keys_of (below k))))
    ∙ ap (λ b. b || list_any f (keys_of (below k)))
    (sym (ap (list_any f) (map-append (λ (e : Pair). e.0) (below j) (flat ks)) ∙ list_any-append f (keys_of (below j)) (keys_of (flat ks))))
  where
    or_assoc : (a b c : Bool) → ((a || b) || c) ≡ (a || (b || c))
    or_assoc true b c = refl
    or_assoc false b c = refl

-- a path that is found is none of those that a test finds none of
not_found : (f : List (List ℕ) → Bool) (q : List (List ℕ)) (ks : List (List (List ℕ)))
    → list_any f ks ≡ false → list_any (eq_by_cmp path_cmp q) ks ≡ true → f q ≡ false
not_found f q [] none some = absurd (true≢false (sym some))
not_found f q (k ∷ ks) none some = by_tie (eq_by_cmp path_cmp q k) refl (f k) refl none some (not_found f q ks)
  where
    by_tie : (a : Bool) → eq_by_cmp path_cmp q k ≡ a → (b : Bool) → f k ≡ b → (b || list_any f ks) ≡ false
        → (a || list_any (eq_by_cmp path_cmp q) ks) ≡ true
        → (list_any f ks ≡ false → list_any (eq_by_cmp path_cmp q) ks ≡ true → f q ≡ false) → f q ≡ false
    by_tie a at true hit none some rest = absurd (true≢false none)
    by_tie true at false miss none some rest = ap f (same_path q k at) ∙ miss
    by_tie false at false miss none some rest = rest none some

module _ {X : Type 0} (passes : X → List ℕ → Bool) where
  -- where nothing goes, all stays
  stays : (ts : List X) (q : List (List ℕ)) (es : List Pair) (o : Option Entry) → finite.find path_cmp q es ≡ o
      → list_any (goes passes ts) (keys_of es) ≡ false → o ≡ unless_goes passes ts q o
  stays ts q es None is none = elim (goes passes ts q) as (λ b. ◌≡◌ {A = Option Entry} None (cond (not b) None None)) [ true ↦ refl | false ↦ refl ]
  stays ts q es (Some e) is none =
      ap (λ b. cond (not b) (Some e) None) (sym (not_found (goes passes ts) q (keys_of es) none (sym (is_some-find path_cmp q es) ∙ ap is_some is)))

  -- ---- a child

  -- a child of the same name, with what is left of what it had
  one_left : (ts : List X) (kid new : Child) → name_of new ≡ name_of kid
      → ((q : List (List ℕ)) → finite.get new.node q ≡ unless_goes passes ts (name_of kid ∷ q) (finite.get kid.node q))
      → (n : List ℕ) (q : List (List ℕ)) → look_kids (new ∷ []) n q ≡ unless_goes passes ts (n ∷ q) (look_kids (kid ∷ []) n q)
  one_left ts kid new named left n q =
      ap (λ m. option_or (cond (is_eq (name_cmp n m)) (finite.get new.node q) None) None) named ∙ by_tie (name_cmp n (name_of kid)) refl
    where
      none : (b : Bool) → ◌≡◌ {A = Option Entry} None (cond (not b) None None)
      none true = refl
      none false = refl

      by_tie : (o : Ordering) → name_cmp n (name_of kid) ≡ o → option_or (cond (is_eq o) (finite.get new.node q) None) None
          ≡ unless_goes passes ts (n ∷ q) (option_or (cond (is_eq o) (finite.get kid.node q) None) None)
      by_tie Less is = none (goes passes ts (n ∷ q))
      by_tie Greater is = none (goes passes ts (n ∷ q))
      by_tie Equal is =
          or_None (finite.get new.node q) ∙ left q
          ∙ ap (λ m. unless_goes passes ts (m ∷ q) (finite.get kid.node q)) (sym (name_cmp-IsAntisymmetric n (name_of kid) is))
          ∙ ap (unless_goes passes ts (n ∷ q)) (sym (or_None (finite.get kid.node q)))

  module _ (t : X) (ts : List X) (kid : Child) where
    -- whether anything below a child goes
    any_below : (es : List Pair) (n : List ℕ)
        → list_any (goes passes (t ∷ ts)) (keys_of (map (λ (e : Pair). (n ∷ e.0, e.1)) es)) ≡ (passes t n && list_any (goes passes ts) (keys_of es))
    any_below [] n = elim (passes t n) as (λ b. false ≡ (b && false)) [ true ↦ refl | false ↦ refl ]
    any_below (e ∷ es) n = by_test (passes t n) (any_below es n)
      where
        by_test : (b : Bool) → list_any (goes passes (t ∷ ts)) (keys_of (map (λ (e : Pair). (n ∷ e.0, e.1)) es)) ≡ (b && list_any (goes passes ts) (keys_of es))
            → ((b && goes passes ts e.0) || list_any (goes passes (t ∷ ts)) (keys_of (map (λ (e : Pair). (n ∷ e.0, e.1)) es)))
            ≡ (b && (goes passes ts e.0 || list_any (goes passes ts) (keys_of es)))
        by_test true rest = ap (λ b. goes passes ts e.0 || b) rest
        by_test false rest = rest

    -- a child is put after others
    keeps_pushed : (new : Child) (gone : Bool) (old items : List Child) → items ≡ old ++ new ∷ [] → name_of new ≡ name_of kid
        → gone ≡ (passes t (name_of kid) && list_any (goes passes ts) (finite.keys kid.node))
        → ((q : List (List ℕ)) → finite.get new.node q ≡ unless_goes passes (t ∷ ts) (name_of kid ∷ q) (finite.get kid.node q))
        → Keeps passes (t ∷ ts) kid gone old items
    keeps_pushed new gone old items pushed named any left = record {
      any = any ∙ sym (any_below (finite.entries kid.node) (name_of kid));
      order = λ later h.
          let list : map pair_of items ++ later ≡ map pair_of old ++ (name_of kid, new.node) ∷ later =
          ap (λ ks. map pair_of ks ++ later) pushed ∙ ap (λ es. es ++ later) (map-append pair_of old (new ∷ []))
          ∙ append_assoc (map pair_of old) (pair_of new ∷ []) later ∙ ap (λ n. map pair_of old ++ (n, new.node) ∷ later) named in
          subst T (sorted_swap (name_of kid) kid.node new.node (map pair_of old) later ∙ ap (finite.is_sorted name_cmp) (sym list)) h;
      looks = λ n q. ap (λ ks. look_kids ks n q) pushed ∙ look_append old new n q
          ∙ ap (option_or (look_kids old n q)) (one_left (t ∷ ts) kid new named left n q);
    }

    -- a child whose name does not pass
    pub keeps_other : (new : Child) (old items : List Child) → items ≡ old ++ new ∷ [] → pair_of new ≡ pair_of kid
        → passes t (name_of kid) ≡ false → Keeps passes (t ∷ ts) kid false old items
    keeps_other new old items pushed same fails = keeps_pushed new false old items pushed (ap (λ e. e.0) same)
        (ap (λ b. b && list_any (goes passes ts) (finite.keys kid.node)) (sym fails))
        (λ q. ap (λ e. finite.get e.1 q) same ∙ ap (λ b. cond (not (b && goes passes ts q)) (finite.get kid.node q) None) (sym fails))

    -- a child of which something may go
    pub keeps_thinned : (new : Child) (left : Option TreeMap) (old items : List Child) → items ≡ old ++ new ∷ []
        → pair_of new ≡ (name_of kid, unwrap_or left kid.node) → passes t (name_of kid) ≡ true
        → (all : List X) (o : Option TreeMap) → ts ≡ all → o ≡ left → Thins passes all kid.node o → Keeps passes (t ∷ ts) kid (is_some left) old items
    keeps_thinned new left old items pushed same hit all o split is told =
        let thins : Thins passes ts kid.node left =
        subst (λ us. Thins passes us kid.node left) (sym split) (subst (Thins passes all kid.node) is told) in
        keeps_pushed new (is_some left) old items pushed (ap (λ e. e.0) same)
        (thins.any ∙ ap (λ b. b && list_any (goes passes ts) (finite.keys kid.node)) (sym hit))
        (λ q. ap (λ e. finite.get e.1 q) same ∙ thins.looks q ∙ ap (λ b. cond (not (b && goes passes ts q)) (finite.get kid.node q) None) (sym hit))

  -- a child that goes
  pub keeps_gone : (t : X) (kid : Child) (e : Entry) (old : List Child) → finite.get kid.node [] ≡ Some e → passes t (name_of kid) ≡ true
      → Keeps passes (t ∷ []) kid true old old
  keeps_gone t kid e old own hit = record {
    any = sym (any_below t [] kid (finite.entries kid.node) (name_of kid)
        ∙ (λ i. hit i && list_any (goes passes []) (keys_of ((entries-root kid.node e own).1 i))));
    order = λ later h. sorted_less (map pair_of old) later (pair_of kid) h;
    looks = λ n q. sym (ap (option_or (look_kids old n q)) (nothing n q (name_cmp n (name_of kid)) refl) ∙ or_None (look_kids old n q));
  }
    where
      nothing : (n : List ℕ) (q : List (List ℕ)) (o : Ordering) → name_cmp n (name_of kid) ≡ o
          → unless_goes passes (t ∷ []) (n ∷ q) (option_or (cond (is_eq (name_cmp n (name_of kid))) (finite.get kid.node q) None) None) ≡ None
      nothing n q Less is = ap (λ o. unless_goes passes (t ∷ []) (n ∷ q) (option_or (cond (is_eq o) (finite.get kid.node q) None) None)) is
          ∙ elim (goes passes (t ∷ []) (n ∷ q)) as (λ b. ◌≡◌ {A = Option Entry} (cond (not b) None None) None) [ true ↦ refl | false ↦ refl ]
      nothing n q Greater is = ap (λ o. unless_goes passes (t ∷ []) (n ∷ q) (option_or (cond (is_eq o) (finite.get kid.node q) None) None)) is
          ∙ elim (goes passes (t ∷ []) (n ∷ q)) as (λ b. ◌≡◌ {A = Option Entry} (cond (not b) None None) None) [ true ↦ refl | false ↦ refl ]
      nothing n q Equal is =
          ap (λ b. cond (not (b && true)) (option_or (cond (is_eq (name_cmp n (name_of kid))) (finite.get kid.node q) None) None) None)
          (ap (passes t) (name_cmp-IsAntisymmetric n (name_of kid) is) ∙ hit)

  -- ---- children, one after another

  -- what is left of the first i children
  pub record KeptSoFar (ts : List X) (ks : List Child) (i : ℕ) (changed : Bool) (kept : List Child) : Type 0 where
    pub any : changed ≡ list_any (goes passes ts) (keys_of (flat (take i ks)))
    pub order : AreSorted ks → T (finite.is_sorted name_cmp (map pair_of kept ++ map pair_of (drop i ks)))
    pub looks : (n : List ℕ) (q : List (List ℕ)) → look_kids kept n q ≡ unless_goes passes ts (n ∷ q) (look_kids (take i ks) n q)

  pub kept_start : (ts : List X) (ks kept : List Child) → kept ≡ [] → KeptSoFar ts ks 0 false kept
  kept_start ts ks kept none = record {
    any = refl;
    order = λ h. subst (λ xs. T (finite.is_sorted name_cmp (map pair_of xs ++ map pair_of ks))) (sym none) h;
    looks = λ n q. ap (λ xs. look_kids xs n q) none
        ∙ elim (goes passes ts (n ∷ q)) as (λ b. ◌≡◌ {A = Option Entry} None (cond (not b) None None)) [ true ↦ refl | false ↦ refl ];
  }

  pub kept_next : (ts : List X) (ks : List Child) (i : ℕ) (kid : Child) (changed gone : Bool) (kept new : List Child) → i < length ks
      → kid ≡ get_or ks i kid → KeptSoFar ts ks i changed kept → Keeps passes ts kid gone kept new → KeptSoFar ts ks (i + 1) (changed || gone) new
  kept_next ts ks i kid changed gone kept new lt is so_far keeps =
      let first = split_next ks i kid lt is in
      let rest : drop i ks ≡ kid ∷ drop (i + 1) ks =
      drop-cons ks i kid lt ∙ (λ j. sym is j ∷ drop (sym (add-one i) j) ks) in
      record {
        any = (λ j. so_far.any j || keeps.any j) ∙ sym (any_flat (goes passes ts) (take i ks) kid)
            ∙ ap (λ xs. list_any (goes passes ts) (keys_of (flat xs))) (sym first);
        order = λ h. keeps.order (map pair_of (drop (i + 1) ks))
            (subst (λ xs. T (finite.is_sorted name_cmp (map pair_of kept ++ map pair_of xs))) rest (so_far.order h));
        looks = λ n q. keeps.looks n q ∙ ap (λ o. option_or o (unless_goes passes ts (n ∷ q) (look_kids (kid ∷ []) n q))) (so_far.looks n q)
            ∙ both (goes passes ts (n ∷ q)) (look_kids (take i ks) n q) (look_kids (kid ∷ []) n q)
            ∙ ap (unless_goes passes ts (n ∷ q)) (sym (look_append (take i ks) kid n q) ∙ ap (λ xs. look_kids xs n q) (sym first));
      }
    where
      both : (b : Bool) (x y : Option Entry) → option_or (cond (not b) x None) (cond (not b) y None) ≡ cond (not b) (option_or x y) None
      both true x y = refl
      both false x y = refl

  module _ (ts : List X) (ks kept : List Child) (i : ℕ) (past : length ks ≤ i) where
    -- some children are changed
    pub kept_changed : KeptSoFar ts ks i true kept → KeepsAll passes ts ks (Some kept)
    kept_changed so_far = record {
      any = so_far.any ∙ ap (λ xs. list_any (goes passes ts) (keys_of (flat xs))) (take_all i ks past);
      order = λ h. subst (λ xs. T (finite.is_sorted name_cmp xs))
          (ap (λ xs. map pair_of kept ++ map pair_of xs) (drop_all i ks past) ∙ append-nil (map pair_of kept)) (so_far.order h);
      looks = λ n q. so_far.looks n q ∙ ap (λ xs. unless_goes passes ts (n ∷ q) (look_kids xs n q)) (take_all i ks past);
    }

    -- none is
    pub kept_same : KeptSoFar ts ks i false kept → KeepsAll passes ts ks None
    kept_same so_far =
        let none = so_far.any ∙ ap (λ xs. list_any (goes passes ts) (keys_of (flat xs))) (take_all i ks past) in
        record {
          any = none;
          order = λ h. h;
          looks = λ n q. stays ts (n ∷ q) (flat ks) (look_kids ks n q) (find_flat n q ks) (sym none);
        }

  -- ---- a node

  module _ (t : X) (ts : List X) (k : Kind) (v : TreeMap) (view : map_of k ≡ v) (sorted : AreSorted (kids_of k)) where
    any_node : any_goes passes (t ∷ ts) v ≡ list_any (goes passes (t ∷ ts)) (keys_of (flat (kids_of k)))
    any_node = ap (λ m. list_any (goes passes (t ∷ ts)) (finite.keys m)) (sym view)
        ∙ ap (λ es. list_any (goes passes (t ∷ ts)) (keys_of es)) (entries-map_of k sorted)

    pub thins_none : (ks : List Child) → kids_of k ≡ ks → list_any (goes passes (t ∷ ts)) (keys_of (flat ks)) ≡ false → Thins passes (t ∷ ts) v None
    thins_none ks kids none =
        let all = any_node ∙ ap (λ xs. list_any (goes passes (t ∷ ts)) (keys_of (flat xs))) kids ∙ none in
        record {
          any = sym all;
          looks = λ q. stays (t ∷ ts) q (finite.entries v) (finite.get v q) (sym (finite.get-entries v q)) all;
        }

    pub thins_some : (ks : List Child) (new : Kind) (kept : List Child) → kids_of k ≡ ks → own_entry new ≡ own_entry k → kids_of new ≡ kept
        → KeepsAll passes (t ∷ ts) ks (Some kept) → Thins passes (t ∷ ts) v (Some (map_of new))
    thins_some ks new kept kids own made keeps = record {
      any = keeps.any ∙ ap (λ xs. list_any (goes passes (t ∷ ts)) (keys_of (flat xs))) (sym kids) ∙ sym any_node;
      looks = by_path;
    }
      where
        by_path : (q : List (List ℕ)) → finite.get (map_of new) q ≡ unless_goes passes (t ∷ ts) q (finite.get v q)
        by_path [] = get-root new ∙ ap Some own ∙ sym (get-root k) ∙ ap (λ m. finite.get m []) view
        by_path (n ∷ q) = get-below new n q ∙ ap (λ xs. look_kids xs n q) made ∙ keeps.looks n q
            ∙ ap (unless_goes passes (t ∷ ts) (n ∷ q)) (ap (λ xs. look_kids xs n q) (sym kids) ∙ sym (get-below k n q) ∙ ap (λ m. finite.get m (n ∷ q)) view)
