-- Two readings of one text agree: of two lists of rows whose lines begin it, one begins the other, and no row of a tree
-- is faulty.
use Rattle.std.proofs.Common.{◌≡◌, ◌≢◌, ℕ, zero, suc, Bool, true, false, cond, List, [], ◌∷◌, ◌++◌, length, map, Option, Some, None}
use Rattle.std.proofs.Common.{is_some, Ok, Err, T, refl, sym, ap, subst, ◌∙◌, true≢false, arith, append_assoc, length-append, ◌⊎◌, inl, inr}
use Rattle.std.specs.Prelude.{slice_get}
use Rattle.std.proofs.lemmas.List.{append-nil}
use Rattle.std.proofs.lemmas.Simd.{map-map}
use Rattle.std.specs.declared.cmp.Ordering.TheVariants.{Less}
use Rattle.std.specs.Ordering.{is_lt, is_eq, ordering_then, ordering_reverse}
use Rattle.std.specs.Cmp.{tied_itself}
use Rattle.std.specs.Cmp.Lexicographic.{nat_list_cmp_total}
use Rattle.std.specs.FinMap as finite
use Rattle.std.specs.FinMap.Entries.{below_all}
use Rattle.llb_tree.specs.Path.{path_cmp}
use Rattle.llb_tree.specs.PathOrder.{path_cmp-IsTotalOrder}
use Rattle.llb_tree.specs.Tree.{Entry, Dir, Look, TreeMap, parents, all_dirs, walk, IsTree}
use Rattle.llb_treetext.specs.TreeText.{row_text, line_of, lines_of, tree_text}
use Rattle.llb_treetext.specs.TextGrammar.{IsRow, IsText, AreBefore, IsFault, Stops, comes_next, HasOneAnswer, ReadsBack}
use Rattle.llb_treetext.specs.CallResults.{is_memory}
use Rattle.llb_treetext.specs.declared.fault.TextFault.{TextFault}
use Rattle.llb_treetext.specs.declared.fault.TextFault.TheVariants.{BadLine, Order, NoParent, Memory}
use Rattle.llb_treetext.proofs.RowLines.{Pair, one_line}
use Rattle.llb_tree.proofs.EntryOrder.{is_less, and_first, and_second}

-- ---- the rows of a tree

AllRows : List Pair → Type 0
AllRows [] = Unit {0}
AllRows (r ∷ rows) = IsRow r × AllRows rows

less_later : (k : List (List ℕ)) (es : List Pair) (i : ℕ) (x : Pair) → T (below_all path_cmp k es) → slice_get es i ≡ Some x → path_cmp k x.0 ≡ Less
less_later k [] zero x h is = absurd cc
less_later k [] (suc i) x h is = absurd cc
less_later k (e ∷ es) zero x h is = let same : e ≡ x = cc in ap (λ (y : Pair). path_cmp k y.0) (sym same) ∙ is_less _ (and_first _ _ h)
less_later k (e ∷ es) (suc i) x h is = less_later k es i x (and_second _ _ h) is

find_here : (es : List Pair) (i : ℕ) (x : Pair) → T (finite.is_sorted path_cmp es) → slice_get es i ≡ Some x → finite.find path_cmp x.0 es ≡ Some x.1
find_here [] zero x h is = absurd cc
find_here [] (suc i) x h is = absurd cc
find_here (e ∷ es) zero x h is =
    let same : e ≡ x = cc in
    subst (λ (y : Pair). finite.find path_cmp y.0 (e ∷ es) ≡ Some y.1) same
    (ap (λ r. cond (is_eq r) (Some e.1) (finite.find path_cmp e.0 es)) (tied_itself path_cmp-IsTotalOrder e.0))
find_here (e ∷ es) (suc i) x h is =
    ap (λ r. cond (is_eq r) (Some e.1) (finite.find path_cmp x.0 es)) (path_cmp-IsTotalOrder.antisymm x.0 e.0
    ∙ ap ordering_reverse (less_later e.0 es i x (and_first _ _ h) is))
    ∙ find_here es i x (and_second _ _ h) is

module _ (t : TreeMap) (tree : IsTree t) where
  -- a listed entry is the one that the tree has at its path
  pub there : (k : ℕ) (x : Pair) → slice_get (finite.entries t) k ≡ Some x → finite.get t x.0 ≡ Some x.1
  there k x is = finite.get-entries t x.0 ∙ find_here (finite.entries t) k x (finite.entries_sorted t) is

  -- a listed entry is allowed at its path, and at the root it is a directory, so it is a row
  pub entry_is_row : (k : ℕ) (x : Pair) → slice_get (finite.entries t) k ≡ Some x → IsRow x
  entry_is_row k x is = record {
    allowed = tree.allowed x.0 x.1 (there k x is);
    root = λ at. (tree.root.0, let e : Some x.1 ≡ Some (Dir tree.root.0) = sym (there k x is) ∙ ap (finite.get t) at ∙ tree.root.1 in cc);
  }

all_rows : (es : List Pair) → ((k : ℕ) (x : Pair) → slice_get es k ≡ Some x → IsRow x) → AllRows es
unfolding AllRows
all_rows [] each = tt
all_rows (e ∷ es) each = (each 0 e refl, all_rows es (λ k x is. each (suc k) x is))

tree_rows : (t : TreeMap) → IsTree t → AllRows (finite.entries t)
tree_rows t tree = all_rows (finite.entries t) (entry_is_row t tree)

before_rows : (rows : List Pair) → AreBefore rows → AllRows rows
unfolding AllRows
before_rows rows (inl none) = subst AllRows (sym none) tt
before_rows rows (inr (t, tree, same)) = subst AllRows (sym same) (tree_rows t tree)

-- ---- two lists of rows at the start of one text

-- the rows `ys` are the rows `xs` and one or more after them
record Longer (xs ys : List Pair) (a b : List ℕ) : Type 0 where
  row : Pair
  more : List Pair
  rows : ys ≡ xs ++ row ∷ more
  is_row : IsRow row
  text : a ≡ line_of row ++ (lines_of more ++ b)

longer_by : (x y : Pair) (xs ys : List Pair) (a b : List ℕ) → x ≡ y → Longer xs ys a b → Longer (x ∷ xs) (y ∷ ys) a b
longer_by x y xs ys a b same l = record { row = l.row; more = l.more; rows = λ i. sym same i ∷ l.rows i; is_row = l.is_row; text = l.text }

compared : (xs ys : List Pair) (a b : List ℕ) → AllRows xs → AllRows ys → lines_of xs ++ a ≡ lines_of ys ++ b
    → ((xs ≡ ys) × (a ≡ b)) ⊎ (Longer xs ys a b ⊎ Longer ys xs b a)
unfolding AllRows
compared [] [] a b all other same = inl (refl, same)
compared [] (y ∷ ys) a b all other same =
    inr (inl (record { row = y; more = ys; rows = refl; is_row = other.0; text = same ∙ append_assoc (line_of y) (lines_of ys) b }))
compared (x ∷ xs) [] a b all other same =
    inr (inr (record { row = x; more = xs; rows = refl; is_row = all.0; text = sym same ∙ append_assoc (line_of x) (lines_of xs) a }))
compared (x ∷ xs) (y ∷ ys) a b all other same =
    let first = one_line x y (lines_of xs ++ a) (lines_of ys ++ b) all.0 other.0 (sym (append_assoc (line_of x) (lines_of xs) a) ∙ same
    ∙ append_assoc (line_of y) (lines_of ys) b) in
    elim (compared xs ys a b all.1 other.1 first.1) [
      | inl e ↦ inl ((λ i. first.0 i ∷ e.0 i), e.1)
      | inr e ↦ elim e [ inl l ↦ inr (inl (longer_by x y xs ys a b first.0 l)) | inr l ↦ inr (inr (longer_by y x ys xs b a (sym first.0) l)) ]
    ]

-- ---- a row of a tree

find_low : (q k : List (List ℕ)) (es : List Pair) → path_cmp q k ≡ Less → T (below_all path_cmp k es) → finite.find path_cmp q es ≡ None
find_low q k [] lt h = refl
find_low q k (e ∷ es) lt h =
    ap (λ o. cond (is_eq o) (Some e.1) (finite.find path_cmp q es)) (path_cmp-IsTotalOrder.trans q k e.0 lt (is_less _ (and_first _ _ h)))
    ∙ find_low q k es lt (and_second _ _ h)

find_front : (q : List (List ℕ)) (xs ys : List Pair) → finite.find path_cmp q ys ≡ None → finite.find path_cmp q (xs ++ ys) ≡ finite.find path_cmp q xs
find_front q [] ys none = none
find_front q (e ∷ xs) ys none = ap (λ o. cond (is_eq (path_cmp q e.0)) (Some e.1) o) (find_front q xs ys none)

sorted_back : (xs ys : List Pair) → T (finite.is_sorted path_cmp (xs ++ ys)) → T (finite.is_sorted path_cmp ys)
sorted_back [] ys h = h
sorted_back (x ∷ xs) ys h = sorted_back xs ys (and_second _ _ h)

last_before : (r : Pair) (rows : List Pair) (row : Pair) (more : List Pair) → T (finite.is_sorted path_cmp ((r ∷ rows) ++ row ∷ more))
    → comes_next (r ∷ rows) row.0 ≡ true
last_before r [] row more h = ap is_lt (is_less _ (and_first _ _ (and_first _ _ h)))
last_before r (s ∷ rows) row more h = last_before s rows row more (and_second _ _ h)

-- the row after some rows is at the place that is their count
pub at_end : (rows : List Pair) (row : Pair) (more : List Pair) → slice_get (rows ++ row ∷ more) (length rows) ≡ Some row
at_end [] row more = refl
at_end (r ∷ rows) row more = at_end rows row more

-- the looks at what is before a path decide the walk to it
walk_before : (f g : Look) (p : List (List ℕ)) → ((r : List (List ℕ)) → path_cmp r p ≡ Less → f r ≡ g r) → map f (parents p) ≡ map g (parents p)
walk_before f g [] same = refl
walk_before f g (n ∷ p) same =
    λ i. same [] refl i ∷ (map-map f (λ q. n ∷ q) (parents p)
    ∙ walk_before (λ r. f (n ∷ r)) (λ r. g (n ∷ r)) p
    (λ r lt. same (n ∷ r) (ap (λ o. ordering_then o (path_cmp r p)) (tied_itself nat_list_cmp_total n) ∙ lt))
    ∙ sym (map-map g (λ q. n ∷ q) (parents p))) i

module _ (t : TreeMap) (tree : IsTree t) (rows : List Pair) (row : Pair) (more : List Pair) (same : finite.entries t ≡ rows ++ row ∷ more) where
  sorted : T (finite.is_sorted path_cmp (rows ++ row ∷ more))
  sorted = subst (λ es. T (finite.is_sorted path_cmp es)) same (finite.entries_sorted t)

  above_more : T (below_all path_cmp row.0 more)
  above_more = and_first _ _ (sorted_back rows (row ∷ more) sorted)

  not_here : (q : List (List ℕ)) → path_cmp q row.0 ≡ Less → finite.find path_cmp q (row ∷ more) ≡ None
  not_here q lt = ap (λ o. cond (is_eq o) (Some row.1) (finite.find path_cmp q more)) lt ∙ find_low q row.0 more lt above_more

  comes : comes_next rows row.0 ≡ true
  comes = by_rows rows refl
    where
      by_path : (p : List (List ℕ)) → row.0 ≡ p → rows ≡ [] → comes_next [] p ≡ true
      by_path [] is none = refl
      by_path (n ∷ p) is none =
          let e : ◌≡◌ {A = Option Entry} None (Some (Dir tree.root.0)) = sym (not_here [] (ap (path_cmp []) is))
          ∙ ap (λ l. finite.find path_cmp [] (l ++ row ∷ more)) (sym none) ∙ ap (finite.find path_cmp []) (sym same)
          ∙ sym (finite.get-entries t []) ∙ tree.root.1 in absurd cc

      by_rows : (l : List Pair) → rows ≡ l → comes_next l row.0 ≡ true
      by_rows [] is = by_path row.0 refl is
      by_rows (r ∷ l) is = last_before r l row more (subst (λ es. T (finite.is_sorted path_cmp (es ++ row ∷ more))) is sorted)

  walks : walk (λ q. finite.find path_cmp q rows) row.0 ≡ Ok tt
  walks =
      ap all_dirs (walk_before (λ q. finite.find path_cmp q rows) (finite.get t) row.0
      (λ r lt. sym (finite.get-entries t r ∙ ap (finite.find path_cmp r) same ∙ find_front r rows (row ∷ more) (not_here r lt))))
      ∙ tree.closed row.0 (ap is_some (there t tree (length rows) row (ap (λ es. slice_get es (length rows)) same ∙ at_end rows row more)))

  -- the next row of a tree has no fault
  no_fault : (rest later : List ℕ) (e : TextFault) → IsRow row → rest ≡ line_of row ++ later → ¬ IsFault rows rest e
  no_fault rest later (BadLine n) is text fault = fault.1 row (is, (later, text))
  no_fault rest later (Order n) is text (number, (other, begins, out)) =
      let one = one_line other row begins.1.0 later begins.0 is (sym begins.1.1 ∙ text) in
      true≢false (sym comes ∙ ap (λ (x : Pair). comes_next rows x.0) (sym one.0) ∙ out)
  no_fault rest later (NoParent n) is text (number, (other, begins, next, out)) =
      let one = one_line other row begins.1.0 later begins.0 is (sym begins.1.1 ∙ text) in
      out (ap (λ (x : Pair). walk (λ q. finite.find path_cmp q rows) x.0) one.0 ∙ walks)
  no_fault rest later Memory is text fault = fault

-- where rows of a text go on, what is after the shorter ones is not faulty
no_fault_before : (xs ys : List Pair) (a b : List ℕ) (e : TextFault) → AreBefore ys → Longer xs ys a b → ¬ IsFault xs a e
no_fault_before xs ys a b e (inl none) l fault = let long = ap length (sym none ∙ l.rows) in absurd (omega (arith, length-append xs (l.row ∷ l.more), long))
no_fault_before xs ys a b e (inr (t, tree, same)) l fault = no_fault t tree xs l.row l.more (sym same ∙ l.rows) a (lines_of l.more ++ b) e l.is_row l.text fault

-- ---- one result

whole : (bytes : List ℕ) (t : TreeMap) → IsText bytes t → bytes ≡ lines_of (finite.entries t) ++ []
whole bytes t is = is.text ∙ sym (append-nil (tree_text t))

none_behind : (xs ys : List Pair) (a : List ℕ) → ¬ Longer xs ys [] a
none_behind xs ys a l = let long = ap length l.text in
    absurd (omega (arith, long, length-append (line_of l.row) (lines_of l.more ++ a), length-append (row_text l.row) (10 ∷ [])))

one_tree : (bytes : List ℕ) (t u : TreeMap) → IsText bytes t → IsText bytes u → t ≡ u
one_tree bytes t u is are =
    elim (compared (finite.entries t) (finite.entries u) [] [] (tree_rows t is.tree) (tree_rows u are.tree) (sym (whole bytes t is) ∙ whole bytes u are)) [
      | inl e ↦ finite.same_entries_map t u e.0
      | inr e ↦ elim e [ inl l ↦ absurd (none_behind _ _ _ l) | inr l ↦ absurd (none_behind _ _ _ l) ]
    ]

some_entries : (t : TreeMap) → IsTree t → finite.entries t ≢ []
some_entries t tree none = let e : ◌≡◌ {A = Option Entry} None (Some (Dir tree.root.0)) = ap (finite.find path_cmp []) (sym none)
    ∙ sym (finite.get-entries t []) ∙ tree.root.1 in absurd cc

apart : (bytes : List ℕ) (t : TreeMap) (e : TextFault) → IsText bytes t → ¬ Stops bytes e
apart bytes t e is stops =
    elim (compared stops.rows (finite.entries t) stops.rest [] (before_rows stops.rows stops.before) (tree_rows t is.tree)
    (sym stops.split ∙ whole bytes t is)) [
      | inl s ↦ some_entries t is.tree (sym s.0 ∙ stops.more s.1)
      | inr s ↦ elim s [
        | inl l ↦ no_fault_before stops.rows (finite.entries t) stops.rest [] e (inr (t, is.tree, refl)) l stops.fault
        | inr l ↦ none_behind _ _ _ l
      ]
    ]

same_fault : (rows : List Pair) (rest : List ℕ) (e d : TextFault) → IsFault rows rest e → IsFault rows rest d → e ≡ d
same_fault rows rest (BadLine n) (BadLine m) f g = ap BadLine (f.0 ∙ sym g.0)
same_fault rows rest (BadLine n) (Order m) f g = absurd (f.1 g.1.0 g.1.1)
same_fault rows rest (BadLine n) (NoParent m) f g = absurd (f.1 g.1.0 g.1.1)
same_fault rows rest (Order n) (BadLine m) f g = absurd (g.1 f.1.0 f.1.1)
same_fault rows rest (Order n) (Order m) f g = ap Order (f.0 ∙ sym g.0)
same_fault rows rest (Order n) (NoParent m) f g =
    let one = one_line f.1.0 g.1.0 f.1.1.1.0 g.1.1.1.0 f.1.1.0 g.1.1.0 (sym f.1.1.1.1 ∙ g.1.1.1.1) in
    absurd (true≢false (sym g.1.2 ∙ ap (λ (x : Pair). comes_next rows x.0) (sym one.0) ∙ f.1.2))
same_fault rows rest (NoParent n) (BadLine m) f g = absurd (g.1 f.1.0 f.1.1)
same_fault rows rest (NoParent n) (Order m) f g =
    let one = one_line f.1.0 g.1.0 f.1.1.1.0 g.1.1.1.0 f.1.1.0 g.1.1.0 (sym f.1.1.1.1 ∙ g.1.1.1.1) in
    absurd (true≢false (sym f.1.2 ∙ ap (λ (x : Pair). comes_next rows x.0) one.0 ∙ g.1.2))
same_fault rows rest (NoParent n) (NoParent m) f g = ap NoParent (f.0 ∙ sym g.0)
same_fault rows rest Memory d f g = absurd f
same_fault rows rest (BadLine n) Memory f g = absurd g
same_fault rows rest (Order n) Memory f g = absurd g
same_fault rows rest (NoParent n) Memory f g = absurd g

one_fault : (bytes : List ℕ) (e d : TextFault) → Stops bytes e → Stops bytes d → e ≡ d
one_fault bytes e d s u =
    elim (compared s.rows u.rows s.rest u.rest (before_rows s.rows s.before) (before_rows u.rows u.before) (sym s.split ∙ u.split)) [
      | inl c ↦ same_fault u.rows u.rest e d (subst (λ x. IsFault u.rows x e) c.1 (subst (λ x. IsFault x s.rest e) c.0 s.fault)) u.fault
      | inr c ↦ elim c [
        | inl l ↦ absurd (no_fault_before s.rows u.rows s.rest u.rest e u.before l s.fault)
        | inr l ↦ absurd (no_fault_before u.rows s.rows u.rest s.rest d s.before l u.fault)
      ]
    ]

-- a text has one tree at most, or one first fault, and never both
pub one_answer : (bytes : List ℕ) → HasOneAnswer bytes
one_answer bytes = record { trees = one_tree bytes; apart = apart bytes; faults = one_fault bytes }

-- a result that is right for a tree's text is the tree, or the fault `Memory`
pub reads_back : (t : TreeMap) → IsTree t → ReadsBack t
reads_back t tree (Ok u) answer = one_tree (tree_text t) u t answer (record { tree = tree; text = refl })
reads_back t tree (Err e) answer = go (is_memory e) refl
  where
    go : (b : Bool) → is_memory e ≡ b → b ≡ true
    go true m = refl
    go false m = absurd (apart (tree_text t) t e (record { tree = tree; text = refl }) (answer m))
