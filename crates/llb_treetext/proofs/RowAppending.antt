-- A row after all rows of a tree goes to the end of it, where its directories are there; and each row of a tree's text does.
use Rattle.std.proofs.Common.{◌≡◌, ◌≢◌, ℕ, zero, suc, ◌<◌, ◌≤◌, ◌==◌, Bool, true, false, cond, List, [], ◌∷◌, ◌++◌, length}
use Rattle.std.proofs.Common.{Option, Some, None, Result, Ok, Err, T, refl, sym, ap, subst, ◌∙◌, true≢false, arith, append_assoc}
use Rattle.std.proofs.Common.{length-append, inr}
use Rattle.std.proofs.lemmas.Bool.{eqb-true}
use Rattle.std.proofs.lemmas.Grind.{flat_map-append}
use Rattle.std.proofs.lemmas.List.{append-nil}
use Rattle.std.specs.declared.cmp.Ordering.{Ordering}
use Rattle.std.specs.declared.cmp.Ordering.TheVariants.{Less, Equal, Greater}
use Rattle.std.specs.Ordering.{is_lt, is_eq, ordering_reverse}
use Rattle.std.specs.FinMap as finite
use Rattle.std.specs.FinMap.Entries.{by_order}
use Rattle.llb_tree.specs.Path.{path_cmp}
use Rattle.llb_tree.specs.PathOrder.{path_cmp-IsTotalOrder}
use Rattle.llb_tree.specs.ModeAndOwner.{MetaValue, new_dir_meta}
use Rattle.llb_tree.specs.Tree.{Entry, Dir, File, TreeMap, walk, dir_fits, file_fits, IsTree, empty_tree}
use Rattle.llb_tree.specs.declared.fault.TreeFault.{TreeFault}
use Rattle.llb_tree.proofs.EntryOrder.{is_less, and_first, and_second}
use Rattle.llb_tree.proofs.ParentClosure.{IsTree-insert}
use Rattle.llb_wire.specs.CallResults.{◌>>=◌}
use Rattle.llb_treetext.specs.TreeText.{row_text, line_of, lines_of, tree_text}
use Rattle.llb_treetext.specs.TextGrammar.{IsRow, IsText, IsFault, Stops, comes_next}
use Rattle.llb_treetext.specs.TreeAfterNextLine.{put_row, GoesOn, IsFront}
use Rattle.llb_treetext.specs.LineFields.{entry_of}
use Rattle.llb_treetext.specs.declared.fault.TextFault.{TextFault}
use Rattle.llb_treetext.proofs.RowLines.{Pair}

-- ---- after all rows

-- what passes the test for less is Less
pub less_true : (o : Ordering) → is_lt o ≡ true → o ≡ Less
less_true Less is = refl
less_true Equal is = absurd (true≢false (sym is))
less_true Greater is = absurd (true≢false (sym is))

turned : (p q : List (List ℕ)) → path_cmp p q ≡ Less → path_cmp q p ≡ Greater
turned p q lt = path_cmp-IsTotalOrder.antisymm q p ∙ ap ordering_reverse lt

first_less : (r : Pair) (rows : List Pair) (p : List (List ℕ)) → T (finite.is_sorted path_cmp (r ∷ rows)) → comes_next (r ∷ rows) p ≡ true
    → path_cmp r.0 p ≡ Less
first_less r [] p h next = less_true _ next
first_less r (s ∷ rows) p h next = path_cmp-IsTotalOrder.trans r.0 s.0 p (is_less _ (and_first _ _ (and_first _ _ h)))
    (first_less s rows p (and_second _ _ h) next)

-- a path that comes after the last of rows in order is none of theirs
pub find_behind : (r : Pair) (rows : List Pair) (p : List (List ℕ)) → T (finite.is_sorted path_cmp (r ∷ rows))
    → comes_next (r ∷ rows) p ≡ true → finite.find path_cmp p (r ∷ rows) ≡ None
find_behind r [] p h next = ap (λ o. cond (is_eq o) (Some r.1) None) (turned r.0 p (first_less r [] p h next))
find_behind r (s ∷ rows) p h next = ap (λ o. cond (is_eq o) (Some r.1) (finite.find path_cmp p (s ∷ rows)))
    (turned r.0 p (first_less r (s ∷ rows) p h next)) ∙ find_behind s rows p (and_second _ _ h) next

put_behind : (r : Pair) (rows : List Pair) (p : List (List ℕ)) (e : Entry) → T (finite.is_sorted path_cmp (r ∷ rows))
    → comes_next (r ∷ rows) p ≡ true → finite.put path_cmp p e (r ∷ rows) ≡ (r ∷ rows) ++ (p, e) ∷ []
put_behind r [] p e h next = ap (λ o. by_order o ((p, e) ∷ r ∷ []) ((r.0, e) ∷ []) (r ∷ (p, e) ∷ [])) (turned r.0 p (first_less r [] p h next))
put_behind r (s ∷ rows) p e h next =
    ap (λ o. by_order o ((p, e) ∷ r ∷ s ∷ rows) ((r.0, e) ∷ s ∷ rows) (r ∷ finite.put path_cmp p e (s ∷ rows)))
    (turned r.0 p (first_less r (s ∷ rows) p h next))
    ∙ ap (λ l. r ∷ l) (put_behind s rows p e (and_second _ _ h) next)

-- ---- a tree with a row more

module _ (t : TreeMap) (tree : IsTree t) (row : Pair) (is : IsRow row) (next : comes_next (finite.entries t) row.0 ≡ true) where
  some_rows : (r : Pair) × ((rows : List Pair) × (finite.entries t ≡ r ∷ rows))
  some_rows = go (finite.entries t) refl
    where
      go : (rows : List Pair) → finite.entries t ≡ rows → (r : Pair) × ((rows : List Pair) × (finite.entries t ≡ r ∷ rows))
      go [] none = let e : ◌≡◌ {A = Option Entry} None (Some (Dir tree.root.0)) = ap (finite.find path_cmp []) (sym none)
          ∙ sym (finite.get-entries t []) ∙ tree.root.1 in absurd cc
      go (r ∷ rows) same = (r, (rows, same))

  sorted : T (finite.is_sorted path_cmp (some_rows.0 ∷ some_rows.1.0))
  sorted = subst (λ es. T (finite.is_sorted path_cmp es)) some_rows.1.1 (finite.entries_sorted t)

  behind : comes_next (some_rows.0 ∷ some_rows.1.0) row.0 ≡ true
  behind = ap (λ es. comes_next es row.0) (sym some_rows.1.1) ∙ next

  -- a path that may come next after all entries of a tree is not in the tree yet
  pub not_there : finite.get t row.0 ≡ None
  not_there = finite.get-entries t row.0 ∙ ap (finite.find path_cmp row.0) some_rows.1.1 ∙ find_behind some_rows.0 some_rows.1.0 row.0 sorted behind

  -- so the row's path is not the root's, which every tree has
  pub not_root : row.0 ≢ []
  not_root at = let e : ◌≡◌ {A = Option Entry} None (Some (Dir tree.root.0)) = sym not_there ∙ ap (finite.get t) at ∙ tree.root.1 in absurd cc

  -- once it is put, it is the last of the entries
  pub entries_put : finite.entries (finite.insert t row.0 row.1) ≡ finite.entries t ++ row ∷ []
  entries_put =
      finite.entries-insert path_cmp-IsTotalOrder t row.0 row.1 ∙ ap (finite.put path_cmp row.0 row.1) some_rows.1.1
      ∙ put_behind some_rows.0 some_rows.1.0 row.0 row.1 sorted behind ∙ ap (λ es. es ++ row ∷ []) (sym some_rows.1.1)

  text_put : tree_text (finite.insert t row.0 row.1) ≡ tree_text t ++ line_of row
  text_put = ap lines_of entries_put ∙ flat_map-append line_of (finite.entries t) (row ∷ []) ∙ ap (λ l. tree_text t ++ l) (append-nil (line_of row))

  tree_put : walk (finite.get t) row.0 ≡ Ok tt → IsTree (finite.insert t row.0 row.1)
  tree_put walks = IsTree-insert t tree row.0 walks row.1 is.allowed (λ q dir same.
      let e : ◌≡◌ {A = Option Entry} None (Some (Dir dir.0)) = sym not_there ∙ ap (finite.get t) (sym same) ∙ dir.1 in absurd cc)

  -- an edit puts the row where nothing is, if the walk to it passes
  pub put_ok : (p : List (List ℕ)) (e : Entry) → p ≢ [] → finite.get t p ≡ None → walk (finite.get t) p ≡ Ok tt → put_row t (p, e) ≡ Ok (finite.insert t p e)
  put_ok p (Dir m) named none walks = ap (λ r. r >>= λ _. dir_fits (finite.get t p) >>= λ _. Ok (finite.insert t p (Dir m))) walks
      ∙ ap (λ o. dir_fits o >>= λ _. Ok (finite.insert t p (Dir m))) none
  put_ok [] (File m c) named none walks = absurd (named refl)
  put_ok (n ∷ p) (File m c) named none walks = ap (λ r. r >>= λ _. file_fits (finite.get t (n ∷ p))
      >>= λ _. Ok (finite.insert t (n ∷ p) (File m c))) walks ∙ ap (λ o. file_fits o >>= λ _. Ok (finite.insert t (n ∷ p) (File m c))) none

  put_err : (p : List (List ℕ)) (e : Entry) (f : TreeFault) → p ≢ [] → walk (finite.get t) p ≡ Err f → put_row t (p, e) ≡ Err f
  put_err p (Dir m) f named walks = ap (λ r. r >>= λ _. dir_fits (finite.get t p) >>= λ _. Ok (finite.insert t p (Dir m))) walks
  put_err [] (File m c) f named walks = absurd (named refl)
  put_err (n ∷ p) (File m c) f named walks = ap (λ r. r >>= λ _. file_fits (finite.get t (n ∷ p)) >>= λ _. Ok (finite.insert t (n ∷ p) (File m c))) walks

  -- an edit that is granted results in a tree whose text has the row's line at its end
  pub goes_on : (new : TreeMap) (rest later : List ℕ) → rest ≡ line_of row ++ later → put_row t row ≡ Ok new → GoesOn t new rest later
  goes_on new rest later begins put = by_walk (walk (finite.get t) row.0) refl
    where
      by_walk : (r : Result (Unit {0}) TreeFault) → walk (finite.get t) row.0 ≡ r → GoesOn t new rest later
      by_walk (Err f) walks = let e : ◌≡◌ {A = Result TreeMap TreeFault} (Err f) (Ok new) = sym (put_err row.0 row.1 f not_root walks) ∙ put in absurd cc
      by_walk (Ok u) walks =
          let e : ◌≡◌ {A = Result TreeMap TreeFault} (Ok (finite.insert t row.0 row.1)) (Ok new) = sym (put_ok row.0 row.1 not_root not_there walks) ∙ put in
          let own : finite.insert t row.0 row.1 ≡ new = cc in
          record {
            tree = subst IsTree own (tree_put walks);
            text = ap (λ l. tree_text t ++ l) begins ∙ sym (append_assoc (tree_text t) (line_of row) later)
                ∙ ap (λ l. l ++ later) (sym text_put ∙ ap tree_text own);
            shorter = omega (arith, ap length begins, length-append (line_of row) later, length-append (row_text row) (10 ∷ []));
          }

-- ---- the first line

pub root_entry : (m : MetaValue) (o : Option (List ℕ)) → ((k : MetaValue) × (entry_of m o ≡ Dir k)) → entry_of m o ≡ Dir m
root_entry m None is = refl
root_entry m (Some content) is = let e = is.1 in absurd cc

none_empty : finite.entries (finite.empty {X = Entry} {R = path_cmp}) ≡ []
none_empty = no_length (finite.entries (finite.empty {X = Entry} {R = path_cmp}))
    (sym (finite.len-entries (finite.empty {X = Entry} {R = path_cmp})) ∙ finite.len-empty path_cmp Entry)
  where
    no_length : (es : List Pair) → length es ≡ 0 → es ≡ []
    no_length [] is = refl
    no_length (e ∷ es) is = absurd (omega arith)

module _ (m : MetaValue) where
  -- the tree of the root alone has that one entry
  pub root_entries : finite.entries (finite.insert empty_tree [] (Dir m)) ≡ ([], Dir m) ∷ []
  root_entries =
      finite.entries-insert path_cmp-IsTotalOrder empty_tree [] (Dir m)
      ∙ ap (finite.put path_cmp [] (Dir m)) (finite.entries-insert path_cmp-IsTotalOrder finite.empty [] (Dir new_dir_meta)
      ∙ ap (finite.put path_cmp [] (Dir new_dir_meta)) none_empty)

  -- a text whose first line is the root's starts with the text of the tree of the root alone
  pub root_front : (p : List (List ℕ)) (o : Option (List ℕ)) (t : TreeMap) (bytes later : List ℕ) → IsRow (p, entry_of m o)
      → bytes ≡ line_of (p, entry_of m o) ++ later → p ≡ [] → finite.insert empty_tree [] (Dir m) ≡ t → IsTree t → IsFront bytes t later
  root_front p o t bytes later row begins at is tree = record {
    tree = tree;
    text = begins ∙ (λ i. line_of (at i, root_entry m o (row.root at) i) ++ later)
        ∙ ap (λ l. l ++ later) (sym (append-nil (line_of ([], Dir m))) ∙ ap lines_of (sym root_entries) ∙ ap tree_text is);
  }

-- ---- the whole text

-- each row has a line of its own
pub few_rows : (rows : List Pair) → length rows ≤ length (lines_of rows)
few_rows [] = omega arith
few_rows (r ∷ rows) = omega (arith, few_rows rows, length-append (line_of r) (lines_of rows), length-append (row_text r) (10 ∷ []))

module _ (bytes : List ℕ) (t : TreeMap) (rest : List ℕ) (front : IsFront bytes t rest) where
  -- the test says that the rest isn't empty, so bytes are left
  pub some_left : (b : Bool) → b ≡ (length rest == 0) → b ≡ false → 0 < length rest
  some_left b is no_b = by_length (length rest) (sym is ∙ no_b)
    where
      by_length : (n : ℕ) → (n == 0) ≡ false → 0 < n
      by_length zero e = absurd (true≢false e)
      by_length (suc n) e = omega arith

  -- as long as bytes are left, there are fewer entries than bytes, so their number can't overflow
  pub few_lines : 0 < length rest → finite.len t < length bytes
  few_lines some = omega (arith, few_rows (finite.entries t), finite.len-entries t, ap length front.text, length-append (tree_text t) rest, some)

  -- a fault in what is left, after the lines of a tree, is a fault of the whole text
  pub stops : (e : TextFault) → 0 < length rest → IsFault (finite.entries t) rest e → Stops bytes e
  stops e some fault = record {
    rows = finite.entries t;
    rest = rest;
    before = inr (t, front.tree, refl);
    split = front.text;
    more = λ none. absurd (omega (arith, ap length none, some));
    fault = fault;
  }

  -- once one more line is read, the text starts with the text of the larger tree
  pub front_more : (new : TreeMap) (later : List ℕ) → GoesOn t new rest later → IsFront bytes new later
  front_more new later goes = record { tree = goes.tree; text = front.text ∙ goes.text }

  -- when nothing is left, the whole is the text of the tree
  pub whole_text : (length rest == 0) ≡ true → IsText bytes t
  whole_text none = record {
    tree = front.tree;
    text = front.text
        ∙ ap (λ r. tree_text t ++ r) (no_length rest (eqb-true (length rest) 0 none)) ∙ append-nil (tree_text t);
  }
    where
      no_length : (xs : List ℕ) → length xs ≡ 0 → xs ≡ []
      no_length [] is = refl
      no_length (x ∷ xs) is = absurd (omega (arith, is))
