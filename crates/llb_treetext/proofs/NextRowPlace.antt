-- The last path of a tree decides where the next row goes.
use Rattle.std.proofs.Common.{◌≡◌, ◌≢◌, ℕ, ◌+◌, ◌==◌, Bool, true, false, List, [], ◌∷◌, ◌++◌, length, map, drop, Option, Some, None}
use Rattle.std.proofs.Common.{is_some, IsSome, Ok, T, refl, sym, ap, subst, ◌∙◌, true≢false, arith, length-append}
use Rattle.std.specs.Prelude.{slice_get}
use Rattle.std.proofs.lemmas.List.{append-nil}
use Rattle.std.proofs.lemmas.List.Elements.{All-nil, All-cons, All-head, All-tail}
use Rattle.std.specs.Ordering.{is_lt}
use Rattle.std.specs.FinMap as finite
use Rattle.llb_tree.specs.Path.{is_name, IsPath, path_cmp}
use Rattle.llb_tree.specs.ModeAndOwner.{MetaValue, IsMeta, new_dir_meta}
use Rattle.llb_tree.specs.Tree.{Entry, Dir, File, Look, TreeMap, parents, all_dirs, walk, IsDirAt, IsAllowedAt, IsTree, empty_tree}
use Rattle.llb_tree.proofs.SubtreeEntries.{walk-cons}
use Rattle.llb_tree.proofs.PathsBelow.{between, within_split}
use Rattle.llb_treetext.specs.TreeText.{names_text, path_text, line_of}
use Rattle.llb_treetext.specs.TextGrammar.{IsRow, IsFault, comes_next}
use Rattle.llb_treetext.specs.LineFields.{Fields, parts_seen, parts_from, trail}
use Rattle.llb_treetext.specs.declared.line_fields.Parts.{Parts}
use Rattle.llb_treetext.specs.declared.fault.TextFault.TheVariants.{Order, NoParent}
use Rattle.std.specs.Option.{option_map, is_none}
use Rattle.std.proofs.lemmas.Bool.{eqb-true, eq-eqb}
use Rattle.llb_tree.specs.PathOrder.{path_cmp-IsTotalOrder}
use Rattle.llb_treetext.specs.TreeAfterNextLine.{put_row, GoesOn, IsFront, IsLast, is_dir, opens, trail_cmp}
use Rattle.llb_treetext.specs.declared.line_check.Place.{Place}
use Rattle.llb_treetext.proofs.RowLines.{Pair}
use Rattle.llb_treetext.proofs.UniqueReading.{there, entry_is_row, at_end}
use Rattle.llb_treetext.proofs.RowAppending.{find_behind, entries_put, goes_on, put_ok, not_there, not_root, less_true}
use Rattle.llb_tree.proofs.ParentClosure.{get-insert_cases}
use Rattle.llb_treetext.proofs.RowAppending.{root_entries, root_front}
use Rattle.llb_treetext.proofs.SlashedNames.{Named, NoSlash, slashless, trail_is, no_names_left, names_more, names_split, opens_tail, names_front, trail_order}

-- ---- the walk to a path through its directory

dirs_ok : (o : Option Entry) (es : List (Option Entry)) → all_dirs (o ∷ es) ≡ Ok tt → (m : MetaValue) × (o ≡ Some (Dir m)) × (all_dirs es ≡ Ok tt)
dirs_ok None es is = absurd cc
dirs_ok (Some (File m b)) es is = absurd cc
dirs_ok (Some (Dir m)) es is = (m, refl, is)

module _ (look : Look) (n : List ℕ) (p : List (List ℕ)) where
  walk_apart : walk look (n ∷ p) ≡ Ok tt → (m : MetaValue) × (look [] ≡ Some (Dir m)) × (walk (λ q. look (n ∷ q)) p ≡ Ok tt)
  walk_apart walks = dirs_ok (look []) (map (λ q. look (n ∷ q)) (parents p)) (sym (walk-cons look n p) ∙ walks)

  walk_joined : (m : MetaValue) → look [] ≡ Some (Dir m) → walk (λ q. look (n ∷ q)) p ≡ Ok tt → walk look (n ∷ p) ≡ Ok tt
  walk_joined m is walks = walk-cons look n p ∙ ap (λ o. all_dirs (o ∷ map (λ q. look (n ∷ q)) (parents p))) is ∙ walks

walk_through : (look : Look) (d : List (List ℕ)) (n x : List ℕ) (r : List (List ℕ)) → walk look (d ++ x ∷ r) ≡ Ok tt → walk look (d ++ n ∷ []) ≡ Ok tt
walk_through look [] n x r walks = let (m, is, rest) = walk_apart look x r walks in walk_joined look n [] m is refl
walk_through look (y ∷ d) n x r walks =
    let (m, is, rest) = walk_apart look y (d ++ x ∷ r) walks in
    walk_joined look y (d ++ n ∷ []) m is (walk_through (λ q. look (y ∷ q)) d n x r rest)

walk_down : (look : Look) (d : List (List ℕ)) (n : List ℕ) (m : MetaValue) → walk look d ≡ Ok tt → look d ≡ Some (Dir m) → walk look (d ++ n ∷ []) ≡ Ok tt
walk_down look [] n m walks own = walk_joined look n [] m own refl
walk_down look (y ∷ d) n m walks own =
    let (k, is, rest) = walk_apart look y d walks in
    walk_joined look y (d ++ n ∷ []) k is (walk_down (λ q. look (y ∷ q)) d n m rest own)

walk_dir : (look : Look) (d : List (List ℕ)) (n : List ℕ) → walk look (d ++ n ∷ []) ≡ Ok tt → IsDirAt look d
walk_dir look [] n walks = let (m, is, rest) = walk_apart look n [] walks in (m, is)
walk_dir look (y ∷ d) n walks = let (m, is, rest) = walk_apart look y (d ++ n ∷ []) walks in walk_dir (λ q. look (y ∷ q)) d n rest

-- ---- the last path of a tree

comes_last : (front : List Pair) (r : Pair) (p : List (List ℕ)) → comes_next (front ++ r ∷ []) p ≡ is_lt (path_cmp r.0 p)
comes_last [] r p = refl
comes_last (x ∷ []) r p = refl
comes_last (x ∷ y ∷ front) r p = comes_last (y ∷ front) r p

pub last_name : (p : List (List ℕ)) → p ≢ [] → (d : List (List ℕ)) × ((n : List ℕ) × (p ≡ d ++ n ∷ []))
last_name [] some = absurd (some refl)
last_name (n ∷ []) some = ([], (n, refl))
last_name (n ∷ m ∷ p) some = let (d, (k, is)) = last_name (m ∷ p) (λ at. absurd cc) in (n ∷ d, (k, ap (λ q. n ∷ q) is))

named_front : (d : List (List ℕ)) (r : List (List ℕ)) → Named (d ++ r) → Named d
named_front [] r named = All-nil (λ name. is_name name ≡ true)
named_front (n ∷ d) r named = All-cons (λ name. is_name name ≡ true) n d (All-head (λ name. is_name name ≡ true) n (d ++ r) named)
    (named_front d r (All-tail (λ name. is_name name ≡ true) n (d ++ r) named))

pub named_end : (d : List (List ℕ)) (n : List ℕ) → Named (d ++ n ∷ []) → is_name n ≡ true
named_end [] n named = All-head (λ name. is_name name ≡ true) n [] named
named_end (m ∷ d) n named = named_end d n (All-tail (λ name. is_name name ≡ true) m (d ++ n ∷ []) named)

module _ (t : TreeMap) (tree : IsTree t) (place : Place) (last : IsLast t place) where
  here : slice_get (finite.entries t) (length last.front) ≡ Some last.row
  here = ap (λ es. slice_get es (length last.front)) last.entries ∙ at_end last.front last.row []

  found : finite.get t last.row.0 ≡ Some last.row.1
  found = there t tree (length last.front) last.row here

  last_row : IsRow last.row
  last_row = entry_is_row t tree (length last.front) last.row here

  comes : (p : List (List ℕ)) → comes_next (finite.entries t) p ≡ is_lt (path_cmp last.row.0 p)
  comes p = ap (λ es. comes_next es p) last.entries ∙ comes_last last.front last.row p

  -- whether a path is after all others
  pub order_is : (p : List (List ℕ)) (names : List ℕ) → IsPath p → names ≡ names_text p
      → is_lt (trail_cmp place.names.now names) ≡ comes_next (finite.entries t) p
  order_is p names path same =
      (λ i. is_lt (trail_cmp (last.names i) (same i))) ∙ ap is_lt (trail_order last.row.0 p last_row.allowed.path.named path.named) ∙ sym (comes p)

  -- a path that the tree has does not come after all its paths
  not_behind : (d : List (List ℕ)) (e : Entry) → finite.get t d ≡ Some e → comes_next (finite.entries t) d ≡ false
  not_behind d e is = go (comes_next (finite.entries t) d) refl (finite.entries t) refl
    where
      go : (b : Bool) → comes_next (finite.entries t) d ≡ b → (es : List Pair) → finite.entries t ≡ es → b ≡ false
      go false next es same = refl
      go true next [] same = let none : ◌≡◌ {A = Option Entry} (Some e) None = sym is ∙ finite.get-entries t d ∙ ap (finite.find path_cmp d) same in absurd cc
      go true next (r ∷ es) same =
          let none : ◌≡◌ {A = Option Entry} (Some e) None = sym is ∙ finite.get-entries t d ∙ ap (finite.find path_cmp d) same
          ∙ find_behind r es d (subst (λ l. T (finite.is_sorted path_cmp l)) same (finite.entries_sorted t))
          (ap (λ l. comes_next l d) (sym same) ∙ next) in absurd cc

  module _ (d : List (List ℕ)) (n : List ℕ) (named : Named (d ++ n ∷ [])) (next : comes_next (finite.entries t) (d ++ n ∷ []) ≡ true) where
    -- a directory there is the last path or above it
    above : IsDirAt (finite.get t) d → (r : List (List ℕ)) × (last.row.0 ≡ d ++ r)
    above (m, is) = (
      drop (length d) last.row.0,
      within_split d last.row.0
          (between d last.row.0 (n ∷ []) (sym (comes d) ∙ not_behind d (Dir m) is) (less_true _ (sym (comes (d ++ n ∷ [])) ∙ next))),
    )

    walks_last : walk (finite.get t) last.row.0 ≡ Ok tt
    walks_last = tree.closed last.row.0 (ap is_some found)

    opened : (r : List (List ℕ)) → last.row.0 ≡ d ++ r → opens (names_text r) place.is_dir ≡ true → walk (finite.get t) (d ++ n ∷ []) ≡ Ok tt
    opened [] is shows = by_entry last.row.1 refl
      where
        at : last.row.0 ≡ d
        at = is ∙ append-nil d

        by_entry : (e : Entry) → last.row.1 ≡ e → walk (finite.get t) (d ++ n ∷ []) ≡ Ok tt
        by_entry (Dir m) own = walk_down (finite.get t) d n m (ap (walk (finite.get t)) (sym at) ∙ walks_last)
            (ap (finite.get t) (sym at) ∙ found ∙ ap (λ e. Some e) own)
        by_entry (File m c) own = absurd (true≢false (sym shows ∙ last.kind ∙ ap is_dir own))
    opened (x ∷ r) is shows = walk_through (finite.get t) d n x r (ap (walk (finite.get t)) (sym is) ∙ walks_last)

    closed : (r : List (List ℕ)) → last.row.0 ≡ d ++ r → IsDirAt (finite.get t) d → opens (names_text r) place.is_dir ≡ true
    closed [] is (m, dir) = let same : ◌≡◌ {A = Option Entry} (Some last.row.1) (Some (Dir m)) = sym found
        ∙ ap (finite.get t) (is ∙ append-nil d) ∙ dir in let own : last.row.1 ≡ Dir m = cc in last.kind ∙ ap is_dir own
    closed (x ∷ r) is dir = refl

    module _ (b : Bool) (dir : List ℕ) (dir_is : dir ≡ names_text d) (holds : b ≡ true
        → (later : List ℕ) × (place.names.now ≡ dir ++ later) × (opens later place.is_dir ≡ true))
        (each : (later : List ℕ) → place.names.now ≡ dir ++ later → b ≡ opens later place.is_dir) where
      each_row : (r : List (List ℕ)) → last.row.0 ≡ d ++ r → b ≡ opens (names_text r) place.is_dir
      each_row r is = each (names_text r) (last.names ∙ ap names_text is ∙ names_split d r ∙ ap (λ x. x ++ names_text r) (sym dir_is))

      -- if the test finds the directory, the walk to the path passes
      pub walks : b ≡ true → walk (finite.get t) (d ++ n ∷ []) ≡ Ok tt
      walks is =
          let (later, text, shows) = holds is in
          let (r, split) = names_front last.row.0 d later last_row.allowed.path.named (named_front d (n ∷ []) named)
          (opens_tail later place.is_dir shows) (sym last.names ∙ text ∙ ap (λ x. x ++ later) dir_is) in
          opened r split (sym (each_row r split) ∙ is)

      -- if the test does not find the directory, the walk to the path fails
      pub walks_not : b ≡ false → walk (λ q. finite.find path_cmp q (finite.entries t)) (d ++ n ∷ []) ≢ Ok tt
      walks_not is walks =
          let dir = walk_dir (finite.get t) d n (ap (λ look. walk look (d ++ n ∷ [])) (λ i q. finite.get-entries t q i) ∙ walks) in
          let (r, split) = above dir in
          true≢false (sym (closed r split dir) ∙ sym (each_row r split) ∙ is)

  -- ---- the next row

  module _ (row : Pair) (is : IsRow row) (names : List ℕ) (names_is : names ≡ names_text row.0) (b : Bool)
      (b_is : b ≡ is_lt (trail_cmp place.names.now names)) where
    next_is : comes_next (finite.entries t) row.0 ≡ b
    next_is = sym (b_is ∙ order_is row.0 names is.allowed.path names_is)

    -- the row's path is not after the last one, and the fault names this line
    pub out_of_order : (rest later : List ℕ) (n : ℕ) → n ≡ finite.len t + 1 → rest ≡ line_of row ++ later → b ≡ false
        → IsFault (finite.entries t) rest (Order n)
    out_of_order rest later n number text fails = (number ∙ ap (λ k. k + 1) (finite.len-entries t), (row, (is, (later, text)), next_is ∙ fails))

    module _ (next : b ≡ true) (h : Bool) (dir : List ℕ) (dir_of : (front name : List ℕ) → NoSlash name → names ≡ front ++ 47 ∷ name → dir ≡ front)
        (holds : h ≡ true → (later : List ℕ) × (place.names.now ≡ dir ++ later) × (opens later place.is_dir ≡ true))
        (each : (later : List ℕ) → place.names.now ≡ dir ++ later → h ≡ opens later place.is_dir) where
      behind : comes_next (finite.entries t) row.0 ≡ true
      behind = next_is ∙ next

      -- the row's path, and its directory
      ends : (d : List (List ℕ)) × ((n : List ℕ) × (row.0 ≡ d ++ n ∷ []))
      ends = last_name row.0 (not_root t tree row is behind)

      named : Named (ends.0 ++ ends.1.0 ∷ [])
      named = subst Named ends.1.1 is.allowed.path.named

      next_end : comes_next (finite.entries t) (ends.0 ++ ends.1.0 ∷ []) ≡ true
      next_end = ap (comes_next (finite.entries t)) (sym ends.1.1) ∙ behind

      dir_is : dir ≡ names_text ends.0
      dir_is = dir_of (names_text ends.0) ends.1.0 (slashless ends.1.0 (named_end ends.0 ends.1.0 named))
          (names_is ∙ ap names_text ends.1.1 ∙ names_more ends.0 ends.1.0)

      -- the row comes next, but its directory is not there
      pub no_directory : (rest later : List ℕ) (n : ℕ) → n ≡ finite.len t + 1 → rest ≡ line_of row ++ later → h ≡ false
          → IsFault (finite.entries t) rest (NoParent n)
      no_directory rest later n number text fails = (
        number ∙ ap (λ k. k + 1) (finite.len-entries t),
        (
          row,
          (is, (later, text)),
          behind,
          λ there. walks_not ends.0 ends.1.0 named next_end h dir dir_is holds each fails
              (ap (walk (λ q. finite.find path_cmp q (finite.entries t))) (sym ends.1.1) ∙ there),
        ),
      )

      -- its directory is there, so the row is put into the tree, and is now the last one
      pub goes_to : (rest later : List ℕ) (new : Place) → rest ≡ line_of row ++ later → new.names.now ≡ names_text row.0 → new.is_dir ≡ is_dir row.1 → h ≡ true
          → (finite.get t row.0 ≡ None) × (put_row t row ≡ Ok (finite.insert t row.0 row.1))
          × GoesOn t (finite.insert t row.0 row.1) rest later × IsLast (finite.insert t row.0 row.1) new
          × (finite.len (finite.insert t row.0 row.1) ≡ finite.len t + 1)
      goes_to rest later new text place_is kind_is there =
          let walk_is : walk (finite.get t) row.0 ≡ Ok tt = ap (walk (finite.get t)) ends.1.1
          ∙ walks ends.0 ends.1.0 named next_end h dir dir_is holds each there in
          let own = entries_put t tree row is behind in
          let put = put_ok t tree row is behind row.0 row.1 (not_root t tree row is behind) (not_there t tree row is behind) walk_is in (
            not_there t tree row is behind,
            put,
            goes_on t tree row is behind (finite.insert t row.0 row.1) rest later text put,
            record { front = finite.entries t; row = row; entries = own; names = place_is; kind = kind_is },
            finite.len-entries (finite.insert t row.0 row.1) ∙ ap length own ∙ length-append (finite.entries t) (row ∷ [])
                ∙ ap (λ k. k + 1) (sym (finite.len-entries t)),
          )

-- ---- the place of a line

fields_path : (row : Pair) → (parts_from row).2 ≡ path_text row.0
fields_path (p, Dir m) = refl
fields_path (p, File m c) = refl

fields_kind : (row : Pair) → is_none (parts_from row).1 ≡ is_dir row.1
fields_kind (p, Dir m) = refl
fields_kind (p, File m c) = refl

seen_kind : {A B : Type 0} (f : A → B) (o : Option A) → is_none o ≡ is_none (option_map f o)
seen_kind f None = refl
seen_kind f (Some x) = refl

module _ (row : Pair) (is : IsRow row) (x : Parts) (parts : parts_seen x ≡ parts_from row) where
  -- the names that the place of a line keeps are those of its row's path
  pub place_names : (names : List ℕ) → names ≡ trail x.path.now → names ≡ names_text row.0
  place_names names same = same ∙ ap (λ (f : Fields). trail f.2) parts ∙ ap trail (fields_path row) ∙ trail_is row.0 is.allowed.path

  -- a line without the digits of a content is a directory's
  pub place_kind : (b : Bool) → b ≡ is_none x.digits → b ≡ is_dir row.1
  place_kind b same = same ∙ seen_kind (λ digits. digits.now) x.digits ∙ ap (λ (f : Fields). is_none f.1) parts ∙ fields_kind row

-- ---- the first line

abbrev root_of : MetaValue → TreeMap
root_of m = finite.insert empty_tree [] (Dir m)

module _ (m : MetaValue) (is : IsMeta m) where
  only_root : (q : List (List ℕ)) (e : Entry) → finite.get (root_of m) q ≡ Some e → q ≡ []
  only_root q e = get-insert_cases (λ o. o ≡ Some e → q ≡ []) empty_tree [] (Dir m) q (λ same own. same)
      (get-insert_cases (λ o. o ≡ Some e → q ≡ []) finite.empty [] (Dir new_dir_meta) q (λ same own. same)
      (λ there. let none : ◌≡◌ {A = Option Entry} None (Some e) = sym (finite.get-empty path_cmp q) ∙ there in absurd cc))

  root_there : finite.get (root_of m) [] ≡ Some (Dir m)
  root_there = finite.get-insert path_cmp-IsTotalOrder empty_tree [] (Dir m) []

  root_is_tree : IsTree (root_of m)
  root_is_tree = record {
    root = (m, root_there);
    closed = λ q there. by_look q (finite.get (root_of m) q) refl there;
    allowed = λ q e at. by_path q e (only_root q e at) at;
  }
    where
      by_look : (q : List (List ℕ)) (o : Option Entry) → finite.get (root_of m) q ≡ o → IsSome o → walk (finite.get (root_of m)) q ≡ Ok tt
      by_look q None at some = absurd (true≢false (sym some))
      by_look q (Some e) at some = ap (walk (finite.get (root_of m))) (only_root q e at)

      by_path : (q : List (List ℕ)) (e : Entry) → q ≡ [] → finite.get (root_of m) q ≡ Some e → IsAllowedAt q e
      by_path q e root at =
          let same : ◌≡◌ {A = Option Entry} (Some (Dir m)) (Some e) = sym root_there ∙ ap (finite.get (root_of m)) (sym root) ∙ at in
          let own : Dir m ≡ e = cc in
          subst (λ p. IsAllowedAt p e) (sym root)
          (subst (IsAllowedAt []) own (record {
            path = record { short = omega arith; named = All-nil (λ name. is_name name ≡ true) };
            meta = is;
            bytes = tt;
          }))

module _ (row : Pair) (is : IsRow row) (bytes later : List ℕ) (text : bytes ≡ line_of row ++ later) (place : Place)
    (names : place.names.now ≡ names_text row.0) where
  starts_at : (m : MetaValue) → row.0 ≡ [] → row.1 ≡ Dir m → place.is_dir ≡ is_dir row.1
      → IsFront bytes (root_of m) later × IsLast (root_of m) place × (finite.len (root_of m) ≡ 1)
  starts_at m at dir kind =
      let same : row ≡ ([], Dir m) = (λ i. (at i, dir i)) in
      let root = subst IsRow same is in (
        root_front m [] None (root_of m) bytes later root (text ∙ ap (λ r. line_of r ++ later) same) refl refl (root_is_tree m root.allowed.meta),
        record { front = []; row = ([], Dir m); entries = root_entries m; names = names ∙ ap names_text at; kind = kind ∙ ap is_dir dir },
        finite.len-entries (root_of m) ∙ ap length (root_entries m),
      )

  -- a first line with no names is the root's, and the tree of the root alone is read
  pub starts : (x : Parts) → parts_seen x ≡ parts_from row → place.is_dir ≡ is_dir row.1 → (length place.names.now == 0) ≡ true
      → IsFront bytes (root_of x.meta) later × IsLast (root_of x.meta) place × (finite.len (root_of x.meta) ≡ 1)
  starts x parts kind empty =
      let at : row.0 ≡ [] = no_names_left row.0 (ap length (sym names) ∙ eqb-true (length place.names.now) 0 empty) in
      let (m, dir) = is.root at in
      let own : m ≡ x.meta = sym (ap (λ (f : Fields). f.0) parts ∙ ap (λ e. (parts_from (row.0, e)).0) dir) in
      subst (λ k. IsFront bytes (root_of k) later × IsLast (root_of k) place × (finite.len (root_of k) ≡ 1)) own (starts_at m at dir kind)

  -- a first line of any other path is out of order
  pub not_first : (length place.names.now == 0) ≡ false → IsFault [] bytes (Order 1)
  not_first some = (refl, (row, (is, (later, text)), by_path row.0 refl))
    where
      by_path : (p : List (List ℕ)) → row.0 ≡ p → comes_next [] p ≡ false
      by_path [] at = absurd (true≢false (sym (eq-eqb (length place.names.now) 0 (ap length (names ∙ ap names_text at))) ∙ some))
      by_path (n ∷ p) at = refl
