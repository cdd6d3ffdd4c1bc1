-- A directory that is kept apart, and the tree that it goes back to.
use Rattle.std.proofs.Common.{◌≡◌, ◌≢◌, ℕ, Bool, true, false, cond, List, [], ◌∷◌, ◌++◌, length, Option, Some, None, Result, Ok}
use Rattle.std.proofs.Common.{refl, sym, ap, subst, ◌∙◌, true≢false, arith, length-append, inl}
use Rattle.std.proofs.lemmas.List.{append-nil}
use Rattle.std.proofs.lemmas.List.Elements.{All-append, All-cons, All-nil}
use Rattle.std.specs.Ordering.{is_eq, eq_by_cmp}
use Rattle.std.specs.Option.{option_map}
use Rattle.std.specs.FinMap as finite
use Rattle.llb_wire.specs.CallResults.{◌>>=◌}
use Rattle.llb_wire.proofs.RuleComposition.{bind_ok}
use Rattle.llb_wire.specs.Hexadecimal.{bytes_in, hex_text}
use Rattle.llb_tree.specs.Path.{is_name, path_cmp, is_within, IsPath}
use Rattle.llb_tree.specs.PathOrder.{path_cmp-IsTotalOrder, path_cmp-IsAntisymmetric, same_path}
use Rattle.llb_tree.specs.ModeAndOwner.{MetaValue, new_dir_meta}
use Rattle.llb_tree.specs.Tree.{Entry, Dir, File, TreeMap, walk, file_fits, put_file, empty_tree, IsTree}
use Rattle.llb_tree.proofs.EditedMaps.{by_place, tied_below, apart, none_below}
use Rattle.llb_tree.proofs.PathsBelow.{within-append, cmp-append}
use Rattle.llb_tree.specs.declared.fault.TreeFault.{TreeFault}
use Rattle.llb_treetext.specs.TreeText.{names_text, path_text}
use Rattle.llb_treetext.specs.TextGrammar.{IsRow}
use Rattle.llb_treetext.specs.LineFields.{Fields, parts_from}
use Rattle.llb_treetext.specs.TreeAfterNextLine.{put_row}
use Rattle.llb_treetext.specs.GrowingTree.{HasBelow, IsGrownIfAny, Follows}
use Rattle.llb_treetext.specs.declared.line_fields.Parts.{Parts}
use Rattle.llb_treetext.specs.declared.growing_tree.Growing.{Growing}
use Rattle.llb_treetext.proofs.SlashedNames.{names_more, names_front, names_split, no_names_left}
use Rattle.llb_wire.proofs.HexTexts.{content_is}

module _ (above : TreeMap) (at : List (List ℕ)) where
  -- a directory is opened where nothing is
  pub opens_there : (m : MetaValue) (dir : TreeMap) → IsTree above → finite.get above at ≡ None → dir ≡ finite.insert empty_tree [] (Dir m)
      → HasBelow (finite.insert above at (Dir m)) above at dir
  opens_there m dir tree none own = record {
    inside = λ q. in_whole q ∙ by_tie (eq_by_cmp path_cmp q []) (finite.get above (at ++ q)) (none_below above at q tree none) ∙ sym (in_dir q);
    outside = λ q out. finite.get-insert path_cmp-IsTotalOrder above at (Dir m) q ∙ ap (λ b. cond b (Some (Dir m)) (finite.get above q)) (apart at q out);
  }
    where
      in_whole : (q : List (List ℕ)) → finite.get (finite.insert above at (Dir m)) (at ++ q)
          ≡ cond (eq_by_cmp path_cmp q []) (Some (Dir m)) (finite.get above (at ++ q))
      in_whole q =
          finite.get-insert path_cmp-IsTotalOrder above at (Dir m) (at ++ q)
          ∙ ap (λ b. cond b (Some (Dir m)) (finite.get above (at ++ q))) (tied_below at q)

      in_dir : (q : List (List ℕ)) → finite.get dir q
          ≡ cond (eq_by_cmp path_cmp q []) (Some (Dir m)) (cond (eq_by_cmp path_cmp q []) (Some (Dir new_dir_meta)) None)
      in_dir q =
          let empty = finite.get-insert path_cmp-IsTotalOrder finite.empty [] (Dir new_dir_meta) q
          ∙ ap (cond (eq_by_cmp path_cmp q []) (Some (Dir new_dir_meta))) (finite.get-empty path_cmp q) in
          ap (λ d. finite.get d q) own ∙ finite.get-insert path_cmp-IsTotalOrder empty_tree [] (Dir m) q
          ∙ ap (cond (eq_by_cmp path_cmp q []) (Some (Dir m))) empty

      by_tie : (b : Bool) (o : Option Entry) → o ≡ None → cond b (Some (Dir m)) o ≡ cond b (Some (Dir m)) (cond b (Some (Dir new_dir_meta)) None)
      by_tie true o is = refl
      by_tie false o is = is

  -- `HasBelow` still holds after an entry is put at path x of the directory's tree, and at the same place in the whole tree
  with_more : (t dir : TreeMap) (x : List (List ℕ)) (e : Entry) → HasBelow t above at dir
      → HasBelow (finite.insert t (at ++ x) e) above at (finite.insert dir x e)
  with_more t dir x e has = record {
    inside = λ q. finite.get-insert path_cmp-IsTotalOrder t (at ++ x) e (at ++ q)
        ∙ (λ i. cond (is_eq (cmp-append at q x i)) (Some e) (has.inside q i)) ∙ sym (finite.get-insert path_cmp-IsTotalOrder dir x e q);
    outside = λ q out. finite.get-insert path_cmp-IsTotalOrder t (at ++ x) e q ∙ beside q out (eq_by_cmp path_cmp q (at ++ x)) refl;
  }
    where
      beside : (q : List (List ℕ)) → is_within at q ≡ false → (b : Bool) → eq_by_cmp path_cmp q (at ++ x) ≡ b
          → cond b (Some e) (finite.get t q) ≡ finite.get above q
      beside q out false is = has.outside q out
      beside q out true is =
          absurd (true≢false (sym (within-append at x) ∙ ap (is_within at) (sym (same_path q (at ++ x) is)) ∙ out))

  -- once the directory's tree is put back at its path, the result is the whole tree
  pub goes_back : (t dir new : TreeMap) → HasBelow t above at dir → ((q : List (List ℕ)) → finite.get new (at ++ q) ≡ finite.get dir q)
      → ((q : List (List ℕ)) → is_within at q ≡ false → finite.get new q ≡ finite.get above q) → new ≡ t
  goes_back t dir new has inside outside = finite.same_map path_cmp-IsTotalOrder path_cmp-IsAntisymmetric new t
      (by_place at (λ q. finite.get new q ≡ finite.get t q) (λ q. inside q ∙ sym (has.inside q)) (λ q out. outside q out ∙ sym (has.outside q out)))

-- ---- a file in the directory

-- the text of a path that is not the root's is that of its names
path_names : (p : List (List ℕ)) → p ≢ [] → path_text p ≡ names_text p
path_names [] named = absurd (named refl)
path_names (n ∷ p) named = refl

-- if the names of a path are spelled as those of a directory and then one name more, the path is the directory's path and this name
path_is : (p at : List (List ℕ)) (n : List ℕ) → IsPath p → IsPath at → is_name n ≡ true → names_text p ≡ names_text at ++ 47 ∷ n → p ≡ at ++ n ∷ []
path_is p at n path front name text =
    let whole : List (List ℕ) = at ++ n ∷ [] in
    let same : names_text p ≡ names_text whole ++ [] = text ∙ sym (names_more at n) ∙ sym (append-nil (names_text whole)) in
    let one = All-cons (λ name. is_name name ≡ true) n [] name (All-nil (λ name. is_name name ≡ true)) in
    let named = All-append (λ name. is_name name ≡ true) at (n ∷ []) front.named one in
    let (r, split) = names_front p whole [] path.named named (inl refl) same in
    let texts : names_text p ≡ names_text whole ++ names_text r = ap names_text split ∙ names_split whole r in
    let lengths = length-append (names_text whole) (names_text r) in
    let none : r ≡ [] = no_names_left r (omega (arith, ap length same, ap length texts, lengths, length-append (names_text whole) [])) in
    split ∙ ap (λ x. whole ++ x) none ∙ append-nil whole

-- the entry of a file's parts
file_is : (p : List (List ℕ)) (e : Entry) (m : MetaValue) (digits path content : List ℕ) → IsRow (p, e) → (m, Some digits, path) ≡ parts_from (p, e)
    → bytes_in digits ≡ Some content → e ≡ File m content
file_is p (Dir k) m digits path content stands same is = let none : ◌≡◌ {A = Option (List ℕ)} (Some digits) None = ap (λ (f : Fields). f.1) same in absurd cc
file_is p (File k b) m digits path content stands same is =
    let meta : m ≡ k = ap (λ (f : Fields). f.0) same in
    let read : ◌≡◌ {A = Option (List ℕ)} (Some (hex_text b)) (Some digits) = sym (ap (λ (f : Fields). f.1) same) in
    let text : hex_text b ≡ digits = cc in
    let both : ◌≡◌ {A = Option (List ℕ)} (Some b) (Some content) = sym (content_is b stands.allowed.bytes) ∙ ap bytes_in text ∙ is in
    let own : b ≡ content = cc in
    λ i. File (sym meta i) (own i)

one_value : (s t : TreeMap) → ◌≡◌ {A = Result TreeMap TreeFault} (Ok s) (Ok t) → s ≡ t
one_value s t is = cc

-- a file that is put by one name is at that name
put_gives : (d new : TreeMap) (n : List ℕ) (m : MetaValue) (content : List ℕ) → put_file d (n ∷ []) m content ≡ Ok new
    → finite.insert d (n ∷ []) (File m content) ≡ new
put_gives d new n m content is =
    let next : TreeMap = finite.insert d (n ∷ []) (File m content) in
    let (u, walks, rest) = bind_ok (walk (finite.get d) (n ∷ [])) (λ _. file_fits (finite.get d (n ∷ [])) >>= λ _. Ok next) new is in
    let (v, fits, same) = bind_ok (file_fits (finite.get d (n ∷ []))) (λ _. Ok next) new rest in
    one_value next new same

module _ (t : TreeMap) (tree : IsTree t) (p : List (List ℕ)) (e : Entry) (stands : IsRow (p, e)) (free : finite.get t p ≡ None) where
  -- a path at which the tree has nothing is not the root
  not_root : p ≢ []
  not_root at = let one : ◌≡◌ {A = Option Entry} None (Some (Dir tree.root.0)) = sym free ∙ ap (finite.get t) at ∙ tree.root.1 in absurd cc

  -- so the text of the path is that of its names
  text_is : (m : MetaValue) (o : Option (List ℕ)) (path : List ℕ) → (m, o, path) ≡ parts_from (p, e) → path ≡ names_text p
  text_is m o path same = ap (λ (f : Fields). f.2) same ∙ by_entry e ∙ path_names p not_root
    where
      by_entry : (e : Entry) → (parts_from (p, e)).2 ≡ path_text p
      by_entry (Dir k) = refl
      by_entry (File k c) = refl

  -- a file that is put in the directory by its name is in the tree
  pub puts_below : (above : TreeMap) (at : List (List ℕ)) (text : List ℕ) (dir new : TreeMap) (n : List ℕ) (m : MetaValue) (digits path content : List ℕ)
      → HasBelow t above at dir → text ≡ names_text at → IsPath at → is_name n ≡ true → path ≡ text ++ 47 ∷ n
      → (m, Some digits, path) ≡ parts_from (p, e) → bytes_in digits ≡ Some content → put_file dir (n ∷ []) m content ≡ Ok new
      → HasBelow (finite.insert t p e) above at new
  puts_below above at text dir new n m digits path content has place front name split parts read put =
      let here : p ≡ at ++ n ∷ [] = path_is p at n stands.allowed.path front name
      (sym (text_is m (Some digits) path parts) ∙ split ∙ ap (λ x. x ++ 47 ∷ n) place) in
      let own : e ≡ File m content = file_is p e m digits path content stands parts read in
      let more = with_more above at t dir (n ∷ []) (File m content) has in
      subst (λ d. HasBelow (finite.insert t p e) above at d) (put_gives dir new n m content put)
      (subst (λ x. HasBelow x above at (finite.insert dir (n ∷ []) (File m content))) (sym (λ i. finite.insert t (here i) (own i))) more)

-- ---- a row that goes to the whole tree

-- if nothing is at the path of the row that was read, the resulting tree has this row
abbrev More : Option Growing → Parts → TreeMap → List (List ℕ) × Entry → Type 0
More result x w read = IsTree w → finite.get w read.0 ≡ None → x.path.now ≡ names_text read.0 → put_row w read ≡ Ok (finite.insert w read.0 read.1)
    → IsGrownIfAny result (finite.insert w read.0 read.1)

-- so the resulting tree has the line's row, which is equal to the row that was read
pub row_more : (t w : TreeMap) (row read : List (List ℕ) × Entry) (x : Parts) (result : Option Growing) → w ≡ t → row ≡ read → Follows t row x
    → More result x w read → IsGrownIfAny result (finite.insert t row.0 row.1)
row_more t w row read x result same own follows more =
    let text = text_is t follows.tree row.0 row.1 follows.of.0 follows.free x.meta (option_map (λ digits. digits.now) x.digits) x.path.now follows.of.1 in
    subst (λ y. More result x y row) same (subst (More result x w) (sym own) more) follows.tree follows.free text follows.put
