-- Two trees that have the same entries at and below a path: by the entry at the path, and by the trees of what is below it; and for each path that matches a
-- pattern.
use Rattle.std.proofs.Common.{◌≡◌, ◌↔◌, ℕ, suc, ◌<◌, Bool, true, false, cond, List, [], ◌∷◌, ◌++◌, length, drop, map, get_or, Option, Some, None, Ok, Err}
use Rattle.std.proofs.Common.{IsTrue, IfOk}
use Rattle.std.specs.Prelude.{Result}
use Rattle.std.proofs.Common.{refl, sym, ap, subst, ◌∙◌, arith}
use Rattle.std.proofs.lemmas.List.{append-nil, get_or_default}
use Rattle.std.proofs.lemmas.List.Elements.{All-contains, filter_passes}
use Rattle.std.specs.List.{Contains, filter}
use Rattle.std.specs.Ordering.{eq_by_cmp}
use Rattle.std.specs.FinMap as finite
use Rattle.llb_tree.specs.Path.{path_cmp, path_of}
use Rattle.llb_tree.specs.PathOrder.{path_cmp-IsTotalOrder, path_cmp-IsAntisymmetric, same_path}
use Rattle.llb_tree.specs.Tree.{TreeMap, Entry, Dir, File, IsTree, file_fits, is_dir}
use Rattle.llb_tree.proofs.EditedMaps.{nothing_below}
use Rattle.llb_tree.proofs.PathsBelow.{within_split, within-append, within_itself}
use Rattle.llb_glob.specs.declared.item.Item.{Item}
use Rattle.llb_glob.specs.Matching.{path_matches}
use Rattle.llb_fileop.specs.Removing.{matching}
use Rattle.llb_fileop.specs.Copying.{Chosen, OnePath, EachMatch, chosen_by}
use Rattle.llb_fileop.specs.declared.fault.ActFault.{ActFault}
use Rattle.llb_fileop.specs.CallResults.{on_tree, on_pattern}
use Rattle.llb_ops.specs.declared.actions.CopyFile.{CopyFile}
use Rattle.llb_wire.specs.CallResults.{◌>>=◌}
use Rattle.llb_glob.specs.Pattern.{pattern_of}
use Rattle.llb_fileop.proofs.PathOrderTraversal.{Pair}
use Rattle.llb_laws.specs.CopiedPaths.{AgreeBelow, AgreeOn, AgreeFor}

-- trees that agree at and below a path have the same entry at it
pub agree_here : (t u : TreeMap) (p : List (List ℕ)) → AgreeBelow t u p → finite.get t p ≡ finite.get u p
agree_here t u p agree = agree p (within_itself p)

-- trees agree at and below a path at which they have the same entry, if this is no directory
pub agree_beside : (t u : TreeMap) (p : List (List ℕ)) → IsTree t → IsTree u → finite.get t p ≡ finite.get u p → is_dir (finite.get t p) ≡ false
    → AgreeBelow t u p
agree_beside t u p tree other same none q below =
    let split = within_split p q below in
    ap (finite.get t) split ∙ by_rest (drop (length p) q) ∙ sym (ap (finite.get u) split)
  where
    fits : (o : Option Entry) → is_dir o ≡ false → file_fits o ≡ Ok tt
    fits None is = refl
    fits (Some (File m b)) is = refl
    fits (Some (Dir m)) is = absurd cc

    by_rest : (r : List (List ℕ)) → finite.get t (p ++ r) ≡ finite.get u (p ++ r)
    by_rest [] = ap (finite.get t) (append-nil p) ∙ same ∙ sym (ap (finite.get u) (append-nil p))
    by_rest (n ∷ r) =
        nothing_below t p n r tree (fits (finite.get t p) none)
        ∙ sym (nothing_below u p n r other (fits (finite.get u p) (ap is_dir (sym same) ∙ none)))

-- trees agree at and below a path exactly if the trees of what is there are equal
pub agree_by_trees : (t u a b : TreeMap) (p : List (List ℕ)) → ((q : List (List ℕ)) → finite.get a q ≡ finite.get t (p ++ q))
    → ((q : List (List ℕ)) → finite.get b q ≡ finite.get u (p ++ q)) → (a ≡ b) ↔ AgreeBelow t u p
agree_by_trees t u a b p first second = (
  λ same q below.
      let split = within_split p q below in
      ap (finite.get t) split ∙ sym (first (drop (length p) q)) ∙ ap (λ x. finite.get x (drop (length p) q)) same ∙ second (drop (length p) q)
      ∙ sym (ap (finite.get u) split),
  λ agree. finite.same_map path_cmp-IsTotalOrder path_cmp-IsAntisymmetric a b (λ q. first q ∙ agree (p ++ q) (within-append p q) ∙ sym (second q)),
)

-- ---- paths that match a pattern

-- a path that passes a test, and at which an entry is found, is among the paths that pass it
found_contained : (test : List (List ℕ) → Bool) (es : List Pair) (p : List (List ℕ)) (e : Entry) → finite.find path_cmp p es ≡ Some e → test p ≡ true
    → Contains (filter test (map (λ (x : Pair). x.0) es)) p
found_contained test [] p e is passes = absurd cc
found_contained test (x ∷ es) p e is passes = by_tie (eq_by_cmp path_cmp p x.0) refl is (found_contained test es p e)
  where
    rest : List (List (List ℕ))
    rest = filter test (map (λ (y : Pair). y.0) es)

    later : (b : Bool) → Contains rest p → Contains (cond b (x.0 ∷ rest) rest) p
    later true c = (suc c.0, omega (arith, c.1), c.2)
    later false c = c

    by_tie : (b : Bool) → eq_by_cmp path_cmp p x.0 ≡ b → cond b (Some x.1) (finite.find path_cmp p es) ≡ Some e
        → (finite.find path_cmp p es ≡ Some e → test p ≡ true → Contains rest p) → Contains (cond (test x.0) (x.0 ∷ rest) rest) p
    by_tie true tie there more =
        subst (λ b. Contains (cond b (x.0 ∷ rest) rest) p) (sym passes ∙ ap test (same_path p x.0 tie)) (0, omega arith, sym (same_path p x.0 tie))
    by_tie false tie there more = later (test x.0) (more there passes)

-- trees agree on a pattern if they agree at and below each path of either that matches it
pub agree_on_both : (t u : TreeMap) (pattern : List (List Item)) → IsTree t → IsTree u
    → ((p : List (List ℕ)) → Contains (matching pattern t) p → AgreeBelow t u p)
    → ((p : List (List ℕ)) → Contains (matching pattern u) p → AgreeBelow t u p) → AgreeOn t u (EachMatch pattern)
agree_on_both t u pattern tree other first second p is = by_first (finite.get t p) refl
  where
    contained : (v : TreeMap) (e : Entry) → finite.get v p ≡ Some e → Contains (matching pattern v) p
    contained v e there = found_contained (path_matches pattern) (finite.entries v) p e (sym (finite.get-entries v p) ∙ there) is

    by_second : finite.get t p ≡ None → (o : Option Entry) → finite.get u p ≡ o → AgreeBelow t u p
    by_second none (Some e) there = second p (contained u e there)
    by_second none None also = agree_beside t u p tree other (none ∙ sym also) (ap is_dir none)

    by_first : (o : Option Entry) → finite.get t p ≡ o → AgreeBelow t u p
    by_first (Some e) there = first p (contained t e there)
    by_first None none = by_second none (finite.get u p) refl

-- trees that agree on a pattern do so at and below each path that matches it
pub agree_on_each : (t u v : TreeMap) (pattern : List (List Item)) → AgreeOn t u (EachMatch pattern)
    → (p : List (List ℕ)) → Contains (matching pattern v) p → AgreeBelow t u p
agree_on_each t u v pattern agree p there =
    agree p (All-contains (λ q. path_matches pattern q ≡ true) (matching pattern v) p (filter_passes (path_matches pattern) (finite.keys v)) there)

-- what each place of a list of paths has holds of each path in it
pub each_path : (P : List (List ℕ) → Type 0) (ps : List (List (List ℕ))) → ((k : ℕ) → k < length ps → P (get_or ps k [])) → (p : List (List ℕ))
    → Contains ps p → P p
each_path P ps each p c = subst P (get_or_default ps c.0 [] p c.1 ∙ c.2) (each c.0 c.1)

-- ---- what a copy chooses

-- trees agree on what an action chooses exactly if they agree for the action
pub agree_by_choice : (c : CopyFile) (t u : TreeMap) (chosen : Chosen) → chosen_by c ≡ Ok chosen → AgreeOn t u chosen ↔ AgreeFor c t u
agree_by_choice c t u chosen is = (
  λ agree other by.
      let ok : ◌≡◌ {A = Result Chosen ActFault} (Ok chosen) (Ok other) = sym is ∙ by in
      let same : chosen ≡ other = cc in subst (AgreeOn t u) same agree,
  λ agree. agree chosen is,
)

pub choice_of_pattern : (c : CopyFile) (pattern : List (List Item)) → c.allow_wildcard ≡ true → pattern_of c.src ≡ Ok pattern
    → chosen_by c ≡ Ok (EachMatch pattern)
choice_of_pattern c pattern wild is =
    ap (λ b. cond b (on_pattern (pattern_of c.src) >>= λ p. Ok (EachMatch p)) (on_tree (path_of c.src) >>= λ p. Ok (OnePath p))) wild
    ∙ ap (λ r. on_pattern r >>= λ p. Ok (EachMatch p)) is

pub choice_of_path : (c : CopyFile) (path : List (List ℕ)) → c.allow_wildcard ≡ false → path_of c.src ≡ Ok path → chosen_by c ≡ Ok (OnePath path)
choice_of_path c path plain is =
    ap (λ b. cond b (on_pattern (pattern_of c.src) >>= λ p. Ok (EachMatch p)) (on_tree (path_of c.src) >>= λ p. Ok (OnePath p))) plain
    ∙ ap (λ r. on_tree r >>= λ p. Ok (OnePath p)) is

-- a test that decides one fact decides another that holds exactly then, unless memory was refused
pub with_ok : {E : Type 0} (r : Result Bool E) (P Q : Type 0) → P ↔ Q → IfOk r (λ is. IsTrue is ↔ P) → IfOk r (λ is. IsTrue is ↔ Q)
with_ok (Ok is) P Q both h = (λ yes. both.0 (h.0 yes), λ q. h.1 (both.1 q))
with_ok (Err e) P Q both h = tt
