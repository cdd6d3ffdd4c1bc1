-- Directories one below the other: a tree of them that is put at a path is what making them there one by one gives.
use denote.Param.Weighed.{most}
use Rattle.std.proofs.Common.{◌≡◌, ℕ, ◌+◌, ◌≤◌, Bool, true, false, cond, List, [], ◌∷◌, ◌++◌, length, map, Option}
use Rattle.std.proofs.Common.{Some, None, is_some, option_map, Result, Ok, Err, refl, sym, ap, subst, ◌∙◌, true≢false, arith}
use Rattle.std.proofs.Common.{length-append, append_assoc}
use Rattle.std.proofs.lemmas.Bool.{le-ltb}
use Rattle.std.proofs.lemmas.List.{append-nil}
use Rattle.std.specs.Ordering.{is_eq, eq_by_cmp}
use Rattle.std.specs.Result.{OnOk}
use Rattle.std.specs.FinMap as finite
use Rattle.llb_wire.specs.CallResults.{◌>>=◌}
use Rattle.llb_wire.proofs.RuleComposition.{bind_ok}
use Rattle.llb_tree.specs.Path.{path_cmp, is_within}
use Rattle.llb_tree.specs.PathOrder.{path_cmp-IsTotalOrder, path_cmp-IsAntisymmetric, same_path}
use Rattle.llb_tree.specs.Tree.{Entry, Dir, TreeMap, new_dir_meta, walk, dir_fits, put_dir, is_dir, height}
use Rattle.llb_tree.specs.Tree.{places_fit, with_tree}
use Rattle.llb_tree.specs.Tree.{graft, empty_tree, Gives, IsTree}
use Rattle.llb_tree.specs.TreeHeights.{height_le}
use Rattle.llb_tree.proofs.WalkByName.{put_dir-Ok}
use Rattle.llb_tree.proofs.GraftedTrees.{walk_to, walk_joined}
use Rattle.llb_tree.proofs.EditedMaps.{by_place, tied_below, apart, none_below}
use Rattle.llb_tree.proofs.PathsBelow.{within-append, cmp-append}
use Rattle.llb_tree.specs.declared.fault.TreeFault.{TreeFault}
use Rattle.llb_tree.specs.declared.fault.TreeFault.TheVariants.{BadName}
use Rattle.llb_applet.specs.PathsInMounts.{dir_at, dirs_below, put_then_below}

one_value : (s t : TreeMap) → ◌≡◌ {A = Result TreeMap TreeFault} (Ok s) (Ok t) → s ≡ t
one_value s t is = cc

-- ---- a directory that is made

made_ok : (t : TreeMap) (p : List (List ℕ)) (new : TreeMap) → put_dir t p new_dir_meta ≡ Ok new
    → (walk (finite.get t) p ≡ Ok tt) × (dir_fits (finite.get t p) ≡ Ok tt) × (finite.insert t p (Dir new_dir_meta) ≡ new)
made_ok t p new is =
    let next : TreeMap = finite.insert t p (Dir new_dir_meta) in
    let (u, walks, rest) = bind_ok (walk (finite.get t) p) (λ _. dir_fits (finite.get t p) >>= λ _. Ok next) new is in
    let (v, fits, same) = bind_ok (dir_fits (finite.get t p)) (λ _. Ok next) new rest in
    (walks, fits, one_value next new same)

-- ---- a tree with another one at a path

-- tree s has at and below path p what tree c has from its root down, and elsewhere what tree t has; the paths of c have at most n names
record HasBelow (t : TreeMap) (p : List (List ℕ)) (n : ℕ) (s c : TreeMap) : Type 0 where
  inside : (q : List (List ℕ)) → finite.get s (p ++ q) ≡ finite.get c q
  outside : (q : List (List ℕ)) → is_within p q ≡ false → finite.get s q ≡ finite.get t q
  short : (q : List (List ℕ)) → is_some (finite.get c q) ≡ true → length q ≤ n

module _ (t : TreeMap) (p : List (List ℕ)) (n : ℕ) where
  -- `HasBelow` still holds after a directory is put at path x of tree c, and at path x below p of tree s
  with_more : (s c : TreeMap) (x : List (List ℕ)) → HasBelow t p n s c → length x ≤ n
      → HasBelow t p n (finite.insert s (p ++ x) (Dir new_dir_meta)) (finite.insert c x (Dir new_dir_meta))
  with_more s c x has le = record {
    inside = λ q. finite.get-insert path_cmp-IsTotalOrder s (p ++ x) (Dir new_dir_meta) (p ++ q)
        ∙ (λ i. cond (is_eq (cmp-append p q x i)) (Some (Dir new_dir_meta)) (has.inside q i))
        ∙ sym (finite.get-insert path_cmp-IsTotalOrder c x (Dir new_dir_meta) q);
    outside = λ q out. finite.get-insert path_cmp-IsTotalOrder s (p ++ x) (Dir new_dir_meta) q ∙ beside q out (eq_by_cmp path_cmp q (p ++ x)) refl;
    short = λ q there. within q (eq_by_cmp path_cmp q x) refl
        (sym (ap is_some (finite.get-insert path_cmp-IsTotalOrder c x (Dir new_dir_meta) q)) ∙ there);
  }
    where
      beside : (q : List (List ℕ)) → is_within p q ≡ false → (b : Bool) → eq_by_cmp path_cmp q (p ++ x) ≡ b
          → cond b (Some (Dir new_dir_meta)) (finite.get s q) ≡ finite.get t q
      beside q out false is = has.outside q out
      beside q out true is =
          absurd (true≢false (sym (within-append p x) ∙ ap (is_within p) (sym (same_path q (p ++ x) is)) ∙ out))

      within : (q : List (List ℕ)) (b : Bool) → eq_by_cmp path_cmp q x ≡ b → is_some (cond b (Some (Dir new_dir_meta)) (finite.get c q)) ≡ true → length q ≤ n
      within q false is there = has.short q there
      within q true is there = subst (λ y. length y ≤ n) (sym (same_path q x is)) le

  -- `HasBelow` holds for tree t with one new directory at the free path p, and for the empty tree, which has only its root
  at_first : IsTree t → finite.get t p ≡ None → HasBelow t p n (finite.insert t p (Dir new_dir_meta)) empty_tree
  at_first tree none = record {
    inside = λ q. finite.get-insert path_cmp-IsTotalOrder t p (Dir new_dir_meta) (p ++ q)
        ∙ (λ i. cond (tied_below p q i) (Some (Dir new_dir_meta)) ((none_below t p q tree none ∙ sym (finite.get-empty path_cmp q)) i))
        ∙ sym (finite.get-insert path_cmp-IsTotalOrder finite.empty [] (Dir new_dir_meta) q);
    outside = λ q out. finite.get-insert path_cmp-IsTotalOrder t p (Dir new_dir_meta) q
        ∙ ap (λ b. cond b (Some (Dir new_dir_meta)) (finite.get t q)) (apart p q out);
    short = λ q there. within q (eq_by_cmp path_cmp q []) refl
        (sym (ap is_some (finite.get-insert path_cmp-IsTotalOrder finite.empty [] (Dir new_dir_meta) q)) ∙ there);
  }
    where
      within : (q : List (List ℕ)) (b : Bool) → eq_by_cmp path_cmp q [] ≡ b
          → is_some (cond b (Some (Dir new_dir_meta)) (finite.get (finite.empty {X = Entry} {R = path_cmp}) q)) ≡ true → length q ≤ n
      within q true is there = subst (λ y. length y ≤ n) (sym (same_path q [] is)) (omega arith)
      within q false is there = absurd (true≢false (sym there ∙ ap is_some (finite.get-empty path_cmp q)))

  module _ (to : walk (finite.get t) p ≡ Ok tt) where
    -- a directory that can be made at path x of tree c can be made at path x below p of tree s, and `HasBelow` holds for the two new trees
    one_made : (x : List (List ℕ)) (s c next : TreeMap) → length x ≤ n → HasBelow t p n s c → dir_at c x ≡ Ok next
        → (later : TreeMap) × (dir_at s (p ++ x) ≡ Ok later) × HasBelow t p n later next
    one_made x s c next le has = by_dir (is_dir (finite.get c x)) refl
      where
        by_dir : (b : Bool) → is_dir (finite.get c x) ≡ b → cond b (Ok c) (put_dir c x new_dir_meta) ≡ Ok next
            → (later : TreeMap) × (dir_at s (p ++ x) ≡ Ok later) × HasBelow t p n later next
        by_dir true is first = (
          s,
          ap (λ b. cond b (Ok s) (put_dir s (p ++ x) new_dir_meta)) (ap is_dir (has.inside x) ∙ is),
          subst (HasBelow t p n s) (one_value c next first) has,
        )
        by_dir false is first =
            let (walks, fits, same) = made_ok c x next first in (
              finite.insert s (p ++ x) (Dir new_dir_meta),
              ap (λ b. cond b (Ok s) (put_dir s (p ++ x) new_dir_meta)) (ap is_dir (has.inside x) ∙ is)
                  ∙ put_dir-Ok s (p ++ x) new_dir_meta (walk_joined (finite.get s) p x
                  (sym (walk_to (finite.get t) (finite.get s) p (λ r out. sym (has.outside r out))) ∙ to)
                  (ap (λ look. walk look x) (λ i r. has.inside r i) ∙ walks)) (ap dir_fits (has.inside x) ∙ fits),
              subst (HasBelow t p n (finite.insert s (p ++ x) (Dir new_dir_meta))) same (with_more s c x has le),
            )

    all_made : (ns r : List (List ℕ)) (s c last : TreeMap) → length r + length ns ≤ n → HasBelow t p n s c → dirs_below c r ns ≡ Ok last
        → (later : TreeMap) × (dirs_below s (p ++ r) ns ≡ Ok later) × HasBelow t p n later last
    all_made [] r s c last le has is = (s, refl, subst (HasBelow t p n s) (one_value c last is) has)
    all_made (m ∷ ns) r s c last le has is =
        let x : List (List ℕ) = r ++ m ∷ [] in
        let (next, first, rest) = bind_ok (dir_at c x) (λ y. dirs_below y x ns) last is in
        let (made, here, more) = one_made x s c next (omega (arith, le, length-append r (m ∷ []))) has first in
        let (later, below, all) = all_made ns x made next last (omega (arith, le, length-append r (m ∷ []))) more rest in (
          later,
          ap (λ y. dir_at s y >>= λ z. dirs_below z y ns) (append_assoc p r (m ∷ []))
              ∙ ap (λ o. o >>= λ z. dirs_below z (p ++ x) ns) here ∙ below,
          all,
        )

-- paths that are short enough fit below another
fits_all : (p : List (List ℕ)) (es : List (List (List ℕ) × Entry)) → length p + most (λ (e : List (List ℕ) × Entry). length e.0 + 1) es ≤ 129
    → places_fit p (map (λ x. x.0) es) ≡ Ok tt
fits_all p [] le = refl
fits_all p (e ∷ es) le =
    ap (λ b. cond b (Err BadName) (places_fit p (map (λ x. x.0) es))) (le-ltb 128 (length p + length e.0) (omega arith)) ∙ fits_all p es (omega arith)

-- ---- the graft

module _ (t : TreeMap) (tree : IsTree t) (p ns : List (List ℕ)) (c new : TreeMap) (short : length p + length ns ≤ 128)
    (none : finite.get t p ≡ None) (chain : dirs_below empty_tree [] ns ≡ Ok c) where
  pub put_at_once : (r : Result (Unit {0}) TreeFault) → Gives (λ _. new) r (graft t p c)
      → OnOk r ((q : List (List ℕ)) → finite.get new (p ++ q) ≡ finite.get c q)
      → OnOk r ((q : List (List ℕ)) → is_within p q ≡ false → finite.get new q ≡ finite.get t q)
      → Gives (λ _. new) r (put_then_below t p ns)
  put_at_once r gives inside outside = by_walk (walk (finite.get t) p) refl
    where
      put : TreeMap
      put = finite.insert t p (Dir new_dir_meta)

      by_walk : (o : Result (Unit {0}) TreeFault) → walk (finite.get t) p ≡ o → Gives (λ _. new) r (put_then_below t p ns)
      by_walk (Err f) is = subst (Gives (λ _. new) r)
          (ap (λ o. o >>= λ _. places_fit p (finite.keys c) >>= λ _. Ok (with_tree t p c)) is
          ∙ sym (ap (λ o. (o >>= λ _. dir_fits (finite.get t p) >>= λ _. Ok put) >>= λ next. dirs_below next p ns) is)) gives
      by_walk (Ok u) is =
          let (s, made, has) = all_made t p (length ns) is ns [] put empty_tree c (omega arith) (at_first t p (length ns) tree none) chain in
          let deep : height c ≤ length ns + 1 = height_le c (length ns + 1) (λ q there. let le = has.short q there in omega (arith, le)) in
          let done : put_then_below t p ns ≡ Ok s = ap (λ o. o >>= λ next. dirs_below next p ns) (put_dir-Ok t p new_dir_meta is (ap dir_fits none))
          ∙ ap (λ x. dirs_below put x ns) (sym (append-nil p)) ∙ made in
          let granted : graft t p c ≡ Ok (with_tree t p c) = ap (λ o. o >>= λ _. places_fit p (finite.keys c) >>= λ _. Ok (with_tree t p c)) is
          ∙ ap (λ o. o >>= λ _. Ok (with_tree t p c)) (fits_all p (finite.entries c) (omega (arith, deep, short))) in
          by_answer r gives inside outside s has done granted
        where
          by_answer : (r : Result (Unit {0}) TreeFault) → Gives (λ _. new) r (graft t p c)
              → OnOk r ((q : List (List ℕ)) → finite.get new (p ++ q) ≡ finite.get c q)
              → OnOk r ((q : List (List ℕ)) → is_within p q ≡ false → finite.get new q ≡ finite.get t q)
              → (s : TreeMap) → HasBelow t p (length ns) s c → put_then_below t p ns ≡ Ok s → graft t p c ≡ Ok (with_tree t p c)
              → Gives (λ _. new) r (put_then_below t p ns)
          by_answer (Ok v) gives in' out s has done granted =
              done ∙ ap Ok (finite.same_map path_cmp-IsTotalOrder path_cmp-IsAntisymmetric s new (by_place p
              (λ q. finite.get s q ≡ finite.get new q) (λ q. has.inside q ∙ sym (in' q)) (λ q far. has.outside q far ∙ sym (out q far))))
          by_answer (Err e) gives in' out s has done granted = λ other.
              let e : ◌≡◌ {A = Result TreeMap TreeFault} (Ok (with_tree t p c)) (Err e) = sym granted ∙ gives other in absurd cc

-- where the test `is_some` of a value fails, there is no entry made of this value
pub not_there : {X : Type 0} (f : X → Entry) (o : Option X) (e : Option Entry) (b : Bool) → b ≡ is_some o → b ≡ false → option_map f o ≡ e → e ≡ None
not_there f None e b is without same = sym same
not_there f (Some x) e b is without same = absurd (true≢false (sym is ∙ without))
