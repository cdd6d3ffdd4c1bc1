-- A granted copy of one source, path by path.
use Rattle.std.proofs.Common.{◌≡◌, ℕ, Bool, true, false, cond, ◌⊎◌, List, [], ◌∷◌, ◌++◌, map, length, Option, Some, None, Ok, refl, sym, ap}
use Rattle.std.proofs.Common.{subst, ◌∙◌, inl, inr, arith, length-append}
use Rattle.std.specs.Ordering.{eq_by_cmp}
use Rattle.std.specs.FinMap as finite
use Rattle.llb_wire.specs.CallResults.{◌>>=◌}
use Rattle.llb_wire.proofs.RuleComposition.{bind_ok}
use Rattle.llb_ops.specs.declared.actions.CopyFile.{CopyFile}
use Rattle.llb_tree.specs.Path.{path_cmp, is_within}
use Rattle.llb_tree.specs.PathOrder.{path_cmp-IsTotalOrder, same_path}
use Rattle.llb_tree.specs.ModeAndOwner.{MetaValue, new_dir_meta}
use Rattle.llb_tree.specs.Tree.{TreeMap, Entry, Dir, File, tree_at, parents, walk, dir_fits}
use Rattle.llb_fileop.specs.Owners.{copied}
use Rattle.llb_fileop.specs.Making.{kept_or_made, make_all}
use Rattle.llb_fileop.specs.Copying.{fits, all_land, laid_on, land, at_target, parents_for, copy_to}
use Rattle.llb_fileop.specs.CopyPlacement.{laid}
use Rattle.llb_fileop.specs.CopyLaws.{IsCopied}
use Rattle.llb_fileop.proofs.ResultEqualities.{same_Ok}
use Rattle.llb_tree.proofs.SubtreeEntries.{get-tree_at}
use Rattle.llb_tree.proofs.PathsBelow.{within-append}
use Rattle.llb_tree.proofs.GraftedTrees.{find_moved}
use Rattle.llb_fileop.proofs.PathOrderTraversal.{Pair}
use Rattle.llb_fileop.proofs.TreeOverlays.{get-laid_on}
use Rattle.llb_fileop.proofs.EntryRelocation.{find_beside, target_dir}

-- ---- what lands at a place

find_target : (second : TreeMap) (s goal q : List (List ℕ)) → finite.find path_cmp (goal ++ q) (at_target second s goal) ≡ finite.get second (s ++ q)
find_target second s goal q =
    ap (finite.find path_cmp (goal ++ q)) (sym (target_dir second s goal))
    ∙ find_moved goal q (finite.entries (tree_at second s))
    ∙ sym (finite.get-entries (tree_at second s) q)
    ∙ get-tree_at second s q

none_beside : (second : TreeMap) (s goal q : List (List ℕ)) → is_within goal q ≡ false → finite.find path_cmp q (at_target second s goal) ≡ None
none_beside second s goal q beside = ap (finite.find path_cmp q) (sym (target_dir second s goal))
    ∙ find_beside goal q (finite.entries (tree_at second s)) beside

-- ---- the parents that were made

abbrev Each : (List (List ℕ) → Type 0) → List (List (List ℕ)) → Type 0
Each P [] = Unit {0}
Each P (p ∷ ps) = P p × Each P ps

-- at a path there was nothing, and there is a directory now
record IsMadeHere (P : List (List ℕ) → Type 0) (m : MetaValue) (t u : TreeMap) (q : List (List ℕ)) : Type 0 where
  one : P q
  was : finite.get t q ≡ None
  is : finite.get u q ≡ Some (Dir m)

made_there : (P : List (List ℕ) → Type 0) (m : MetaValue) (ps : List (List (List ℕ))) (t u : TreeMap) → Each P ps → make_all m ps t ≡ Ok u
    → (q : List (List ℕ)) → (finite.get u q ≡ finite.get t q) ⊎ IsMadeHere P m t u q
made_there P m [] t u each is q = inl (ap (λ x. finite.get x q) (sym (same_Ok is)))
made_there P m (p ∷ ps) t u each is q =
    let step = bind_ok (kept_or_made m p (finite.get t p) t) (make_all m ps) u is in
    by_there step.0 (finite.get t p) refl step.1 (made_there P m ps step.0 u each.1 step.2 q)
  where
    by_there : (v : TreeMap) (o : Option Entry) → finite.get t p ≡ o → kept_or_made m p o t ≡ Ok v → (finite.get u q ≡ finite.get v q) ⊎ IsMadeHere P m v u q
        → (finite.get u q ≡ finite.get t q) ⊎ IsMadeHere P m t u q
    by_there v (Some (File n b)) there made rest = absurd cc
    by_there v (Some (Dir n)) there made rest = subst (λ x. (finite.get u q ≡ finite.get x q) ⊎ IsMadeHere P m x u q) (sym (same_Ok made)) rest
    by_there v None there made rest =
        let walks = bind_ok (walk (finite.get t) p) (λ _. dir_fits (finite.get t p) >>= λ _. Ok (finite.insert t p (Dir m))) v made in
        let fit = bind_ok (dir_fits (finite.get t p)) (λ _. Ok (finite.insert t p (Dir m))) v walks.2 in
        let v_is : finite.insert t p (Dir m) ≡ v = same_Ok fit.2 in
        by_tie (eq_by_cmp path_cmp q p) refl
        (ap (λ x. finite.get x q) (sym v_is) ∙ finite.get-insert path_cmp-IsTotalOrder t p (Dir m) q) rest
      where
        by_tie : (b : Bool) → eq_by_cmp path_cmp q p ≡ b → finite.get v q ≡ cond (eq_by_cmp path_cmp q p) (Some (Dir m)) (finite.get t q)
            → (finite.get u q ≡ finite.get v q) ⊎ IsMadeHere P m v u q → (finite.get u q ≡ finite.get t q) ⊎ IsMadeHere P m t u q
        by_tie true tie v_q (inl same) =
            inr (record {
              one = subst P (sym (same_path q p tie)) each.0;
              was = ap (finite.get t) (same_path q p tie) ∙ there;
              is = same ∙ v_q ∙ ap (λ b. cond b (Some (Dir m)) (finite.get t q)) tie;
            })
        by_tie true tie v_q (inr made) =
            let no : None ≡ Some (Dir m) = sym made.was ∙ v_q ∙ ap (λ b. cond b (Some (Dir m)) (finite.get t q)) tie in absurd cc
        by_tie false tie v_q (inl same) = inl (same ∙ v_q ∙ ap (λ b. cond b (Some (Dir m)) (finite.get t q)) tie)
        by_tie false tie v_q (inr made) =
            inr (record { one = made.one; was = sym (v_q ∙ ap (λ b. cond b (Some (Dir m)) (finite.get t q)) tie) ∙ made.was; is = made.is })

-- a path is above another
record IsAbove (goal p : List (List ℕ)) : Type 0 where
  name : List ℕ
  rest : List (List ℕ)
  is : goal ≡ p ++ name ∷ rest

each_below : (n : List ℕ) (goal : List (List ℕ)) (ps : List (List (List ℕ))) → Each (IsAbove goal) ps → Each (IsAbove (n ∷ goal)) (map (λ q. n ∷ q) ps)
each_below n goal [] each = tt
each_below n goal (p ∷ ps) each = (record { name = each.0.name; rest = each.0.rest; is = ap (λ x. n ∷ x) each.0.is }, each_below n goal ps each.1)

parents_above : (goal : List (List ℕ)) → Each (IsAbove goal) (parents goal)
parents_above [] = tt
parents_above (n ∷ goal) = (record { name = n; rest = goal; is = refl }, each_below n goal (parents goal) (parents_above goal))

-- what is at or below a path stays when its parents are made
pub stays_below : (m : MetaValue) (goal : List (List ℕ)) (t v : TreeMap) → make_all m (parents goal) t ≡ Ok v
    → (q : List (List ℕ)) → finite.get v (goal ++ q) ≡ finite.get t (goal ++ q)
stays_below m goal t v is q = elim (made_there (IsAbove goal) m (parents goal) t v (parents_above goal) is (goal ++ q)) [
  | inl same ↦ same
  | inr above ↦ absurd (omega (arith, ap length above.one.is, length-append (goal ++ q) (above.one.name ∷ above.one.rest), length-append goal q))
]

-- the tree that the copy lands on is as it was below the target
pub record LandsOn (t v : TreeMap) (goal : List (List ℕ)) : Type 0 where
  pub below : (q : List (List ℕ)) → finite.get v (goal ++ q) ≡ finite.get t (goal ++ q)
  others : (q : List (List ℕ)) → (finite.get v q ≡ finite.get t q) ⊎ IsMadeHere (IsAbove goal) new_dir_meta t v q

-- making the parents of the target, or finding them, keeps what is at or below it
pub lands_on : (create : Bool) (goal : List (List ℕ)) (t v : TreeMap) → parents_for create goal t ≡ Ok v → LandsOn t v goal
lands_on false goal t v is =
    let same : t ≡ v = same_Ok (bind_ok (walk (finite.get t) goal) (λ _. Ok t) v is).2 in
    record { below = λ q. ap (λ x. finite.get x (goal ++ q)) (sym same); others = λ q. inl (ap (λ x. finite.get x q) (sym same)) }
lands_on true goal t v is =
    let made = made_there (IsAbove goal) new_dir_meta (parents goal) t v (parents_above goal) is in
    record {
      below = stays_below new_dir_meta goal t v is;
      others = made;
    }

-- ---- the copy

module _ (c : CopyFile) (second t u : TreeMap) (s goal : List (List ℕ)) (granted : copy_to c second s goal t ≡ Ok u) where
  abbrev given : MetaValue → MetaValue
  given = copied c.mode c.owner

  abbrev es : List Pair
  es = at_target second s goal

  -- a granted copy has the entries of the source at their places, and changes nothing else except the parents that it makes
  pub is_copied : IsCopied c second t u s goal
  is_copied =
      let fit = bind_ok (fits goal) (λ _. parents_for c.create_dest_path goal t >>= land given es) u granted in
      let on = bind_ok (parents_for c.create_dest_path goal t) (land given es) u fit.2 in
      let v = on.0 in
      let laid_is : laid_on given v es ≡ u = same_Ok (bind_ok (all_land v es) (λ _. Ok (laid_on given v es)) u on.2).2 in
      by_look v (lands_on c.create_dest_path goal t v on.1) (λ q. ap (λ x. finite.get x q) (sym laid_is) ∙ get-laid_on given v es q)
    where
      by_look : (v : TreeMap) → LandsOn t v goal
          → ((q : List (List ℕ)) → finite.get u q ≡ laid given (finite.get v q) (finite.find path_cmp q es)) → IsCopied c second t u s goal
      by_look v on look =
          let at : (q : List (List ℕ)) → finite.get u (goal ++ q) ≡ laid given (finite.get t (goal ++ q)) (finite.get second (s ++ q)) =
          λ q. look (goal ++ q) ∙ (λ i. laid given (on.below q i) (find_target second s goal q i)) in
          let files : (q : List (List ℕ)) (m : MetaValue) (bytes : List ℕ) → finite.get second (s ++ q) ≡ Some (File m bytes)
          → finite.get u (goal ++ q) ≡ Some (File (given m) bytes) =
          λ q m bytes is. at q ∙ ap (laid given (finite.get t (goal ++ q))) is ∙ over_file (finite.get t (goal ++ q)) m bytes in
          record {
            files = files;
            own = λ mode owner q m bytes is. files q m bytes is ∙ (λ i. Some (File (copied (mode i) (owner i) m) bytes));
            kept = λ q m n is there. at q ∙ (λ i. laid given (there i) (is i));
            made = λ q n is there. at q ∙ (λ i. laid given (there i) (is i));
            beside = λ q none. at q ∙ ap (laid given (finite.get t (goal ++ q))) none;
            outside = λ q beside.
                let same : finite.get u q ≡ finite.get v q = look q ∙ ap (laid given (finite.get v q)) (none_beside second s goal q beside) in
                elim (on.others q) [
                  | inl stays ↦ inl (same ∙ stays)
                  | inr made ↦ inr (record {
                    above = ap (is_within q) made.one.is ∙ within-append q (made.one.name ∷ made.one.rest);
                    was = made.was;
                    is = same ∙ made.is;
                  })
                ];
          }
        where
          over_file : (o : Option Entry) (m : MetaValue) (bytes : List ℕ) → laid given o (Some (File m bytes)) ≡ Some (File (given m) bytes)
          over_file None m bytes = refl
          over_file (Some (Dir n)) m bytes = refl
          over_file (Some (File n x)) m bytes = refl
