-- A text of lines, each the line of an item of a list: the lines `done` of the first items, and the lines of the items that are left.
use Rattle.std.proofs.Common.{◌≡◌, ℕ, Bool, true, false, List, [], ◌∷◌, ◌++◌, drop, refl, sym, ap, subst, ◌∙◌, true≢false, append_assoc}
use Rattle.std.specs.Prelude.{Option, Some, None, Result, Ok, Err, is_err, slice_get}
use Rattle.std.specs.Result.{IsErrAnd}
use Rattle.std.specs.List.{flat_map}
use Rattle.std.specs.Io.KnownBytes.{Appends}
use Rattle.std.proofs.lemmas.List.{append-nil}
use Rattle.llb_wire.proofs.ConsecutiveTexts.{part_then, part_after}
use Rattle.llb_tree.specs.Tree.{Gives}
use Rattle.llb_tree.specs.declared.fault.TreeFault.{TreeFault}
use Rattle.llb_treetext.specs.WrittenPrefix.{Writes}

-- a step that did not fail has its rule's result
pub advanced : {A : Type 0} (r : Result (Unit {0}) TreeFault) (next new : A) → Gives (λ _. new) r (Ok next) → is_err r ≡ false → new ≡ next
advanced (Ok u) next new gives fine = let same : new ≡ next = cc in same
advanced (Err e) next new gives fine = absurd (true≢false fine)

module _ {A : Type 0} (line : A → List ℕ) (text done : List ℕ) (es : List A) (parts : text ≡ done ++ flat_map line es) where
  first_left : (e : A) → Some e ≡ slice_get es 0 → text ≡ done ++ (line e ++ flat_map line (drop 1 es))
  first_left e is = parts ∙ ap (λ l. done ++ l) (by_items es is)
    where
      by_items : (es : List A) → Some e ≡ slice_get es 0 → flat_map line es ≡ line e ++ flat_map line (drop 1 es)
      by_items [] is = absurd cc
      by_items (x ∷ es) is = let same : e ≡ x = cc in ap (λ y. line y ++ flat_map line es) (sym same)

  -- with the line of the next item, one line more is done
  pub line_done : (e : A) → Some e ≡ slice_get es 0 → text ≡ (done ++ line e) ++ flat_map line (drop 1 es)
  line_done e is = first_left e is ∙ sym (append_assoc done (line e) (flat_map line (drop 1 es)))

  -- where no item is left, all is done
  pub all_done : None ≡ slice_get es 0 → text ≡ done
  all_done is = parts ∙ ap (λ xs. done ++ flat_map line xs) (by_items es is) ∙ append-nil done
    where
      by_items : (es : List A) → None ≡ slice_get es 0 → es ≡ []
      by_items [] is = refl
      by_items (x ∷ es) is = absurd cc

  module _ {F : Type 0} (is_memory : F → Bool) (a b : Option (List ℕ)) (before : Appends a b done) (failed : Bool) (fault : F) where
    -- if the next line is written in part only, a prefix of the text is written
    pub stops_inside : (c : Option (List ℕ)) (e : A) → Some e ≡ slice_get es 0 → Writes is_memory b c failed (line e) (Err fault)
        → (r : Result (Unit {0}) F) → IsErrAnd r (λ f. f ≡ fault) → Writes is_memory a c failed text r
    stops_inside c e is part (Ok u) same = absurd same
    stops_inside c e is part (Err f) same =
        let rest = flat_map line (drop 1 es) in
        subst (λ xs. Writes is_memory a c failed xs (Err f)) (sym (first_left e is)) (
          (λ other. part.0 (ap is_memory (sym same) ∙ other)),
          part_after a b c done (line e ++ rest) before (part_then b c (line e) rest part.1),
        )

    -- if memory is refused between two lines, the lines before are a prefix of the text
    pub stops_between : is_memory fault ≡ true → Writes is_memory a b failed text (Err fault)
    stops_between memory = ((λ other. absurd (true≢false (sym memory ∙ other))), (done, flat_map line es, parts, before))
