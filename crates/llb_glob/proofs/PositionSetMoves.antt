-- How an item moves the set of places of a name.
use Rattle.std.proofs.Common.{◌≡◌, ◌↔◌, ℕ, suc, ◌+◌, ◌-◌, ◌<◌, ◌≤◌, Bool, true, false, List, [], ◌∷◌, length, get_or, drop, sym, ap, ◌∙◌}
use Rattle.std.proofs.Common.{subst, inl, inr, set, replicate, add-one, drop-cons, arith}
use Rattle.std.proofs.Math.Seq.{drop-length}
use Rattle.std.proofs.lemmas.Bool.{cases_lt, false≢true}
use Rattle.std.proofs.lemmas.List.{drop-drop, drop_all, get_or-set_same, get_or-set_other, get_or-replicate, length-replicate}
use Rattle.llb_glob.specs.declared.item.Item.{Item}
use Rattle.llb_glob.specs.declared.item.Item.TheVariants.{Run, One}
use Rattle.llb_glob.specs.declared.item.Letter.{Letter}
use Rattle.llb_glob.specs.Matching.{Takes, MatchesName}
use Rattle.llb_glob.specs.PositionSets.{IsIn, Reaches, AreStarts}

-- at or after `start`, exactly the places from where one of the old set can be reached are in the new set; before it nothing has changed
pub record IsWidened (old new : List Bool) (start last : ℕ) : Type 0 where
  pub done : (i : ℕ) → start ≤ i → i ≤ last → IsIn new i ↔ Reaches old last i
  pub rest : (i : ℕ) → i < start → get_or new i false ≡ get_or old i false

-- before `upto`, exactly the places from where one character reaches one of the old set are in the new set; at or after it nothing has changed
pub record IsNarrowed (letter : Letter) (name : List ℕ) (old new : List Bool) (upto : ℕ) : Type 0 where
  pub done : (i : ℕ) → i < upto → IsIn new i ↔ (Takes letter (get_or name i 0) × IsIn old (i + 1))
  pub rest : (i : ℕ) → upto ≤ i → get_or new i false ≡ get_or old i false

module _ (items : List Item) (name : List ℕ) (old new : List Bool) (starts : AreStarts items name old) where
  -- the starts of the items with a run before them
  pub run_starts :
      ((i : ℕ) → i ≤ length name → IsIn new i ↔ Reaches old (length name) i)
      → AreStarts (Run ∷ items) name new
  run_starts moved = record {
    at = λ i within. (
      (λ in_new.
          let there = (moved i within).0 in_new in
          let matched : MatchesName items (drop there.0 name) = (starts.at there.0 there.2).0 there.3 in
          let same : there.0 ≡ i + (there.0 - i) = let from : i ≤ there.0 = there.1 in omega arith in
          (there.0 - i, subst (MatchesName items) (ap (λ n. drop n name) same ∙ sym (drop-drop (there.0 - i) i name)) matched)),
      (λ matched.
          (moved i within).1 (reaches i within matched.0 (subst (MatchesName items) (drop-drop matched.0 i name) matched.1))),
    );
  }
    where
      -- the rest of the name after a run begins at a place of the name, at its end where the run goes past it
      reaches : (i : ℕ) → i ≤ length name → (n : ℕ) → MatchesName items (drop (i + n) name) → Reaches old (length name) i
      reaches i within n matched =
          elim (cases_lt (length name) (i + n)) [
            | inl past ↦
                let ends : drop (i + n) name ≡ drop (length name) name = drop_all (i + n) name (omega arith) ∙ sym (drop-length name) in
                (length name, within, omega arith, (starts.at (length name) (omega arith)).1 (subst (MatchesName items) ends matched))
            | inr inside ↦ (i + n, omega arith, inside, (starts.at (i + n) inside).1 matched)
          ]

  -- the starts of the items with one character before them
  pub one_starts :
      (letter : Letter)
      → ((i : ℕ) → i < length name → IsIn new i ↔ (Takes letter (get_or name i 0) × IsIn old (i + 1)))
      → (IsIn new (length name) → ⊥)
      → AreStarts (One letter ∷ items) name new
  one_starts letter moved ended = record {
    at = λ i within.
        elim (cases_lt i (length name)) [
          | inl before ↦
              let here : drop i name ≡ get_or name i 0 ∷ drop (i + 1) name = rw add-one (drop-cons name i 0 before) in
              let behind = starts.at (i + 1) (omega arith) in
              subst (λ rest. IsIn new i ↔ MatchesName (One letter ∷ items) rest) (sym here)
              ((λ in_new. let m = (moved i before).0 in_new in (m.0, behind.0 m.1)), (λ m. (moved i before).1 (m.0, behind.1 m.1)))
          | inr past ↦
              let ends : drop i name ≡ [] = drop_all i name past in
              let same : i ≡ length name = omega arith in
              subst (λ rest. IsIn new i ↔ MatchesName (One letter ∷ items) rest) (sym ends)
              ((λ in_new. ended (subst (IsIn new) same in_new)), (λ none. absurd none))
        ];
  }

-- no item is left: the rest of the name is empty at its end alone
pub end_starts :
    (name : List ℕ) (places : List Bool)
    → ((i : ℕ) → i < length name → IsIn places i → ⊥)
    → IsIn places (length name)
    → AreStarts [] name places
end_starts name places before there = record {
  at = λ i within.
      elim (cases_lt i (length name)) [
        | inl inside ↦
            let here : drop i name ≡ get_or name i 0 ∷ drop (suc i) name = drop-cons name i 0 inside in
            subst (λ rest. IsIn places i ↔ MatchesName [] rest) (sym here)
            ((λ in_set. before i inside in_set), (λ none. absurd none))
        | inr past ↦
            let ends : drop i name ≡ [] = drop_all i name past in
            let same : i ≡ length name = omega arith in
            subst (λ rest. IsIn places i ↔ MatchesName [] rest) (sym ends)
            ((λ in_set. tt), (λ _. subst (IsIn places) (sym same) there))
      ];
}

-- before the first item the end of the name is the only place
pub first_starts : (name : List ℕ) (n : ℕ) → length name < n → AreStarts [] name (set (replicate n false) (length name) true)
first_starts name n fits =
    let none = replicate n false in
    let outside : (i : ℕ) → i < length name → get_or (set none (length name) true) i false ≡ false =
    λ i inside. get_or-set_other none (length name) i true false (omega arith) ∙ get_or-replicate n i false false (omega arith) in
    end_starts name (set none (length name) true)
    (λ i inside in_set. false≢true (sym (outside i inside) ∙ in_set))
    (get_or-set_same none (length name) true false (rw length-replicate fits))

-- one more item before the items that are left
pub starts_back :
    (items : List Item) (k : ℕ) (d : Item) (name : List ℕ) (old new : List Bool)
    → 0 < k
    → k ≤ length items
    → ((rest : List Item) → AreStarts rest name old → AreStarts (get_or items (k - 1) d ∷ rest) name new)
    → AreStarts (drop k items) name old
    → AreStarts (drop (k - 1) items) name new
starts_back items k d name old new some within moved starts =
    let here : drop (k - 1) items ≡ get_or items (k - 1) d ∷ drop (suc (k - 1)) items = drop-cons items (k - 1) d (omega arith) in
    let behind : suc (k - 1) ≡ k = omega arith in
    subst (λ rest. AreStarts rest name new) (ap (λ n. get_or items (k - 1) d ∷ drop n items) (sym behind) ∙ sym here) (moved (drop k items) starts)
