-- A row that waits for one more input.
use Rattle.std.proofs.Common.{◌≡◌, ℕ, ◌<◌, ◌≤◌, Bool, false, List, [], ◌∷◌, ◌++◌, inl, inr, length, get_or, set, refl, sym, ◌∙◌, ap, subst, arith}
use Rattle.std.proofs.lemmas.Bool.{cases_lt}
use Rattle.std.proofs.lemmas.List.{length-map, map-set}
use Rattle.std.proofs.lemmas.List.Elements.{Contains-get_or}
use Rattle.std.specs.List.{Contains}
use Rattle.std.specs.Global.{Vec}
use Rattle.llb_loader.specs.declared.numbering.Waiter.{Waiter}
use Rattle.llb_loader.specs.ReachedRows.{lists, inputs}
use Rattle.llb_loader.specs.WaitingRows.{IsMarked, IsChecked, GoesToWaiting}
use Rattle.llb_loader.proofs.RowReadsAndMarks.{list_at}

-- a row whose first inputs are marked goes, by its first input that is not marked, to the rows that wait for this input
pub goes_to_waiting : (g : List (List ℕ)) (done : List Bool) (w : Waiter) (r : ℕ → Bool) (named : List ℕ) (at : ℕ)
    (items : List (Vec Waiter)) (old next : Vec Waiter)
    → named ≡ inputs g w.row → IsChecked g done w → at < length named
    → ((i : ℕ) → w.checked ≤ i → i < at → IsMarked done (get_or named i 0)) → get_or done (get_or named at 0) false ≡ false
    → get_or named at 0 < length items → old ≡ get_or items (get_or named at 0) old → next.items ≡ old.items ++ record { row = w.row; checked = at } ∷ []
    → GoesToWaiting g done w r r (lists items) (lists (set items (get_or named at 0) next)) (get_or named at 0) (record { row = w.row; checked = at })
goes_to_waiting g done w r named at items old next names c h passed stops below is pushed = record {
  edge = subst (λ (xs : List ℕ). Contains xs (get_or named at 0)) names (Contains-get_or named at 0 h);
  open_input = stops;
  row = refl;
  checked = record {
    within = (let e = ap length names in omega (arith, e, h));
    passed = λ i l. elim (cases_lt i w.checked) [
      | inl a ↦ c.passed i a
      | inr a ↦ subst (λ (xs : List ℕ). IsMarked done (get_or xs i 0)) names (passed i a l)
    ];
  };
  same = λ q. refl;
  below = (let e = length-map items (λ (v : Vec Waiter). v.items) in omega (arith, e, below));
  pushed = map-set (λ (v : Vec Waiter). v.items) items (get_or named at 0) next
      ∙ ap (λ (xs : List Waiter). set (lists items) (get_or named at 0) xs)
      (pushed ∙ ap (λ (xs : List Waiter). xs ++ record { row = w.row; checked = at } ∷ []) (sym (list_at items (get_or named at 0) old below is)));
}
