-- A micro-step of an execution that has not faulted.
use Rattle.std.proofs.Common.{◌≡◌, ℕ, zero, suc, inl, inr, ◌<◌, ◌≤◌, List, [], ◌∷◌, length, refl, ap, sym, ◌∙◌, arith}
use Rattle.std.specs.Prelude.{Bool, true, false, ◌||◌, Some, None, Ok, is_some, slice_get, nat_le, if◌then◌else◌}
use Rattle.std.proofs.lemmas.Bool.{le-leb, leb-true, cases_lt}
use Rattle.llb_tree.specs.Tree.{TreeMap}
use Rattle.llb_model.specs.Program.{MicroStep, step_on}
use Rattle.llb_model.specs.State.{Execution, next_step}
use Rattle.llb_execution.specs.ModelValues.{work_with}
use Rattle.llb_board.specs.WorkerRules.{worked, worked_by, worked_to}

past_none : {A : Type 0} (xs : List A) (k : ℕ) → length xs ≤ k → slice_get xs k ≡ None
past_none [] k past = refl
past_none (x ∷ xs) zero past = absurd (omega arith)
past_none (x ∷ xs) (suc k) past = past_none xs k (omega arith)

-- the micro-step at a number is the one in the list at that place; where the list has no such place, there is none
next_at : (steps : List MicroStep) (k : ℕ) → (if nat_le (length steps) k then None else slice_get steps k) ≡ slice_get steps k
next_at steps k = elim (cases_lt k (length steps)) [
  | inl lt ↦ ap (λ (b : Bool). if b then None else slice_get steps k) (not_le lt)
  | inr le ↦ ap (λ (b : Bool). if b then None else slice_get steps k) (le-leb _ _ le) ∙ sym (past_none steps k le)
]
  where
    not_le : k < length steps → nat_le (length steps) k ≡ false
    not_le lt = by_test (nat_le (length steps) k) refl
      where
        by_test : (b : Bool) → nat_le (length steps) k ≡ b → b ≡ false
        by_test false is = refl
        by_test true is = let le : length steps ≤ k = leb-true _ _ is in absurd (omega arith)

next_clean : (steps : List MicroStep) (x : Execution) → x.fault ≡ None → next_step steps x ≡ slice_get steps x.done
next_clean steps x clean =
    ap (λ f. if is_some f || nat_le (length steps) x.done then None else slice_get steps x.done) clean ∙ next_at steps x.done

-- where nothing has faulted, and there is a micro-step at the number of those done, it is the one that is done
pub goes_to : (steps : List MicroStep) (x : Execution) (ts : List TreeMap) (m : MicroStep) → x.fault ≡ None → slice_get steps x.done ≡ Some m
    → worked steps x ts ≡ Ok (worked_to x m (step_on x.done (Some m) (work_with x.own ts)))
goes_to steps x ts m clean at = ap (worked_by x ts) (next_clean steps x clean ∙ at)
