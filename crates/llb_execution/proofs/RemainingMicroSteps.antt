-- All micro-steps that are left of a program: those that are done so far, and where no more are left.
use Rattle.std.proofs.Common.{◌≡◌, ℕ, zero, suc, ◌+◌, ◌-◌, ◌<◌, ◌≤◌, ◌||◌, true, false, List, length, Option, Some, None, refl, sym, ap}
use Rattle.std.proofs.Common.{subst, ◌∙◌, arith, Bool}
use Rattle.std.specs.Prelude.{slice_get, nat_le, is_some}
use Rattle.std.specs.List.{All}
use Rattle.std.proofs.lemmas.Bool.{leb-true, le-leb}
use Rattle.std.proofs.lemmas.Option.{slice_get_within}
use Rattle.llb_events.specs.declared.fault.VertexFault.{VertexFault}
use Rattle.llb_tree.specs.Tree.{TreeMap}
use Rattle.llb_model.specs.Caches.{Distinct}
use Rattle.llb_model.specs.Program.{MicroStep, Workspace, Left, step_on, go_on}
use Rattle.llb_model.specs.Landing.{AreThere, AreLeft, further, is_over}
use Rattle.llb_model.proofs.Landing.{further_last, one_more_there, go_clean}
use Rattle.llb_execution.specs.ModelValues.{left_with, work_with, mounts_in, shown_in}

-- the micro-steps before number k are done, and none has faulted
pub record AreDone (steps : List MicroStep) (done : ℕ) (first : Workspace) (trees : List TreeMap) (k : ℕ) (workspace : Workspace)
    (now : List TreeMap) : Type 0 where
  pub low : done ≤ k
  pub there : AreThere steps done (left_with first trees None) (k - done)
  pub left : left_with workspace now None ≡ further steps done (left_with first trees None) (k - done)
  pub mounts : mounts_in workspace ≡ mounts_in first
  pub shown : shown_in workspace ≡ shown_in first
  pub count : length now ≡ length (shown_in first)

pub none_done : (steps : List MicroStep) (done : ℕ) (first : Workspace) (trees : List TreeMap) → length trees ≡ length (shown_in first)
    → AreDone steps done first trees done first trees
none_done steps done first trees count =
    let none : zero ≡ done - done = omega arith in
    record {
      low = omega arith;
      there = subst (λ (n : ℕ). AreThere steps done (left_with first trees None) n) none tt;
      left = ap (further steps done (left_with first trees None)) none;
      mounts = refl;
      shown = refl;
      count = count;
    }

-- what a workspace is to be like for a micro-step
pub record Fits (workspace : Workspace) : Type 0 where
  pub apart : Distinct (shown_in workspace)
  pub within : All (λ n. n < mounts_in workspace) (shown_in workspace)

pub still_fits : (first workspace : Workspace) → Fits first → mounts_in workspace ≡ mounts_in first → shown_in workspace ≡ shown_in first → Fits workspace
still_fits first workspace fits mounts shown = record {
  apart = subst Distinct (sym shown) fits.apart;
  within = subst (λ (n : ℕ). All (λ m. m < n) (shown_in workspace)) (sym mounts)
      (subst (λ (ms : List ℕ). All (λ m. m < mounts_in first) ms) (sym shown) fits.within);
}

within_not : (n k : ℕ) → k < n → nat_le n k ≡ false
within_not n k low = go (nat_le n k) refl
  where
    go : (b : Bool) → nat_le n k ≡ b → b ≡ false
    go false is = refl
    go true is = let le : n ≤ k = leb-true n k is in absurd (omega (arith, le, low))

module _ (steps : List MicroStep) (done : ℕ) (first : Workspace) (trees : List TreeMap) (k : ℕ) (workspace : Workspace) (now : List TreeMap)
    (are : AreDone steps done first trees k workspace now) where
  begun : Left
  begun = left_with first trees None

  place : done + (k - done) ≡ k
  place = omega (arith, are.low)

  -- no micro-step of that number, so all are done
  pub all_done : length steps ≤ k → AreLeft steps done (left_with first trees None) (k - done)
  all_done past = record {
    there = are.there;
    over = ap (λ (l : Left). is_over steps (done + (k - done)) l) (sym are.left) ∙ le-leb (length steps) (done + (k - done)) (omega (arith, place, past));
  }

  module _ (m : MicroStep) (at : slice_get steps k ≡ Some m) (workspace' : Workspace) (now' : List TreeMap) (fault : Option VertexFault)
      (does : left_with workspace' now' fault ≡ step_on k (Some m) (work_with workspace now)) where
    next : suc (k - done) ≡ k + 1 - done
    next = omega (arith, are.low)

    -- the next is there, and this is what it leaves
    pub one_more : AreThere steps done (left_with first trees None) (k + 1 - done)
    one_more =
        let more : is_over steps (done + (k - done)) (further steps done (left_with first trees None) (k - done)) ≡ false
        = ap (λ (l : Left). is_over steps (done + (k - done)) l) (sym are.left) ∙ ap (nat_le (length steps)) place
        ∙ within_not (length steps) k (slice_get_within steps k m at) in
        subst (λ (n : ℕ). AreThere steps done (left_with first trees None) n) next
        (one_more_there steps done (left_with first trees None) (k - done) are.there more)

    -- it leaves what the micro-steps leave together, from the first of them up to it
    pub leaves : left_with workspace' now' fault ≡ further steps done (left_with first trees None) (k + 1 - done)
    leaves =
        does
        ∙ sym (go_clean steps k (left_with workspace now None) m refl at)
        ∙ ap (go_on steps k) are.left
        ∙ ap (λ j. go_on steps j (further steps done (left_with first trees None) (k - done))) (sym place)
        ∙ sym (further_last steps done (left_with first trees None) (k - done))
        ∙ ap (further steps done (left_with first trees None)) next

    -- it has no fault, and the mounts are as they were: one more is done
    pub goes_on : fault ≡ None → mounts_in workspace' ≡ mounts_in workspace → shown_in workspace' ≡ shown_in workspace → length now' ≡ length now
        → AreDone steps done first trees (k + 1) workspace' now'
    goes_on clean mounts shown count = record {
      low = let low = are.low in omega (arith, low);
      there = one_more;
      left = ap (left_with workspace' now') (sym clean) ∙ leaves;
      mounts = mounts ∙ are.mounts;
      shown = shown ∙ are.shown;
      count = count ∙ are.count;
    }

    -- it has a fault, so no more micro-steps follow
    pub stops : is_some fault ≡ true → AreLeft steps done (left_with first trees None) (k + 1 - done)
    stops some = record {
      there = one_more;
      over = ap (λ (l : Left). is_over steps (done + (k + 1 - done)) l) (sym leaves) ∙ ap (λ b. b || nat_le (length steps) (done + (k + 1 - done))) some;
    }

-- a fault that is tested not to be there is None
pub none_of : (f : Option VertexFault) → is_some f ≡ false → f ≡ None
none_of None is = refl
none_of (Some f) is = absurd cc
