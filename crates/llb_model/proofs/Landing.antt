-- The effect of a landing is that of its block.
use Rattle.std.proofs.Common.{◌≡◌, ℕ, zero, suc, ◌+◌, false, List, [], ◌∷◌, ◌++◌, length, Option, Some, None, inl, inr, refl, sym, ap, subst, ◌∙◌, arith}
use Rattle.std.proofs.Common.{add-zero}
use Rattle.std.specs.Prelude.{slice_get, slice_set}
use Rattle.llb_tree.specs.Tree.{TreeMap}
use Rattle.llb_events.specs.declared.fault.VertexFault.{VertexFault}
use Rattle.llb_model.specs.Caches.{Instance, Store, put_all, Hold, Distinct}
use Rattle.llb_model.specs.Program.{Build, MicroStep, Left, step_on, unless_faulted, go_on}
use Rattle.llb_model.specs.Outcome.{ending}
use Rattle.llb_model.specs.State.{Execution, WorkerStatus, Idle, Runs, State, program_in}
use Rattle.llb_events.specs.declared.event.Event.TheVariants.{Step, Settle}
use Rattle.llb_model.specs.Table.{Reply, step_by, settle_reply, settle_with, table}
use Rattle.llb_model.specs.Run.{run, after}
use Rattle.llb_model.specs.Landing.{steps_by, further, is_over, AreThere, left_so_far, with_steps, after_steps, landed, StepsAsBlock, LandsAsBlock}
use Rattle.llb_model.proofs.Lists.{get_set_same}
use Rattle.llb_model.proofs.StoreWrites.{same_store, has_or, kept_all, hold_all, hold_trees, hold_length, hold_same}
use Rattle.llb_model.proofs.ProgramPrefixes.{go_keeps, next_step_is, unfinished_some}
use Rattle.llb_model.proofs.GrantedEvents.{step_granted, settle_granted}
use Rattle.llb_model.proofs.RunExtension.{run_one, run_on}

-- ---- writes

-- what is there is written again
pub put_all_nothing : (s : Store) (ps : List Instance) (ts : List TreeMap) → Distinct ps → Hold s ps ts → put_all s ps ts ≡ s
put_all_nothing s ps ts apart hold = same_store (put_all s ps ts) s (λ q. elim (has_or ps q) [
  | inl h ↦ hold_same (put_all s ps ts) s ps ts (hold_all s ps ts apart (hold_length s ps ts hold)) hold q h
  | inr h ↦ kept_all s ps ts q h
])

-- the last write is what counts
pub put_all_again : (s : Store) (ps : List Instance) (ts us : List TreeMap) → Distinct ps → length us ≡ length ps
    → put_all (put_all s ps ts) ps us ≡ put_all s ps us
put_all_again s ps ts us apart count = same_store (put_all (put_all s ps ts) ps us) (put_all s ps us) (λ q. elim (has_or ps q) [
  | inl h ↦ hold_same (put_all (put_all s ps ts) ps us) (put_all s ps us) ps us (hold_all (put_all s ps ts) ps us apart count) (hold_all s ps us apart count)
      q h
  | inr h ↦ kept_all (put_all s ps ts) ps us q h ∙ kept_all s ps ts q h ∙ sym (kept_all s ps us q h)
])

-- of two writes at one number the last is what counts
pub set_set : {A : Type 0} (xs : List A) (i : ℕ) (x y : A) → slice_set (slice_set xs i x) i y ≡ slice_set xs i y
set_set [] i x y = refl
set_set (a ∷ xs) zero x y = refl
set_set (a ∷ xs) (suc i) x y = ap (λ ys. a ∷ ys) (set_set xs i x y)

set_got : {A : Type 0} (xs : List A) (i : ℕ) (x : A) → slice_get xs i ≡ Some x → slice_set xs i x ≡ xs
set_got [] i x at = refl
set_got (a ∷ xs) zero x at = let same : x ≡ a = cc in ap (λ y. y ∷ xs) same
set_got (a ∷ xs) (suc i) x at = ap (λ ys. a ∷ ys) (set_got xs i x at)

-- ---- further micro-steps

-- there are as many trees as before
pub further_keeps : (steps : List MicroStep) (k : ℕ) (left : Left) (n : ℕ) → length (further steps k left n).work.trees ≡ length left.work.trees
further_keeps steps k left zero = refl
further_keeps steps k left (suc n) = further_keeps steps (k + 1) (go_on steps k left) n ∙ go_keeps steps k left

one_later : (k n : ℕ) → k + 1 + n ≡ k + suc n
one_later k n = omega arith

-- the last of them
pub further_last : (steps : List MicroStep) (k : ℕ) (left : Left) (n : ℕ) → further steps k left (suc n) ≡ go_on steps (k + n) (further steps k left n)
further_last steps k left zero = ap (λ j. go_on steps j left) (sym (add-zero k))
further_last steps k left (suc n) =
    further_last steps (k + 1) (go_on steps k left) n ∙ ap (λ j. go_on steps j (further steps k left (suc n))) (one_later k n)

-- one more is there
pub one_more_there : (steps : List MicroStep) (k : ℕ) (left : Left) (n : ℕ) → AreThere steps k left n → is_over steps (k + n) (further steps k left n) ≡ false
    → AreThere steps k left (suc n)
one_more_there steps k left zero there more = (ap (λ j. is_over steps j left) (sym (add-zero k)) ∙ more, tt)
one_more_there steps k left (suc n) there more =
    (there.0, one_more_there steps (k + 1) (go_on steps k left) n there.1 (ap (λ j. is_over steps j (further steps k left (suc n))) (one_later k n) ∙ more))

-- a micro-step that is not over is one of the program
pub go_clean : (steps : List MicroStep) (k : ℕ) (left : Left) (m : MicroStep) → left.fault ≡ None → slice_get steps k ≡ Some m
    → go_on steps k left ≡ step_on k (Some m) left.work
go_clean steps k left m clean there =
    ap (λ (f : Option VertexFault). unless_faulted f left (step_on k (slice_get steps k) left.work)) clean ∙ ap (λ o. step_on k o left.work) there

-- ---- the block

-- steps on steps
pub after_again : (s : State) (w : ℕ) (x : Execution) (one : Left) (n : ℕ) (last : Left) → Distinct x.places → length last.work.trees ≡ length x.places
    → after_steps (after_steps s w x 1 one) w (with_steps x 1 one) n last ≡ after_steps s w x (suc n) last
after_again s w x one n last apart count = λ i. record {
  statuses = s.statuses;
  workers = (ap (λ k. slice_set (slice_set s.workers w (Runs (with_steps x 1 one))) w (Runs (record (with_steps x n last) { done = k }))) (one_later x.done n)
      ∙ set_set s.workers w (Runs (with_steps x 1 one)) (Runs (with_steps x (suc n) last))) i;
  store = put_all_again s.store x.places one.work.trees last.work.trees apart count i;
}

module _ (b : Build) where
  abbrev pub program_steps : Execution → List MicroStep
  program_steps x = (program_in b x).steps

  -- a step does the first of them
  pub record FirstStep (s : State) (w : ℕ) (x : Execution) (trees : List TreeMap) : Type 0 where
    pub left : Left
    pub is : left ≡ go_on (program_steps x) x.done (left_so_far x trees)
    pub reply : Reply
    pub grants : table b s (Step w) ≡ Some (after_steps s w x 1 left, reply)

  -- a worker that is not finished may step, and leaves what its next micro-step leaves
  pub first_step : (s : State) (w : ℕ) (x : Execution) (trees : List TreeMap) → slice_get s.workers w ≡ Some (Runs x) → Hold s.store x.places trees
      → is_over (program_steps x) x.done (left_so_far x trees) ≡ false → FirstStep s w x trees
  first_step s w x trees there hold more =
      let m = unfinished_some (program_steps x) x more in
      let next = next_step_is (program_steps x) x m.0 m.1 in
      let left = step_on x.done (Some m.0) (left_so_far x trees).work in
      record {
        left = left;
        is = sym (go_clean (program_steps x) x.done (left_so_far x trees) m.0 next.clean next.there);
        reply = (step_by s w x m.0 left).1;
        grants = step_granted b s w x m.0 there m.1
            ∙ ap (λ ts. Some (step_by s w x m.0 (step_on x.done (Some m.0) (record { own = x.own; trees = ts })))) (hold_trees s.store x.places trees hold);
      }

  -- the steps alone have the effect of the block: each goes on from what the one before it left
  pub steps_as_block : StepsAsBlock b
  unfolding run
  steps_as_block s w x trees zero there apart hold steps = (
    [],
    λ i. Some (
      record {
        statuses = s.statuses;
        workers = sym (ap (λ k. slice_set s.workers w (Runs (record x { done = k }))) (add-zero x.done) ∙ set_got s.workers w (Runs x) there) i;
        store = sym (put_all_nothing s.store x.places trees apart hold) i;
      },
      [],
    ),
  )
  steps_as_block s w x trees (suc n) there apart hold steps =
      let one = first_step s w x trees there hold steps.0 in
      let y = with_steps x 1 one.left in
      let t = after_steps s w x 1 one.left in
      let count : length one.left.work.trees ≡ length x.places
      = ap (λ (l : Left). length l.work.trees) one.is ∙ go_keeps (program_steps x) x.done (left_so_far x trees) ∙ hold_length s.store x.places trees hold in
      let rest = steps_as_block t w y one.left.work.trees n (get_set_same s.workers w (Runs y) (Runs x) there) apart
      (hold_all s.store x.places one.left.work.trees apart count)
      (subst (λ (l : Left). AreThere (program_steps x) (x.done + 1) l n) (sym one.is) steps.1) in
      let last = further (program_steps x) (x.done + 1) one.left n in
      let last_is : last ≡ further (program_steps x) x.done (left_so_far x trees) (suc n) = ap (λ (l : Left). further (program_steps x) (x.done + 1) l n)
      one.is in (
        one.reply ∷ rest.0,
        ap (λ o. after o (λ u. run b u (steps_by w n))) one.grants
            ∙ ap (λ (o : Option (State × List Reply)). after (Some (t, one.reply)) (λ u. o)) rest.1
            ∙ ap (λ (u : State). Some (u, one.reply ∷ rest.0))
            (after_again s w x one.left n last apart (further_keeps (program_steps x) (x.done + 1) one.left n ∙ count))
            ∙ ap (λ (l : Left). Some (after_steps s w x (suc n) l, one.reply ∷ rest.0)) last_is,
      )

  -- and with the settle, which is granted as the steps leave the worker finished, a job that was done apart lands
  pub lands_as_block : LandsAsBlock b
  lands_as_block s w x trees n there apart hold left =
      let last = further (program_steps x) x.done (left_so_far x trees) n in
      let steps = steps_as_block s w x trees n there apart hold left.there in
      let t = after_steps s w x n last in
      let y = with_steps x n last in
      let settles = settle_granted b t w y (get_set_same s.workers w (Runs y) (Runs x) there) left.over in
      let e = ending (program_in b x) last in (
        steps.0,
        run_on b s t (settle_with t w x.vertex e).0 (steps_by w n) (Settle w ∷ []) steps.0 (settle_reply x.vertex e ∷ []) steps.1
            (run_one b t (settle_with t w x.vertex e).0 (Settle w) (settle_reply x.vertex e) settles)
            ∙ ap (λ (ws : List WorkerStatus). Some (record (landed b s w x last) { workers = ws }, steps.0 ++ settle_reply x.vertex e ∷ []))
            (set_set s.workers w (Runs y) Idle),
      )
