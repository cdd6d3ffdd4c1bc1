-- What the first micro-steps of a program leave, and which one comes next.
use Rattle.std.proofs.Common.{◌≡◌, ℕ, zero, suc, ◌+◌, ◌-◌, ◌<◌, ◌≤◌, Bool, true, false, ◌||◌, List, length, Option, Some, None, is_some}
use Rattle.std.proofs.Common.{inl, inr, refl, sym, ap, ◌∙◌, cond, add-zero, add-suc, arith}
use Rattle.std.specs.Prelude.{slice_get, nat_le, Result, Ok, Err}
use Rattle.std.proofs.lemmas.Bool.{leb-true, leb-false, le-leb, cases_lt, or_parts}
use Rattle.llb_applet.specs.Commands.{run}
use Rattle.llb_applet.specs.declared.joined_commands.Joined.{Joined}
use Rattle.llb_applet.specs.declared.directory_and_variables.Setting.{Setting}
use Rattle.llb_mount.specs.declared.shown_tree.Shown.{Shown}
use Rattle.llb_tree.specs.Tree.{TreeMap}
use Rattle.llb_events.specs.declared.fault.VertexFault.{VertexFault}
use Rattle.llb_model.specs.Program.{MicroStep, ReadLocal, Act, LayInput, Run, Workspace, LocalTree, Files, Layers, Mounted, Work, Left}
use Rattle.llb_model.specs.Program.{is_run, no_fault, micro_step, tried, act_on, filled, ran, run_on, step_on, unless_faulted, go_on, part, whole}
use Rattle.llb_model.specs.State.{Execution, is_finished, next_step}
use Rattle.llb_model.proofs.Lists.{some_of, get_past, get_within}
use Rattle.llb_model.proofs.ViewSplitting.{parts_count}

-- ---- past the end, or a fault

-- no micro-step follows the first k: one of them has faulted, or there are no more
abbrev pub is_over_at : List MicroStep → Left → ℕ → Bool
is_over_at steps left k = is_some left.fault || nat_le (length steps) k

past_end : (a : Bool) (n k : ℕ) → n ≤ k → (a || nat_le n k) ≡ true
past_end true n k le = refl
past_end false n k le = le-leb n k le

goes_nowhere : (steps : List MicroStep) (k : ℕ) (left : Left) (o : Option VertexFault) → left.fault ≡ o
    → (is_some o || nat_le (length steps) k) ≡ true → go_on steps k left ≡ left
goes_nowhere steps k left (Some f) is over = ap (λ o. unless_faulted o left (step_on k (slice_get steps k) left.work)) is
goes_nowhere steps k left None is over =
    ap (λ o. unless_faulted o left (step_on k (slice_get steps k) left.work)) is ∙ ap (λ m. step_on k m left.work) (get_past steps k (leb-true _ _ over))
    ∙ ap (λ o. left_with left.work o) (sym is)
  where
    left_with : Work → Option VertexFault → Left
    left_with work o = record { work = work; fault = o }

over_later : (a : Bool) (n k j : ℕ) → (a || nat_le n k) ≡ true → (a || nat_le n (k + j)) ≡ true
over_later true n k j over = refl
over_later false n k j over = past_end false n (k + j) (let le : n ≤ k = leb-true _ _ over in omega arith)

pub stays : (steps : List MicroStep) (work : Work) (k : ℕ) → is_over_at steps (part steps work k) k ≡ true → (j : ℕ)
    → part steps work (k + j) ≡ part steps work k
unfolding part
stays steps work k over zero = ap (part steps work) (add-zero k)
stays steps work k over (suc j) =
    ap (part steps work) (add-suc k j) ∙ ap (go_on steps (k + j)) (stays steps work k over j)
    ∙ goes_nowhere steps (k + j) (part steps work k) (part steps work k).fault refl (over_later (is_some (part steps work k).fault) (length steps) k j over)

-- what is finished has done its whole program
pub finished_whole : (steps : List MicroStep) (work : Work) (k : ℕ) → is_over_at steps (part steps work k) k ≡ true → whole steps work ≡ part steps work k
finished_whole steps work k over = elim (cases_lt k (length steps)) [
  | inl lt ↦
      let sum : k + (length steps - k) ≡ length steps = omega arith in
      ap (part steps work) (sym sum) ∙ stays steps work k over (length steps - k)
  | inr le ↦
      let sum : length steps + (k - length steps) ≡ k = omega arith in
      let past : is_over_at steps (whole steps work) (length steps) ≡ true =
      past_end (is_some (whole steps work).fault) (length steps) (length steps) (omega arith) in
      sym (stays steps work (length steps) past (k - length steps)) ∙ ap (part steps work) sum
]

-- ---- the next micro-step

-- a micro-step that comes next: none has faulted, and it is at that place
pub record IsNextStep (steps : List MicroStep) (x : Execution) (m : MicroStep) : Type 0 where
  pub unfinished : is_finished steps x ≡ false
  pub clean : x.fault ≡ None
  pub there : slice_get steps x.done ≡ Some m

clean_of : (f : Option VertexFault) (b : Bool) → (is_some f || b) ≡ false → f ≡ None
clean_of None b e = refl
clean_of (Some f) b e = absurd cc

-- a next micro-step is the one after those done, of an execution that is not finished and has no fault
pub next_step_is : (steps : List MicroStep) (x : Execution) (m : MicroStep) → next_step steps x ≡ Some m → IsNextStep steps x m
next_step_is steps x m e = by_test (is_finished steps x) refl e
  where
    by_test : (b : Bool) → is_finished steps x ≡ b → cond b None (slice_get steps x.done) ≡ Some m → IsNextStep steps x m
    by_test true is e = absurd cc
    by_test false is e = record { unfinished = is; clean = clean_of x.fault (nat_le (length steps) x.done) is; there = e }

-- a finished execution has none
pub finished_none : (steps : List MicroStep) (x : Execution) → is_finished steps x ≡ true → next_step steps x ≡ None
finished_none steps x e = ap (λ b. cond b None (slice_get steps x.done)) e

-- what is not finished has a next micro-step
pub unfinished_some : (steps : List MicroStep) (x : Execution) → is_finished steps x ≡ false → (m : MicroStep) × (next_step steps x ≡ Some m)
unfinished_some steps x e =
    let lt : x.done < length steps = leb-false _ _ (or_parts (is_some x.fault) (nat_le (length steps) x.done) e).1 in
    let m = get_within steps x.done lt in
    (m.0, ap (λ b. cond b None (slice_get steps x.done)) e ∙ m.1)

pub none_finished : (steps : List MicroStep) (x : Execution) → next_step steps x ≡ None → is_finished steps x ≡ true
none_finished steps x e = by_test (is_finished steps x) refl
  where
    by_test : (b : Bool) → is_finished steps x ≡ b → b ≡ true
    by_test true is = refl
    by_test false is = let m = unfinished_some steps x is in let both : some_of m.0 ≡ None = sym m.1 ∙ e in absurd cc

-- ---- the trees of instances

command_keeps : (k : ℕ) (setting : Setting) (command : Joined) (ends : Bool) (own : Workspace) (trees : List TreeMap)
    → length (run_on k setting command ends own trees).work.trees ≡ length trees
command_keeps k setting command ends (LocalTree t) trees = refl
command_keeps k setting command ends (Files inputs results) trees = refl
command_keeps k setting command ends (Layers inputs t) trees = refl
command_keeps k setting command ends (Mounted mounts caches last) trees = by_run (is_run command.join last)
  where
    by_view : (o : Option (List Shown)) → length (ran k ends mounts caches trees o).work.trees ≡ length trees
    by_view None = refl
    by_view (Some after) = parts_count caches trees after

    by_run : (b : Bool) → length (cond b (ran k ends mounts caches trees (run setting (filled mounts caches trees) command.command))
        (no_fault (record { own = Mounted mounts caches last; trees = trees }))).work.trees ≡ length trees
    by_run true = by_view (run setting (filled mounts caches trees) command.command)
    by_run false = refl

-- there are as many trees as before
own_keeps : (work : Work) (r : Result Workspace VertexFault) → length (tried work r).work.trees ≡ length work.trees
own_keeps work (Ok view) = refl
own_keeps work (Err f) = refl

-- a micro-step, done or faulted, leaves as many trees of instances
pub step_keeps : (k : ℕ) (m : Option MicroStep) (work : Work) → length (step_on k m work).work.trees ≡ length work.trees
unfolding micro_step
step_keeps k None work = refl
step_keeps k (Some ReadLocal) work = refl
step_keeps k (Some (Act action)) work = own_keeps work (act_on k action work.own)
step_keeps k (Some (LayInput i)) work = refl
step_keeps k (Some (Run setting command ends)) work = command_keeps k setting command ends work.own work.trees

-- and as many trees stay where a fault before it lets nothing be done
pub go_keeps : (steps : List MicroStep) (k : ℕ) (left : Left) → length (go_on steps k left).work.trees ≡ length left.work.trees
go_keeps steps k left = by_fault left.fault
  where
    by_fault : (o : Option VertexFault) → length (unless_faulted o left (step_on k (slice_get steps k) left.work)).work.trees ≡ length left.work.trees
    by_fault None = step_keeps k (slice_get steps k) left.work
    by_fault (Some f) = refl

-- the first k micro-steps leave as many trees of instances as they began with
pub part_keeps : (steps : List MicroStep) (work : Work) (k : ℕ) → length (part steps work k).work.trees ≡ length work.trees
unfolding part
part_keeps steps work zero = refl
part_keeps steps work (suc k) = go_keeps steps k (part steps work k) ∙ part_keeps steps work k
