-- What a micro-step leaves: its work and its fault, and as many mounts and trees as there were.
use Rattle.std.proofs.Common.{◌≡◌, ◌≢◌, ℕ, ℤ, Bool, true, false, not, cond, List, length, refl, ap, sym, subst, ◌∙◌, arith}
use Rattle.std.specs.Prelude.{Option, Some, None, Result, Ok, Err}
use Rattle.std.proofs.lemmas.Bool.{false≢true}
use Rattle.llb_fileop.specs.FileActions.{act}
use Rattle.llb_fileop.specs.CallResults.{Gives, is_memory}
use Rattle.llb_fileop.specs.declared.fault.ActFault.{ActFault}
use Rattle.llb_ops.specs.declared.file_op.Action.{Action}
use Rattle.llb_tree.specs.Tree.{TreeMap}
use Rattle.llb_mount.specs.declared.shown_tree.Shown.{Shown}
use Rattle.llb_applet.specs.declared.directory_and_variables.Setting.{Setting}
use Rattle.llb_applet.specs.declared.joined_commands.Joined.{Joined}
use Rattle.llb_applet.specs.Commands.{run, status_of, left as left_of}
use Rattle.llb_events.specs.declared.fault.VertexFault.{VertexFault}
use Rattle.llb_events.specs.declared.fault.VertexFault.TheVariants as fault
use Rattle.llb_model.specs.Program.{MicroStep, ReadLocal, Act, LayInput, Run, Workspace, LocalTree, Files, Layers, Mounted, Work, Left, micro_step, tried}
use Rattle.llb_model.specs.Program.{step_on}
use Rattle.llb_model.specs.Program.{trees_in, base_in, with_tree, act_among, with_result, fault_number, lay_on, last_of, is_run, no_fault, after_run}
use Rattle.llb_model.specs.Program.{exit_of, ran, run_on, filled, taken, blanked}
use Rattle.llb_model.proofs.ProgramPrefixes.{step_keeps}
use Rattle.llb_execution.specs.ModelValues.{work_with, left_with, is_skipped, mounts_in, shown_in}
use Rattle.llb_execution.proofs.CommandMountCounts.{left_as_many}
use Rattle.llb_execution.proofs.TreeExchanges.{as_many_filled}

-- ---- actions

-- what an action returns is put into the workspace: its tree as one result more, and then there is no fault
pub put_tree : (k : ℕ) (workspace : Workspace) (acted rule : Result TreeMap ActFault) (t : TreeMap) (trees : List TreeMap) → acted ≡ Ok t
    → Gives (λ t. t) acted rule
    → left_with (with_tree workspace t) trees None ≡ tried (work_with workspace trees) (with_result k workspace rule)
put_tree k workspace acted rule t trees is gives =
    ap (λ r. tried (work_with workspace trees) (with_result k workspace r)) (sym (subst (λ a. Gives (λ t. t) a rule) is gives))

-- or its fault, which is not that of memory, and then the workspace is as it was
pub put_fault : (k : ℕ) (workspace : Workspace) (acted rule : Result TreeMap ActFault) (e : ActFault) (trees : List TreeMap) → acted ≡ Err e → is_memory e
    ≡ false
    → Gives (λ t. t) acted rule
    → left_with workspace trees (Some (fault.Action k (fault_number e))) ≡ tried (work_with workspace trees) (with_result k workspace rule)
put_fault k workspace acted rule e trees is other gives =
    ap (λ r. tried (work_with workspace trees) (with_result k workspace r)) (sym (subst (λ a. Gives (λ t. t) a rule) is gives other))

-- an action's result is that of its rule on the trees of a workspace, where it began with two of these
pub acts_among : (a : Action) (workspace : Workspace) (acted result : Result TreeMap ActFault) (base second : TreeMap) (n m : ℤ)
    → n ≡ a.input → m ≡ a.secondary_input → base ≡ base_in n (trees_in workspace) → second ≡ base_in m (trees_in workspace)
    → acted ≡ result → Gives (λ t. t) result (act a.kind base second) → Gives (λ t. t) acted (act_among a (trees_in workspace))
acts_among a workspace acted result base second n m is_input is_secondary is_base is_second is gives =
    subst (λ r. Gives (λ t. t) r (act_among a (trees_in workspace))) (sym is)
    (subst (λ rule. Gives (λ t. t) result rule)
    (λ i. act a.kind ((is_base ∙ ap (λ z. base_in z (trees_in workspace)) is_input) i)
    ((is_second ∙ ap (λ z. base_in z (trees_in workspace)) is_secondary) i)) gives)

-- an action leaves what its result leaves
pub has_acted : (k : ℕ) (workspace : Workspace) (a : Action) (trees : List TreeMap)
    → tried (work_with workspace trees) (with_result k workspace (act_among a (trees_in workspace))) ≡ step_on k (Some (Act a)) (work_with workspace trees)
unfolding micro_step
has_acted k workspace a trees = refl

-- ---- the other micro-steps

-- the read of a source leaves the work as it is, since its tree is in the workspace from the start
pub read : (k : ℕ) (workspace : Workspace) (trees : List TreeMap) → left_with workspace trees None ≡ step_on k (Some ReadLocal) (work_with workspace trees)
unfolding micro_step
read k workspace trees = refl

-- the laying of an input leaves the workspace with it over those before it, and never a fault
pub laid : (k : ℕ) (i : ℤ) (workspace : Workspace) (trees : List TreeMap) → left_with (lay_on i workspace) trees None
    ≡ step_on k (Some (LayInput i)) (work_with workspace trees)
unfolding micro_step
laid k i workspace trees = refl

-- a command leaves what its run makes of the workspace and the trees of the caches
pub has_run : (k : ℕ) (s : Setting) (m : Joined) (ends : Bool) (workspace : Workspace) (trees : List TreeMap)
    → run_on k s m ends workspace trees ≡ step_on k (Some (Run s m ends)) (work_with workspace trees)
unfolding micro_step
has_run k s m ends workspace trees = refl

-- a command that ends with 0 leaves the work that it has made, and else the work stays, but for the last status
pub command_left : (o : Option (List Shown)) (before started view after : List Shown) (status : ℕ) (ms : List ℕ) (ts trees : List TreeMap)
    → status ≡ status_of o → view ≡ left_of started o
    → (status ≡ 0 → (after ≡ blanked view ms ts) × (trees ≡ taken view ms ts))
    → (status ≢ 0 → (after ≡ before) × (trees ≡ ts))
    → work_with (Mounted after ms status) trees ≡ after_run before ms ts o
command_left None before started view after status ms ts trees is leaves done failed =
    let same = failed (λ none. absurd (omega (arith, is, none))) in
    λ i. work_with (Mounted (same.0 i) ms (is i)) (same.1 i)
command_left (Some mounts) before started view after status ms ts trees is leaves done failed =
    let parts = done is in
    (λ i. work_with (Mounted (parts.0 i) ms (is i)) (parts.1 i))
    ∙ ap (λ xs. work_with (Mounted (blanked xs ms ts) ms 0) (taken xs ms ts)) leaves

-- a command that is skipped leaves the workspace as it is
pub skipped : (k : ℕ) (s : Setting) (m : Joined) (ends : Bool) (mounts : List Shown) (caches : List ℕ) (last : ℕ) (trees : List TreeMap)
    → is_run m.join last ≡ false → left_with (Mounted mounts caches last) trees None ≡ run_on k s m ends (Mounted mounts caches last) trees
skipped k s m ends mounts caches last trees off =
    ap (λ b. cond b (ran k ends mounts caches trees (run s (filled mounts caches trees) m.command)) (no_fault (work_with (Mounted mounts caches last) trees)))
    (sym off)

-- a command that runs leaves its work and its fault
pub run_left : (k : ℕ) (s : Setting) (m : Joined) (ends : Bool) (mounts after : List Shown) (caches : List ℕ) (last status : ℕ) (trees now : List TreeMap)
    (f : Option VertexFault) → is_run m.join last ≡ true
    → work_with (Mounted after caches status) now ≡ after_run mounts caches trees (run s (filled mounts caches trees) m.command)
    → f ≡ exit_of k ends status
    → left_with (Mounted after caches status) now f ≡ run_on k s m ends (Mounted mounts caches last) trees
run_left k s m ends mounts after caches last status trees now f on work fault =
    ap (λ g. left_with (Mounted after caches status) now g) (fault ∙ ap (exit_of k ends) (status_is (run s (filled mounts caches trees) m.command) work))
    ∙ ap (λ (w : Work). left_of_work w (exit_of k ends (status_of (run s (filled mounts caches trees) m.command)))) work
    ∙ ap (λ b. cond b (ran k ends mounts caches trees (run s (filled mounts caches trees) m.command)) (no_fault (work_with (Mounted mounts caches last) trees)))
    (sym on)
  where
    left_of_work : Work → Option VertexFault → Left
    left_of_work w g = record { work = w; fault = g }

    status_is : (o : Option (List Shown)) → work_with (Mounted after caches status) now ≡ after_run mounts caches trees o → status ≡ status_of o
    status_is None is = ap (λ (w : Work). last_of w.own) is
    status_is (Some view) is = ap (λ (w : Work). last_of w.own) is

-- where a micro-step is skipped nothing changes
pub skip_leaves : (k : ℕ) (m : MicroStep) (workspace : Workspace) (trees : List TreeMap) → is_skipped m workspace ≡ true
    → left_with workspace trees None ≡ step_on k (Some m) (work_with workspace trees)
unfolding micro_step
skip_leaves k ReadLocal workspace trees skips = refl
skip_leaves k (Act a) workspace trees skips = absurd (false≢true skips)
skip_leaves k (LayInput i) workspace trees skips = absurd (false≢true skips)
skip_leaves k (Run s m ends) (LocalTree t) trees skips = refl
skip_leaves k (Run s m ends) (Files inputs results) trees skips = refl
skip_leaves k (Run s m ends) (Layers inputs t) trees skips = refl
skip_leaves k (Run s m ends) (Mounted mounts caches last) trees skips = skipped k s m ends mounts caches last trees (not_true (is_run m.join last) skips)
  where
    not_true : (b : Bool) → not b ≡ true → b ≡ false
    not_true true e = absurd (false≢true e)
    not_true false e = refl

-- ---- what every micro-step keeps

-- the two workspaces have the same number of mounts, of which the same ones show caches
pub record IsSeenSo (before after : Workspace) : Type 0 where
  pub mounts : mounts_in after ≡ mounts_in before
  pub shown : shown_in after ≡ shown_in before

seen_with_tree : (workspace : Workspace) (t : TreeMap) → IsSeenSo workspace (with_tree workspace t)
seen_with_tree (LocalTree own) t = record { mounts = refl; shown = refl }
seen_with_tree (Files inputs results) t = record { mounts = refl; shown = refl }
seen_with_tree (Layers inputs laid) t = record { mounts = refl; shown = refl }
seen_with_tree (Mounted mounts caches last) t = record { mounts = refl; shown = refl }

seen_acted : (k : ℕ) (workspace : Workspace) (trees : List TreeMap) (r : Result TreeMap ActFault)
    → IsSeenSo workspace (tried (work_with workspace trees) (with_result k workspace r)).work.own
seen_acted k workspace trees (Ok t) = seen_with_tree workspace t
seen_acted k workspace trees (Err e) = record { mounts = refl; shown = refl }

seen_laid : (i : ℤ) (workspace : Workspace) → IsSeenSo workspace (lay_on i workspace)
seen_laid i (LocalTree own) = record { mounts = refl; shown = refl }
seen_laid i (Files inputs results) = record { mounts = refl; shown = refl }
seen_laid i (Layers inputs laid) = record { mounts = refl; shown = refl }
seen_laid i (Mounted mounts caches last) = record { mounts = refl; shown = refl }

seen_parted : (mounts : List Shown) (caches : List ℕ) (last : ℕ) (trees : List TreeMap) (o : Option (List Shown))
    → ((after : List Shown) → o ≡ Some after → length after ≡ length mounts)
    → IsSeenSo (Mounted mounts caches last) (after_run mounts caches trees o).own
seen_parted mounts caches last trees None as_many = record { mounts = refl; shown = refl }
seen_parted mounts caches last trees (Some after) as_many = record {
  mounts = as_many_filled after caches _ ∙ as_many after refl;
  shown = refl;
}

seen_run : (k : ℕ) (s : Setting) (m : Joined) (ends : Bool) (workspace : Workspace) (trees : List TreeMap)
    → IsSeenSo workspace (run_on k s m ends workspace trees).work.own
seen_run k s m ends (LocalTree own) trees = record { mounts = refl; shown = refl }
seen_run k s m ends (Files inputs results) trees = record { mounts = refl; shown = refl }
seen_run k s m ends (Layers inputs laid) trees = record { mounts = refl; shown = refl }
seen_run k s m ends (Mounted mounts caches last) trees = by_run (is_run m.join last)
  where
    by_run : (b : Bool) → IsSeenSo (Mounted mounts caches last) (cond b (ran k ends mounts caches trees (run s (filled mounts caches trees) m.command))
        (no_fault (work_with (Mounted mounts caches last) trees))).work.own
    by_run true =
        seen_parted mounts caches last trees (run s (filled mounts caches trees) m.command)
        (λ after is. sym (ap (λ o. length (left_of (filled mounts caches trees) o)) is) ∙ left_as_many s (filled mounts caches trees) m.command
        ∙ as_many_filled mounts caches trees)
    by_run false = record { mounts = refl; shown = refl }

-- every micro-step leaves as many mounts, of which the same show caches
pub seen_so : (k : ℕ) (m : MicroStep) (workspace : Workspace) (trees : List TreeMap)
    → IsSeenSo workspace (step_on k (Some m) (work_with workspace trees)).work.own
unfolding micro_step
seen_so k ReadLocal workspace trees = record { mounts = refl; shown = refl }
seen_so k (Act a) workspace trees = seen_acted k workspace trees (act_among a (trees_in workspace))
seen_so k (LayInput i) workspace trees = seen_laid i workspace
seen_so k (Run s m ends) workspace trees = seen_run k s m ends workspace trees

-- what a micro-step leaves, and that it has as many mounts, of which the same show caches, and as many trees
pub record HasStepped (k : ℕ) (m : MicroStep) (workspace after : Workspace) (trees now : List TreeMap) (f : Option VertexFault) : Type 0 where
  pub left : left_with after now f ≡ step_on k (Some m) (work_with workspace trees)
  pub mounts : mounts_in after ≡ mounts_in workspace
  pub shown : shown_in after ≡ shown_in workspace
  pub count : length now ≡ length trees

pub has_stepped : (k : ℕ) (m : MicroStep) (workspace after : Workspace) (trees now : List TreeMap) (f : Option VertexFault)
    → left_with after now f ≡ step_on k (Some m) (work_with workspace trees) → HasStepped k m workspace after trees now f
has_stepped k m workspace after trees now f left = record {
  left = left;
  mounts = ap (λ (l : Left). mounts_in l.work.own) left ∙ (seen_so k m workspace trees).mounts;
  shown = ap (λ (l : Left). shown_in l.work.own) left ∙ (seen_so k m workspace trees).shown;
  count = ap (λ (l : Left). length l.work.trees) left ∙ step_keeps k (Some m) (work_with workspace trees);
}
