-- The state of every worker that runs an exec is by the last status, after any list of granted events.
use Rattle.std.proofs.Common.{◌≡◌, ℕ, suc, ◌+◌, ◌-◌, ◌==◌, Bool, true, false, not, cond, ◌&&◌, ◌||◌, List, [], length, drop, ◌⊎◌, inl, inr, Option, Some}
use Rattle.std.proofs.Common.{None, is_some, unwrap_or, refl, sym, ap, subst, ◌∙◌, add-one, arith}
use Rattle.std.specs.Prelude.{slice_get, nat_le}
use Rattle.llb_applet.specs.Commands.{run}
use Rattle.llb_applet.specs.declared.joined_commands.Joined.{Joined}
use Rattle.llb_applet.specs.declared.directory_and_variables.Setting.{Setting}
use Rattle.llb_mount.specs.declared.shown_tree.Shown.{Shown}
use Rattle.llb_ops.specs.declared.exec.ExecOp.{ExecOp}
use Rattle.llb_ops.specs.declared.op.Kind.{Kind}
use Rattle.llb_ops.specs.declared.op.Kind.TheVariants as kind
use Rattle.llb_loader.specs.declared.graph.Vertex.{Vertex}
use Rattle.llb_tree.specs.Tree.{TreeMap}
use Rattle.llb_events.specs.declared.fault.VertexFault.{VertexFault}
use Rattle.llb_events.specs.declared.fault.VertexFault.TheVariants as fault
use Rattle.llb_model.specs.Caches.{trees_at}
use Rattle.llb_model.specs.Program.{Build, MicroStep, Run, Workspace, Mounted, Left, all_and, runs_of, setting_of, steps_of, program_at, workspace_on, filled}
use Rattle.llb_model.specs.Program.{blanked, last_of, is_run, no_fault, ran, micro_step, step_on}
use Rattle.llb_model.specs.State.{Execution, Idle, Runs, State, opening, program_in, work_of, is_finished, begin_at}
use Rattle.llb_events.specs.declared.event.Event.{Event}
use Rattle.llb_events.specs.declared.event.Event.TheVariants.{Claim, Step, Settle, Cancel}
use Rattle.llb_model.specs.Table.{execution_on, with_step, table}
use Rattle.llb_model.specs.WholeRunLaws.{fault_of, ExecsEndByLastStatus}
use Rattle.llb_model.proofs.Lists.{some_of, inside, got_set, got_replicate}
use Rattle.llb_model.proofs.ProgramPrefixes.{next_step_is}
use Rattle.llb_model.proofs.GrantedEvents.{Answer, claim_places, claim_is, step_is, settle_is, cancel_is}
use Rattle.llb_model.proofs.RunExtension.{run_keeps}
use Rattle.llb_model.proofs.ScriptEndings.{IsPast, IsHere, place, Agree, skips, finished_by, fails_by}
use Rattle.llb_model.proofs.VertexKinds.{length_runs}

-- an exec's workspace, and a last status that agrees with the fault
record IsSo (cs : List Joined) (c k : ℕ) (own : Workspace) (f : Option VertexFault) : Type 0 where
  mounts : List Shown
  caches : List ℕ
  last : ℕ
  is : own ≡ Mounted mounts caches last
  agrees : Agree c (drop k cs) last f

-- ---- one micro-step

module _ (setting : Setting) (cs : List Joined) (k : ℕ) (h : IsHere setting cs k) (mounts : List Shown) (caches : List ℕ) (last : ℕ)
    (trees : List TreeMap) where
  ran_so : (o : Option (List Shown)) → IsSo cs k (suc k) (ran k (all_and h.later) mounts caches trees o).work.own
      (ran k (all_and h.later) mounts caches trees o).fault
  ran_so (Some after) = record { mounts = blanked after caches trees; caches = caches; last = 0; is = refl; agrees = inl refl }
  ran_so None = by_ends (all_and h.later) refl
    where
      by_ends : (ends : Bool) → all_and h.later ≡ ends → IsSo cs k (suc k) (Mounted mounts caches 1) (cond ends (Some (fault.Exit k 1)) None)
      by_ends true is = record { mounts = mounts; caches = caches; last = 1; is = refl; agrees = (refl, refl, ap all_and h.next ∙ is) }
      by_ends false is = record { mounts = mounts; caches = caches; last = 1; is = refl; agrees = inr (ap all_and h.next ∙ is) }

  -- a command, run or skipped, keeps the last status and the fault in agreement
  step_so : Agree k (drop k cs) last None
      → IsSo cs k (suc k) (micro_step k (Run setting h.c (all_and h.later)) (record { own = Mounted mounts caches last; trees = trees })).work.own
      (micro_step k (Run setting h.c (all_and h.later)) (record { own = Mounted mounts caches last; trees = trees })).fault
  unfolding micro_step
  step_so agrees = by_run (is_run h.c.join last) refl
    where
      left : Bool → Left
      left b = cond b (ran k (all_and h.later) mounts caches trees (run setting (filled mounts caches trees) h.c.command))
          (no_fault (record { own = Mounted mounts caches last; trees = trees }))

      by_run : (b : Bool) → is_run h.c.join last ≡ b → IsSo cs k (suc k) (left b).work.own (left b).fault
      by_run true on = ran_so (run setting (filled mounts caches trees) h.c.command)
      by_run false off = record {
        mounts = mounts;
        caches = caches;
        last = last;
        is = refl;
        agrees = subst (λ ds. ((last == 0) ≡ true) ⊎ (all_and ds ≡ false)) (sym h.next)
            (skips h.c.join (all_and h.later) last off (subst (λ ds. ((last == 0) ≡ true) ⊎ (all_and ds ≡ false)) h.rest agrees));
      }

-- the commands of an exec's vertex are its micro-steps
exec_steps : (b : Build) (x : Execution) (v : Vertex) (e : ExecOp) → slice_get b.graph.vertices x.vertex ≡ Some v → v.op.kind ≡ Some (kind.Exec e)
    → (program_in b x).steps ≡ runs_of (setting_of e.meta) (unwrap_or v.script [])
exec_steps b x v e there is = ap (λ o. (program_at o).steps) there ∙ ap (λ (k : Option Kind). steps_of k v.script) is

-- ---- every event

record AreSo (b : Build) (s : State) : Type 0 where
  each : (w : ℕ) (x : Execution) (v : Vertex) (e : ExecOp) → slice_get s.workers w ≡ Some (Runs x) → slice_get b.graph.vertices x.vertex ≡ Some v
      → v.op.kind ≡ Some (kind.Exec e) → IsSo (unwrap_or v.script []) (x.done - 1) x.done x.own x.fault

claim_so : (b : Build) (s : State) (w v : ℕ) (a : Answer) → AreSo b s → table b s (Claim w v) ≡ Some a → AreSo b a.0
claim_so b s w v a so given =
    let c = claim_is b s w v a given in
    let z = execution_on v (begin_at b s.store c.start (claim_places s c.start)) (claim_places s c.start) in
    subst (λ (t : Answer). AreSo b t.0) (sym c.gives) (record {
      each = λ u x vertex e there at is. elim (got_set s.workers w (Runs z) u (Runs x) there) [
        | inl h ↦
            let same : z ≡ x = cc (h.1) in
            let own = subst (λ (t : Execution). slice_get b.graph.vertices t.vertex ≡ Some vertex) (sym same) at in
            let vertices : c.start.vertex ≡ vertex = inside (sym c.begins.there ∙ own) in
            subst (λ (t : Execution). IsSo (unwrap_or vertex.script []) (t.done - 1) t.done t.own t.fault) same
            (begun c.start.vertex c.start.inputs vertex e vertices is)
        | inr h ↦ so.each u x vertex e h.1 at is
      ];
    })
  where
    begun : (own : Vertex) (inputs : List TreeMap) (vertex : Vertex) (e : ExecOp) → own ≡ vertex → vertex.op.kind ≡ Some (kind.Exec e)
        → IsSo (unwrap_or vertex.script []) (0 - 1) 0 (workspace_on b.locals own own.op.kind inputs) None
    begun own inputs vertex e same is =
        subst (λ (t : Vertex). IsSo (unwrap_or vertex.script []) (0 - 1) 0 (workspace_on b.locals t t.op.kind inputs) None) (sym same)
        (subst (λ (k : Option Kind). IsSo (unwrap_or vertex.script []) (0 - 1) 0 (workspace_on b.locals vertex k inputs) None) (sym is)
        (record { mounts = _; caches = _; last = 0; is = refl; agrees = inl refl }))

step_as : (b : Build) (s : State) (w : ℕ) (a : Answer) → AreSo b s → table b s (Step w) ≡ Some a → AreSo b a.0
step_as b s w a so given =
    let c = step_is b s w a given in
    let left = step_on c.x.done (Some c.step) (work_of s c.x) in
    subst (λ (t : Answer). AreSo b t.0) (sym c.gives) (record {
      each = λ u x v e there at is. elim (got_set s.workers w (Runs (with_step c.x left)) u (Runs x) there) [
        | inl h ↦
            let same : with_step c.x left ≡ x = cc (h.1) in
            let own = subst (λ (t : Execution). slice_get b.graph.vertices t.vertex ≡ Some v) (sym same) at in
            subst (λ (t : Execution). IsSo (unwrap_or v.script []) (t.done - 1) t.done t.own t.fault) same
            (one_more c.x c.step v e own is (next_step_is (program_in b c.x).steps c.x c.step c.next).clean
            (next_step_is (program_in b c.x).steps c.x c.step c.next).there (so.each w c.x v e c.there own is))
        | inr h ↦ so.each u x v e h.1 at is
      ];
    })
  where
    one_more : (x : Execution) (m : MicroStep) (v : Vertex) (e : ExecOp) → slice_get b.graph.vertices x.vertex ≡ Some v → v.op.kind ≡ Some (kind.Exec e)
        → x.fault ≡ None → slice_get (program_in b x).steps x.done ≡ Some m → IsSo (unwrap_or v.script []) (x.done - 1) x.done x.own x.fault
        → IsSo (unwrap_or v.script []) (x.done + 1 - 1) (x.done + 1) (step_on x.done (Some m) (work_of s x)).work.own
        (step_on x.done (Some m) (work_of s x)).fault
    one_more x m v e at is clean there before =
        let cs = unwrap_or v.script [] in
        let setting = setting_of e.meta in
        let steps = exec_steps b x v e at is in
        let here : slice_get (runs_of setting cs) x.done ≡ Some m = ap (λ ms. slice_get ms x.done) (sym steps) ∙ there in
        let trees = trees_at s.store x.places in
        let none : Agree x.done (drop x.done cs) before.last None = subst (λ f. Agree (x.done - 1) (drop x.done cs) before.last f) clean before.agrees in
        let back : x.done + 1 - 1 ≡ x.done = omega arith in
        subst (λ n. IsSo cs n (x.done + 1) (step_on x.done (Some m) (work_of s x)).work.own (step_on x.done (Some m) (work_of s x)).fault) (sym back)
        (subst (λ n. IsSo cs x.done n (step_on x.done (Some m) (work_of s x)).work.own (step_on x.done (Some m) (work_of s x)).fault) (sym (add-one x.done))
        (by_place (place setting cs x.done) here before none))
      where
        by_place : IsPast (setting_of e.meta) (unwrap_or v.script []) x.done ⊎ IsHere (setting_of e.meta) (unwrap_or v.script []) x.done
            → slice_get (runs_of (setting_of e.meta) (unwrap_or v.script [])) x.done ≡ Some m
            → (before : IsSo (unwrap_or v.script []) (x.done - 1) x.done x.own x.fault)
            → Agree x.done (drop x.done (unwrap_or v.script [])) before.last None
            → IsSo (unwrap_or v.script []) x.done (suc x.done) (step_on x.done (Some m) (work_of s x)).work.own (step_on x.done (Some m) (work_of s x)).fault
        by_place (inl p) here before none = absurd (let e : some_of m ≡ None = sym here ∙ p.step in cc)
        by_place (inr h) here before none =
            let same : Run (setting_of e.meta) h.c (all_and h.later) ≡ m = inside (sym h.step ∙ here) in
            subst (λ (n : MicroStep). IsSo (unwrap_or v.script []) x.done (suc x.done) (step_on x.done (Some n) (work_of s x)).work.own
            (step_on x.done (Some n) (work_of s x)).fault) same
            (subst (λ (own : Workspace). IsSo (unwrap_or v.script []) x.done (suc x.done)
            (micro_step x.done (Run (setting_of e.meta) h.c (all_and h.later)) (record { own = own; trees = trees_at s.store x.places })).work.own
            (micro_step x.done (Run (setting_of e.meta) h.c (all_and h.later)) (record { own = own; trees = trees_at s.store x.places })).fault) (sym before.is)
            (step_so (setting_of e.meta) (unwrap_or v.script []) x.done h before.mounts before.caches before.last (trees_at s.store x.places) none))

event_so : (b : Build) (s : State) (e : Event) (a : Answer) → AreSo b s → table b s e ≡ Some a → AreSo b a.0
event_so b s (Claim w v) a so given = claim_so b s w v a so given
event_so b s (Step w) a so given = step_as b s w a so given
event_so b s (Settle w) a so given =
    let c = settle_is b s w a given in
    subst (λ (t : Answer). AreSo b t.0) (sym c.gives)
    (record {
      each = λ u x v e there at is. elim (got_set s.workers w Idle u (Runs x) there) [ inl h ↦ absurd (cc (h.1)) | inr h ↦ so.each u x v e h.1 at is ];
    })
event_so b s (Cancel w) a so given =
    let c = cancel_is b s w a given in
    subst (λ (t : Answer). AreSo b t.0) (sym c.gives)
    (record {
      each = λ u x v e there at is. elim (got_set s.workers w Idle u (Runs x) there) [ inl h ↦ absurd (cc (h.1)) | inr h ↦ so.each u x v e h.1 at is ];
    })

-- in every state that events lead to, an exec ends by its last status
pub execs_end_by_last_status : (b : Build) → ExecsEndByLastStatus b
execs_end_by_last_status b s r w x v e there at is =
    let all = run_keeps b (AreSo b) (event_so b) (opening b r.opened) s r.events r.replies
    (record { each = λ u y v e there at is. absurd (let h : Runs y ≡ Idle = got_replicate r.opened.workers Idle u (Runs y) there in cc) }) r.leads in
    let so = all.each w x v e there at is in
    let cs = unwrap_or v.script [] in
    let finishes : is_finished (program_in b x).steps x ≡ (is_some x.fault || nat_le (length cs) x.done) =
    ap (λ n. is_some x.fault || nat_le n x.done) (ap length (exec_steps b x v e at is) ∙ length_runs (setting_of e.meta) cs) in
    let last : last_of x.own ≡ so.last = ap last_of so.is in
    record {
      finished = finishes ∙ finished_by cs (x.done - 1) x.done so.last x.fault so.agrees
          ∙ ap (λ n. nat_le (length cs) x.done || (not (n == 0) && all_and (drop x.done cs))) (sym last);
      fails = λ over. fails_by cs (x.done - 1) x.done so.last x.fault so.agrees (sym finishes ∙ over) ∙ ap (fault_of (x.done - 1)) (sym last);
    }
