-- How an exec ends by the last status of its commands, and that a script of `&&` alone runs command after command.
use Rattle.std.proofs.Common.{◌≡◌, ℕ, zero, suc, ◌==◌, Bool, true, false, not, cond, ◌&&◌, ◌||◌, List, [], ◌∷◌, length, map, drop, ◌⊎◌, inl}
use Rattle.std.proofs.Common.{inr, Option, Some, None, is_some, option_map, refl, sym, ap, subst, ◌∙◌, true≢false}
use Rattle.std.specs.Prelude.{slice_get, nat_le}
use Rattle.std.proofs.lemmas.Bool.{false≢true, leb-true, and_parts}
use Rattle.std.proofs.Math.Bool.{or-true, or-false, and-false}
use Rattle.std.proofs.lemmas.List.{drop_all}
use Rattle.std.proofs.lemmas.Option.{slice_get-map}
use Rattle.llb_applet.specs.Commands.{run}
use Rattle.llb_applet.specs.declared.joined_commands.Join.{Join}
use Rattle.llb_applet.specs.declared.joined_commands.Join.TheVariants.{Then, And, Or}
use Rattle.llb_applet.specs.declared.joined_commands.Joined.{Joined}
use Rattle.llb_applet.specs.declared.directory_and_variables.Setting.{Setting}
use Rattle.llb_mount.specs.declared.shown_tree.Shown.{Shown}
use Rattle.llb_tree.specs.Tree.{TreeMap}
use Rattle.llb_events.specs.declared.fault.VertexFault.{VertexFault}
use Rattle.llb_events.specs.declared.fault.VertexFault.TheVariants as fault
use Rattle.llb_model.specs.Program.{MicroStep, Run, Mounted, Work, Left, is_and, all_and, runs_of, filled, taken, blanked, last_of}
use Rattle.llb_model.specs.Program.{is_run, no_fault, ran, micro_step, step_on, unless_faulted, go_on, part}
use Rattle.llb_model.specs.Landing.{is_over}
use Rattle.llb_model.specs.WholeRunLaws.{at_start, later_ran, last_ran, fault_of, EndsByLastStatus, FailsByLastStatus, are_ands, in_turn, AndsRunInTurn}
use Rattle.llb_model.proofs.VertexKinds.{length_runs}

-- ---- the command at a place

-- no command is there
pub record IsPast (setting : Setting) (cs : List Joined) (k : ℕ) : Type 0 where
  pub none : slice_get cs k ≡ None
  pub step : slice_get (runs_of setting cs) k ≡ None
  pub rest : drop k cs ≡ []
  pub next : drop (suc k) cs ≡ []

-- one is there, with those after it
pub record IsHere (setting : Setting) (cs : List Joined) (k : ℕ) : Type 0 where
  pub c : Joined
  pub later : List Joined
  pub some : slice_get cs k ≡ Some c
  pub step : slice_get (runs_of setting cs) k ≡ Some (Run setting c (all_and later))
  pub rest : drop k cs ≡ c ∷ later
  pub next : drop (suc k) cs ≡ later

-- a number is past the commands, or there is one
pub place : (setting : Setting) (cs : List Joined) (k : ℕ) → IsPast setting cs k ⊎ IsHere setting cs k
place setting [] zero = inl (record { none = refl; step = refl; rest = refl; next = refl })
place setting [] (suc k) = inl (record { none = refl; step = refl; rest = refl; next = refl })
place setting (c ∷ cs) zero = inr (record { c = c; later = cs; some = refl; step = refl; rest = refl; next = refl })
place setting (c ∷ cs) (suc k) = elim (place setting cs k) [
  | inl p ↦ inl (record { none = p.none; step = p.step; rest = p.rest; next = p.next })
  | inr h ↦ inr (record { c = h.c; later = h.later; some = h.some; step = h.step; rest = h.rest; next = h.next })
]

-- what an exec has left
abbrev work_at : List Shown → List ℕ → ℕ → List TreeMap → Work
work_at mounts caches last trees = record { own = Mounted mounts caches last; trees = trees }

abbrev left_at : List Shown → List ℕ → ℕ → List TreeMap → Option VertexFault → Left
left_at mounts caches last trees f = record { work = record { own = Mounted mounts caches last; trees = trees }; fault = f }

-- ---- how it ends

-- how the last status and the fault agree: without a fault the exec goes on, or has ended well; a fault is that of the last command that
-- ran, and no later command can run
abbrev pub Agree : ℕ → List Joined → ℕ → Option VertexFault → Type 0
Agree c rest last None = ((last == 0) ≡ true) ⊎ (all_and rest ≡ false)
Agree c rest last (Some f) = (f ≡ fault.Exit c last) × ((last == 0) ≡ false) × (all_and rest ≡ true)

record Stands (setting : Setting) (cs : List Joined) (work : Work) (k : ℕ) : Type 0 where
  mounts : List Shown
  caches : List ℕ
  last : ℕ
  trees : List TreeMap
  fault : Option VertexFault
  is : part (runs_of setting cs) work k ≡ left_at mounts caches last trees fault
  agrees : Agree (last_ran setting cs work k) (drop k cs) last fault

-- of a command that is skipped and those after it: none can run where the last status is not 0
pub skips : (join : Join) (later : Bool) (last : ℕ) → is_run join last ≡ false → ((last == 0) ≡ true) ⊎ ((is_and join && later) ≡ false)
    → ((last == 0) ≡ true) ⊎ (later ≡ false)
skips Then later last off agrees = absurd (true≢false off)
skips And later last off agrees = agrees
skips Or later last off agrees = inl (twice (last == 0) off)
  where
    twice : (b : Bool) → not b ≡ false → b ≡ true
    twice true e = refl
    twice false e = absurd (true≢false e)

-- a command that is joined by And is skipped where the last status is not 0
and_skips : (join : Join) (last : ℕ) → is_and join ≡ true → (last == 0) ≡ false → is_run join last ≡ false
and_skips Then last is other = absurd (false≢true is)
and_skips And last is other = other
and_skips Or last is other = absurd (false≢true is)

module _ (setting : Setting) (cs : List Joined) (work : Work) (k : ℕ) where
  steps : List MicroStep
  steps = runs_of setting cs

  -- a further micro-step, where this is left before it
  next_is : (left : Left) → part (runs_of setting cs) work k ≡ left → part (runs_of setting cs) work (suc k)
      ≡ unless_faulted left.fault left (step_on k (slice_get (runs_of setting cs) k) left.work)
  unfolding part
  next_is left is = ap (go_on (runs_of setting cs) k) is

  -- past the last command nothing changes
  stands_past : IsPast setting cs k → Stands setting cs work k → Stands setting cs work (suc k)
  stands_past p s = record {
    mounts = s.mounts;
    caches = s.caches;
    last = s.last;
    trees = s.trees;
    fault = s.fault;
    is = next_is (left_at s.mounts s.caches s.last s.trees s.fault) s.is
        ∙ ap (λ m. unless_faulted s.fault (left_at s.mounts s.caches s.last s.trees s.fault)
        (step_on k m (record { own = Mounted s.mounts s.caches s.last; trees = s.trees }))) p.step
        ∙ stays s.fault;
    agrees = subst (λ n. Agree n (drop (suc k) cs) s.last s.fault)
        (sym (ap (λ o. later_ran k o (last_of (part (runs_of setting cs) work k).work.own) (last_ran setting cs work k)) p.none))
        (subst (λ ds. Agree (last_ran setting cs work k) ds s.last s.fault) (p.rest ∙ sym p.next) s.agrees);
  }
    where
      stays : (f : Option VertexFault) → unless_faulted f (left_at s.mounts s.caches s.last s.trees f)
          (no_fault (record { own = Mounted s.mounts s.caches s.last; trees = s.trees })) ≡ left_at s.mounts s.caches s.last s.trees f
      stays None = refl
      stays (Some f) = refl

  module _ (h : IsHere setting cs k) (mounts : List Shown) (caches : List ℕ) (last : ℕ) (trees : List TreeMap) where
    abbrev own_work : Work
    own_work = record { own = Mounted mounts caches last; trees = trees }

    -- whether the command at hand is the last that ran
    last_here : (f : Option VertexFault) → part (runs_of setting cs) work k ≡ left_at mounts caches last trees f
        → last_ran setting cs work (suc k) ≡ cond (is_run h.c.join last) k (last_ran setting cs work k)
    last_here f is =
        ap (λ o. later_ran k o (last_of (part (runs_of setting cs) work k).work.own) (last_ran setting cs work k)) h.some
        ∙ ap (λ (left : Left). later_ran k (Some h.c) (last_of left.work.own) (last_ran setting cs work k)) is

    -- what micro-step k leaves without a fault before it
    goes_on : part (runs_of setting cs) work k ≡ left_at mounts caches last trees None → part (runs_of setting cs) work (suc k)
        ≡ cond (is_run h.c.join last) (ran k (all_and h.later) mounts caches trees (run setting (filled mounts caches trees) h.c.command)) (no_fault own_work)
    unfolding micro_step
    goes_on is = next_is (left_at mounts caches last trees None) is ∙ ap (λ m. step_on k m own_work) h.step

    -- after a fault nothing changes
    stands_failed : (f : VertexFault) → part (runs_of setting cs) work k ≡ left_at mounts caches last trees (Some f)
        → Agree (last_ran setting cs work k) (drop k cs) last (Some f) → Stands setting cs work (suc k)
    stands_failed f is agrees =
        let ands = and_parts (is_and h.c.join) (all_and h.later) (ap all_and (sym h.rest) ∙ agrees.2) in
        let same : last_ran setting cs work (suc k) ≡ last_ran setting cs work k =
        last_here (Some f) is ∙ ap (λ b. cond b k (last_ran setting cs work k)) (and_skips h.c.join last ands.0 agrees.1) in
        record {
          mounts = mounts;
          caches = caches;
          last = last;
          trees = trees;
          fault = Some f;
          is = next_is (left_at mounts caches last trees (Some f)) is;
          agrees = (agrees.0 ∙ ap (λ n. fault.Exit n last) (sym same), agrees.1, ap all_and h.next ∙ ands.1);
        }

    -- a command that is skipped
    stands_skipped : is_run h.c.join last ≡ false → part (runs_of setting cs) work k ≡ left_at mounts caches last trees None
        → Agree (last_ran setting cs work k) (drop k cs) last None → Stands setting cs work (suc k)
    stands_skipped off is agrees = record {
      mounts = mounts;
      caches = caches;
      last = last;
      trees = trees;
      fault = None;
      is = goes_on is
          ∙ ap (λ b. cond b (ran k (all_and h.later) mounts caches trees (run setting (filled mounts caches trees) h.c.command)) (no_fault own_work)) off;
      agrees = subst (λ ds. ((last == 0) ≡ true) ⊎ (all_and ds ≡ false)) (sym h.next)
          (skips h.c.join (all_and h.later) last off (subst (λ ds. ((last == 0) ≡ true) ⊎ (all_and ds ≡ false)) h.rest agrees));
    }

    -- a command that runs
    stands_run : is_run h.c.join last ≡ true → part (runs_of setting cs) work k ≡ left_at mounts caches last trees None → Stands setting cs work (suc k)
    stands_run on is =
        by_view (run setting (filled mounts caches trees) h.c.command) (goes_on is
        ∙ ap (λ b. cond b (ran k (all_and h.later) mounts caches trees (run setting (filled mounts caches trees) h.c.command)) (no_fault own_work)) on)
      where
        ran_here : last_ran setting cs work (suc k) ≡ k
        ran_here = last_here None is ∙ ap (λ b. cond b k (last_ran setting cs work k)) on

        failed : (ends : Bool) → all_and h.later ≡ ends
            → part (runs_of setting cs) work (suc k) ≡ left_at mounts caches 1 trees (cond ends (Some (fault.Exit k 1)) None) → Stands setting cs work (suc k)
        failed true ends left = record {
          mounts = mounts;
          caches = caches;
          last = 1;
          trees = trees;
          fault = Some (fault.Exit k 1);
          is = left;
          agrees = (ap (λ n. fault.Exit n 1) (sym ran_here), refl, ap all_and h.next ∙ ends);
        }
        failed false ends left = record {
          mounts = mounts;
          caches = caches;
          last = 1;
          trees = trees;
          fault = None;
          is = left;
          agrees = inr (ap all_and h.next ∙ ends);
        }

        by_view : (o : Option (List Shown)) → part (runs_of setting cs) work (suc k) ≡ ran k (all_and h.later) mounts caches trees o
            → Stands setting cs work (suc k)
        by_view (Some after) left = record {
          mounts = blanked after caches trees;
          caches = caches;
          last = 0;
          trees = taken after caches trees;
          fault = None;
          is = left;
          agrees = inl refl;
        }
        by_view None left = failed (all_and h.later) refl left

  -- one micro-step more
  stands_later : Stands setting cs work k → Stands setting cs work (suc k)
  stands_later s = elim (place setting cs k) [ inl p ↦ stands_past p s | inr h ↦ by_fault h s.fault s.is s.agrees ]
    where
      by_run : (h : IsHere setting cs k) → part (runs_of setting cs) work k ≡ left_at s.mounts s.caches s.last s.trees None
          → Agree (last_ran setting cs work k) (drop k cs) s.last None → (b : Bool) → is_run h.c.join s.last ≡ b → Stands setting cs work (suc k)
      by_run h is agrees true on = stands_run h s.mounts s.caches s.last s.trees on is
      by_run h is agrees false off = stands_skipped h s.mounts s.caches s.last s.trees off is agrees

      by_fault : (h : IsHere setting cs k) (f : Option VertexFault) → part (runs_of setting cs) work k ≡ left_at s.mounts s.caches s.last s.trees f
          → Agree (last_ran setting cs work k) (drop k cs) s.last f → Stands setting cs work (suc k)
      by_fault h None is agrees = by_run h is agrees (is_run h.c.join s.last) refl
      by_fault h (Some f) is agrees = stands_failed h s.mounts s.caches s.last s.trees f is agrees

stands : (setting : Setting) (cs : List Joined) (mounts : List Shown) (caches : List ℕ) (trees : List TreeMap) (k : ℕ)
    → Stands setting cs (at_start mounts caches trees) k
unfolding part
stands setting cs mounts caches trees zero = record {
  mounts = mounts;
  caches = caches;
  last = 0;
  trees = trees;
  fault = None;
  is = refl;
  agrees = inl refl;
}
stands setting cs mounts caches trees (suc k) = stands_later setting cs (at_start mounts caches trees) k (stands setting cs mounts caches trees k)

-- no command is left where the last one is done
none_left : (cs : List Joined) (k : ℕ) → nat_le (length cs) k ≡ true → drop k cs ≡ []
none_left cs k e = drop_all k cs (leb-true (length cs) k e)

module _ (cs : List Joined) (c k last : ℕ) where
  -- where the last status and the fault agree, both say when an exec is finished
  pub finished_by : (f : Option VertexFault) → Agree c (drop k cs) last f
      → (is_some f || nat_le (length cs) k) ≡ (nat_le (length cs) k || (not (last == 0) && all_and (drop k cs)))
  finished_by None (inl well) = sym (ap (λ b. nat_le (length cs) k || (not b && all_and (drop k cs))) well ∙ or-false (nat_le (length cs) k))
  finished_by None (inr more) =
      sym (ap (λ b. nat_le (length cs) k || (not (last == 0) && b)) more ∙ ap (λ b. nat_le (length cs) k || b) (and-false (not (last == 0)))
      ∙ or-false (nat_le (length cs) k))
  finished_by (Some f) agrees = sym ((λ i. nat_le (length cs) k || (not (agrees.1 i) && agrees.2 i)) ∙ or-true (nat_le (length cs) k))

  -- and then its fault is there exactly where the last status is not 0
  pub fails_by : (f : Option VertexFault) → Agree c (drop k cs) last f → (is_some f || nat_le (length cs) k) ≡ true → f ≡ fault_of c last
  fails_by None (inl well) over = sym (ap (λ b. cond b None (Some (fault.Exit c last))) well)
  fails_by None (inr more) over = absurd (true≢false (sym (ap all_and (none_left cs k over)) ∙ more))
  fails_by (Some f) agrees over = ap (λ g. Some g) agrees.0 ∙ sym (ap (λ b. cond b None (Some (fault.Exit c last))) agrees.1)

module _ (setting : Setting) (cs : List Joined) (work : Work) (k : ℕ) (s : Stands setting cs work k) where
  over_is : is_over (runs_of setting cs) k (part (runs_of setting cs) work k) ≡ (is_some s.fault || nat_le (length cs) k)
  over_is = ap (is_over (runs_of setting cs) k) s.is ∙ ap (λ n. is_some s.fault || nat_le n k) (length_runs setting cs)

  ends : EndsByLastStatus setting cs work k
  ends = record {
    finished = over_is ∙ finished_by cs (last_ran setting cs work k) k s.last s.fault s.agrees
        ∙ ap (λ (left : Left). nat_le (length cs) k || (not (last_of left.work.own == 0) && all_and (drop k cs))) (sym s.is);
    fails = λ over. ap (λ (left : Left). left.fault) s.is
        ∙ fails_by cs (last_ran setting cs work k) k s.last s.fault s.agrees (sym over_is ∙ over)
        ∙ ap (λ (left : Left). fault_of (last_ran setting cs work k) (last_of left.work.own)) (sym s.is);
  }

-- an exec fails by its last status
pub fails_by_last_status : FailsByLastStatus
fails_by_last_status setting cs mounts caches trees k = ends setting cs (at_start mounts caches trees) k (stands setting cs mounts caches trees k)

-- ---- scripts of `&&` alone

all_later : (cs : List Joined) (k : ℕ) → all_and cs ≡ true → all_and (drop k cs) ≡ true
all_later cs zero e = e
all_later [] (suc k) e = refl
all_later (c ∷ cs) (suc k) e = all_later cs k (and_parts (is_and c.join) (all_and cs) e).1

and_runs : (join : Join) → is_and join ≡ true → is_run join 0 ≡ true
and_runs Then is = refl
and_runs And is = refl
and_runs Or is = absurd (false≢true is)

-- a command of such a script runs after status 0, and each later one is joined by And
runs_at : (cs : List Joined) (k : ℕ) (c : Joined) (later : List Joined) → are_ands cs ≡ true → drop k cs ≡ c ∷ later
    → (is_run c.join 0 ≡ true) × (all_and later ≡ true)
runs_at [] zero c later ands at = absurd cc
runs_at [] (suc k) c later ands at = absurd cc
runs_at (d ∷ ds) zero c later ands at =
    let halves = and_parts (is_run d.join 0) (all_and ds) ands in
    let same : d ≡ c = cc in
    let rest : ds ≡ later = cc in
    (ap (λ (x : Joined). is_run x.join 0) (sym same) ∙ halves.0, ap all_and (sym rest) ∙ halves.1)
runs_at (d ∷ ds) (suc k) c later ands at =
    let halves = and_parts (is_run d.join 0) (all_and ds) ands in
    let all = and_parts (is_and c.join) (all_and later) (ap all_and (sym at) ∙ all_later ds k halves.1) in
    (and_runs c.join all.0, all.1)

record GoesInTurn (setting : Setting) (cs : List Joined) (work : Work) (k : ℕ) : Type 0 where
  mounts : List Shown
  caches : List ℕ
  last : ℕ
  trees : List TreeMap
  fault : Option VertexFault
  is : part (runs_of setting cs) work k ≡ left_at mounts caches last trees fault
  same : part (map (in_turn setting) cs) work k ≡ left_at mounts caches last trees fault
  well : fault ≡ None → last ≡ 0

module _ (setting : Setting) (cs : List Joined) (work : Work) (k : ℕ) (ands : are_ands cs ≡ true) where
  turn_is : (left : Left) → part (map (in_turn setting) cs) work k ≡ left → part (map (in_turn setting) cs) work (suc k)
      ≡ unless_faulted left.fault left (step_on k (slice_get (map (in_turn setting) cs) k) left.work)
  unfolding part
  turn_is left is = ap (go_on (map (in_turn setting) cs) k) is

  turn_later : GoesInTurn setting cs work k → GoesInTurn setting cs work (suc k)
  unfolding micro_step
  turn_later s = by_fault s.fault s.is s.same s.well
    where
      by_view : (o : Option (List Shown)) → part (runs_of setting cs) work (suc k) ≡ ran k true s.mounts s.caches s.trees o
          → part (map (in_turn setting) cs) work (suc k) ≡ ran k true s.mounts s.caches s.trees o → GoesInTurn setting cs work (suc k)
      by_view (Some after) is same = record {
        mounts = blanked after s.caches s.trees;
        caches = s.caches;
        last = 0;
        trees = taken after s.caches s.trees;
        fault = None;
        is = is;
        same = same;
        well = λ clean. refl;
      }
      by_view None is same = record {
        mounts = s.mounts;
        caches = s.caches;
        last = 1;
        trees = s.trees;
        fault = Some (fault.Exit k 1);
        is = is;
        same = same;
        well = λ clean. absurd cc;
      }

      here : (h : IsHere setting cs k) → part (runs_of setting cs) work k ≡ left_at s.mounts s.caches s.last s.trees None
          → part (map (in_turn setting) cs) work k ≡ left_at s.mounts s.caches s.last s.trees None → s.last ≡ 0 → GoesInTurn setting cs work (suc k)
      here h is same well =
          let at = runs_at cs k h.c h.later ands h.rest in
          let on : is_run h.c.join s.last ≡ true = ap (is_run h.c.join) well ∙ at.0 in
          let view = run setting (filled s.mounts s.caches s.trees) h.c.command in
          by_view view
          (goes_on setting cs work k h s.mounts s.caches s.last s.trees is
          ∙ ap (λ b. cond b (ran k (all_and h.later) s.mounts s.caches s.trees view) (no_fault (work_at s.mounts s.caches s.last s.trees))) on
          ∙ ap (λ b. ran k b s.mounts s.caches s.trees view) at.1)
          (turn_is (left_at s.mounts s.caches s.last s.trees None) same
          ∙ ap (λ m. step_on k m (work_at s.mounts s.caches s.last s.trees)) (slice_get-map (in_turn setting) cs k ∙ ap (option_map (in_turn setting)) h.some))

      past : IsPast setting cs k → part (runs_of setting cs) work k ≡ left_at s.mounts s.caches s.last s.trees None
          → part (map (in_turn setting) cs) work k ≡ left_at s.mounts s.caches s.last s.trees None → s.last ≡ 0 → GoesInTurn setting cs work (suc k)
      past p is same well = record {
        mounts = s.mounts;
        caches = s.caches;
        last = s.last;
        trees = s.trees;
        fault = None;
        is = next_is setting cs work k (left_at s.mounts s.caches s.last s.trees None) is
            ∙ ap (λ m. step_on k m (work_at s.mounts s.caches s.last s.trees)) p.step;
        same = turn_is (left_at s.mounts s.caches s.last s.trees None) same
            ∙ ap (λ m. step_on k m (work_at s.mounts s.caches s.last s.trees))
            (slice_get-map (in_turn setting) cs k ∙ ap (option_map (in_turn setting)) p.none);
        well = λ clean. well;
      }

      by_fault : (f : Option VertexFault) → part (runs_of setting cs) work k ≡ left_at s.mounts s.caches s.last s.trees f
          → part (map (in_turn setting) cs) work k ≡ left_at s.mounts s.caches s.last s.trees f → (f ≡ None → s.last ≡ 0) → GoesInTurn setting cs work (suc k)
      by_fault None is same well = elim (place setting cs k) [ inl p ↦ past p is same (well refl) | inr h ↦ here h is same (well refl) ]
      by_fault (Some f) is same well = record {
        mounts = s.mounts;
        caches = s.caches;
        last = s.last;
        trees = s.trees;
        fault = Some f;
        is = next_is setting cs work k (left_at s.mounts s.caches s.last s.trees (Some f)) is;
        same = turn_is (left_at s.mounts s.caches s.last s.trees (Some f)) same;
        well = well;
      }

goes_in_turn : (setting : Setting) (cs : List Joined) (mounts : List Shown) (caches : List ℕ) (trees : List TreeMap) (k : ℕ) → are_ands cs ≡ true
    → GoesInTurn setting cs (at_start mounts caches trees) k
unfolding part
goes_in_turn setting cs mounts caches trees zero ands = record {
  mounts = mounts;
  caches = caches;
  last = 0;
  trees = trees;
  fault = None;
  is = refl;
  same = refl;
  well = λ clean. refl;
}
goes_in_turn setting cs mounts caches trees (suc k) ands =
    turn_later setting cs (at_start mounts caches trees) k ands (goes_in_turn setting cs mounts caches trees k ands)

-- such a script runs command after command, up to the first status other than 0
pub ands_run_in_turn : AndsRunInTurn
ands_run_in_turn setting cs mounts caches trees k ands =
    let s = goes_in_turn setting cs mounts caches trees k ands in
    record {
      leaves = s.is ∙ sym s.same;
      runs = λ c clean there.
          let well = s.well (ap (λ (left : Left). left.fault) (sym s.is) ∙ clean) in
          ap (λ (left : Left). is_run c.join (last_of left.work.own)) s.is ∙ ap (is_run c.join) well ∙ by_place c there (place setting cs k);
    }
  where
    by_place : (c : Joined) → slice_get cs k ≡ Some c → IsPast setting cs k ⊎ IsHere setting cs k → is_run c.join 0 ≡ true
    by_place c there (inl p) = let none : Some c ≡ None = sym there ∙ p.none in absurd cc
    by_place c there (inr h) =
        let same : c ≡ h.c = (let e : Some c ≡ Some h.c = sym there ∙ h.some in cc) in
        ap (λ (x : Joined). is_run x.join 0) same ∙ (runs_at cs k h.c h.later ands h.rest).0
