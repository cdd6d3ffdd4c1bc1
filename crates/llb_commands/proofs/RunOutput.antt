-- What a run prints for the bytes that it read.
use Rattle.std.proofs.Common.{◌≡◌, ℕ, ◌<◌, Bool, true, false, cond, ltb, List, [], length, ◌⊎◌, Option, Some, None, Result, Ok, Err, inl}
use Rattle.std.proofs.Common.{inr, refl, sym, ap, subst, ◌∙◌}
use Rattle.std.specs.Prelude.{IfSome, IfOk, IfErr}
use Rattle.std.proofs.lemmas.Bool.{lt-ltb}
use Rattle.llb_ops.specs.declared.fault.OpFault.TheVariants.{OverLimit}
use Rattle.llb_ops.specs.Limits.{definition_limit}
use Rattle.llb_ops.specs.Definition.{definition_of}
use Rattle.llb_tree.specs.Tree.{TreeMap}
use Rattle.llb_loader.specs.declared.fault.LoadFault.{LoadFault}
use Rattle.llb_loader.specs.declared.fault.LoadFault.TheVariants.{Definition}
use Rattle.llb_loader.specs.Faults.{is_memory}
use Rattle.llb_loader.specs.Graph.{Numbered, IsGraph}
use Rattle.llb_loader.specs.LocalSources.{Local}
use Rattle.llb_loader.specs.LoadResult.{IsGraphIn, IsRefusalIn}
use Rattle.llb_board.specs.BoardValue.{BoardValue, opened}
use Rattle.llb_commands.specs.declared.fault.ProgramFault.{ProgramFault}
use Rattle.llb_commands.specs.declared.fault.ProgramFault.TheVariants.{Refused, Loading}
use Rattle.llb_commands.specs.declared.fault.ProgramFault.TheVariants as fault
use Rattle.llb_work.specs.declared.run_end.RunFault.{RunFault}
use Rattle.llb_model.specs.Program.{Build}
use Rattle.llb_model.specs.State.{State}
use Rattle.llb_treetext.specs.TreeText.{tree_text}
use Rattle.llb_session.specs.GraphText.{graph_text}
use Rattle.llb_commands.specs.ProgramOutput.{build_of, result_in, Yields, YieldsAll, IsRefused, IsUnopened, IsNotRun, YieldsPart, DrawsPart, FailsAll}
use Rattle.llb_commands.specs.ProgramOutput.{failed_lines}
use Rattle.llb_commands.specs.ProgramOutput.{Runs}
use Rattle.llb_commands.specs.Faults.{Tells, TellsWhy, status_of}
use Rattle.llb_commands.specs.CallStreams.{Stream, IsKept, IsPartWritten, IsWritten}
use Rattle.llb_commands.proofs.DriverRunEnds.{result_fails, tree_fails_none, plain_tree}
use Rattle.llb_commands.specs.Running.{passed_on, unread_as, IsRefusal, TellsRefusal, IsFinished, IsWhole, Finishes, Opens, Shows, YieldsNoneOn, Answers, Ends}
use Rattle.llb_commands.specs.declared.run.Ended.{Ended}
use Rattle.llb_commands.specs.declared.run.Ended.TheVariants as ended
use Rattle.llb_commands.specs.Assembly.{IsUnread}
use Rattle.llb_commands.specs.MatchText.{IsOverLimit}
use Rattle.llb_commands.specs.BoundedReading.{ReadsAll}
use Rattle.llb_commands.specs.declared.bounded_reading.ReadFault.{ReadFault}
use Rattle.llb_commands.specs.declared.bounded_reading.ReadFault.TheVariants.{TooLong, Failed, Unending}
use Rattle.llb_commands.specs.declared.bounded_reading.ReadFault.TheVariants as reading
use Rattle.std.specs.Prelude.{Vec}
use Rattle.std.specs.Global.{Global}
use Rattle.std.specs.Io.KnownBytes.{Keeps}
use Rattle.std.proofs.KnownBytes.{Appends-kept, Keeps-refl, Keeps-trans}
use Rattle.std.proofs.lemmas.List.{append-nil}

-- a stream by what it held and what it holds
abbrev pub stream : Option (List ℕ) → Option (List ℕ) → Stream
stream before after = record { before = before; after = after }

-- where what is known has one fact, it has any that follows from it
pub some_map : {A : Type 0} (P Q : A → Type 0) (o : Option A) → ((x : A) → P x → Q x) → IfSome o P → IfSome o Q
some_map P Q None f h = tt
some_map P Q (Some x) f h = f x h

-- bytes past the limit are no definition
pub unread_long : (bytes : List ℕ) → 67108864 < length bytes → definition_of bytes ≡ Err OverLimit
unfolding definition_of
unread_long bytes long = let yes : ltb definition_limit (length bytes) ≡ true = lt-ltb _ _ long in rw yes refl

-- bytes over the limit are refused
refuses_long : (bytes : List ℕ) → 67108864 < length bytes → IsRefused (Refused (Definition OverLimit)) bytes
refuses_long bytes long = (Definition OverLimit, inl (OverLimit, unread_long bytes long, refl), refl)

-- what the loader refuses is refused
pub tells : (left : Option (List ℕ)) (e : LoadFault) (bytes : List ℕ) → IfSome left (λ xs. bytes ≡ xs)
    → (is_memory e ≡ false → IsRefusalIn bytes e) → TellsRefusal IsRefused left (passed_on e)
tells left e bytes read refused h =
    let plain = by_test (is_memory e) refl h in
    let passed : passed_on e ≡ Refused e = ap (λ b. cond b Loading (Refused e)) plain in
    some_map (λ xs. bytes ≡ xs) (IsRefused (passed_on e)) left (λ xs same. (e, subst (λ ys. IsRefusalIn ys e) same (refused plain), passed)) read
  where
    by_test : (b : Bool) → is_memory e ≡ b → IsRefusal (cond b Loading (Refused e)) → is_memory e ≡ false
    by_test true is h = absurd h
    by_test false is h = is

-- what was read is the definition of the graph that was loaded
pub reads_graph : (left : Option (List ℕ)) (g : Numbered) (bytes : List ℕ) → IfSome left (λ xs. bytes ≡ xs) → IsGraphIn bytes g
    → IfSome left (λ xs. IsGraphIn xs g)
reads_graph left g bytes read loaded = some_map (λ xs. bytes ≡ xs) (λ xs. IsGraphIn xs g) left (λ xs same. subst (λ ys. IsGraphIn ys g) same loaded) read

module _ (workers : ℕ) (ls : List Local) (left : Option (List ℕ)) (g : Numbered) (graph : IsGraph g) (b : BoardValue) (fin : IsFinished workers ls g b)
    (loads : IfSome left (λ bytes. IsGraphIn bytes g)) where
  yields : (bytes : List ℕ) → IsGraphIn bytes g → (t : TreeMap) → result_in b.state g ≡ Some t → Yields workers ls bytes (tree_text t)
  yields bytes loaded t is = record {
    graph = g;
    loaded = loaded;
    state = b.state;
    ended = fin.ended;
    tree = t;
    result = is;
    plainly = plain_tree (build_of ls g) graph b.state fin.ended.plain t is;
    none_failed = tree_fails_none (build_of ls g) graph b.state fin.here t is;
    printed = refl;
  }

  answers_text : (output : Stream) (t : TreeMap) → result_in b.state g ≡ Some t → IsWritten output (tree_text t) → IfSome left (YieldsAll workers ls output)
  answers_text output t is app = some_map (λ bytes. IsGraphIn bytes g) (YieldsAll workers ls output) left (λ bytes loaded.
      (tree_text t, yields bytes loaded t is, app)) loads

  answers_part : (output : Stream) (t : TreeMap) → result_in b.state g ≡ Some t → IsPartWritten output (tree_text t)
      → IfSome left (YieldsPart workers ls output)
  answers_part output t is part = some_map (λ bytes. IsGraphIn bytes g) (YieldsPart workers ls output) left (λ bytes loaded.
      (tree_text t, yields bytes loaded t is, part)) loads

  answers_none : result_in b.state g ≡ None → IfSome left (YieldsNoneOn workers ls b)
  answers_none none =
      let fails = result_fails (build_of ls g) graph b.state fin.here fin.ended.complete none in
      some_map (λ bytes. IsGraphIn bytes g) (YieldsNoneOn workers ls b) left (λ bytes loaded. (
        record { graph = g; loaded = loaded; state = b.state; ended = fin.ended; result = none; fails = fails },
        refl,
        sym fin.build,
      )) loads

  shown : (output : Stream) (r : Result Ended ProgramFault) → Shows b output (result_in b.state g) r → Answers workers ls left output r
  shown output (Ok ended.Printed) s = answers_text output s.0 s.1 s.2
  shown output (Ok (ended.Failed x)) s = (s.2, subst (λ y. IfSome left (YieldsNoneOn workers ls y)) (sym s.0) (answers_none s.1))
  shown output (Err e) s = inr (s.0, answers_part output s.1.0 s.1.1 s.1.2)

-- what is shown of the result is the answer of the run
pub answers : (workers : ℕ) (ls : List Local) (left : Option (List ℕ)) (b : BoardValue) → IsGraph b.build.graph → Finishes workers ls left (Ok b)
    → (output : Stream)
    (r : Result Ended ProgramFault) → Shows b output (result_in b.state b.build.graph) r → Answers workers ls left output r
answers workers ls left b graph (g, loads, fin) output r shows =
    let same : b.build.graph ≡ g = ap (λ (x : Build). x.graph) fin.build in
    shown workers ls left g (subst IsGraph same graph) b fin loads output r (subst (λ h. Shows b output (result_in b.state h) r) same shows)

-- ---- what the parts returned, where it is known

abbrev read_err : ReadFault → Result (Vec ℕ Global) ReadFault
read_err e = Err e

pub too_long : (left left' : Option (List ℕ)) (r : Result (Vec ℕ Global) ReadFault) (e : ReadFault) → r ≡ Err e → e ≡ TooLong
    → ReadsAll 67108864 134217728 left left' r → IfSome left (λ xs. 67108864 < length xs)
too_long left left' r e is same reads =
    let h : ReadsAll 67108864 134217728 left left' (Err TooLong) = subst (ReadsAll 67108864 134217728 left left') (is ∙ ap read_err same) reads in h

-- a refusal of what was not read holds, where it holds of all bytes that are too long
module _ (IsSo : ProgramFault → List ℕ → Type 0) (long : (bytes : List ℕ) → 67108864 < length bytes → IsSo (Refused (Definition OverLimit)) bytes)
    (left left' : Option (List ℕ)) (r : Result (Vec ℕ Global) ReadFault) where
  by_fault : (e : ReadFault) → r ≡ Err e → ReadsAll 67108864 134217728 left left' r → TellsRefusal IsSo left (unread_as e)
  by_fault TooLong is reads = λ _. some_map (λ xs. 67108864 < length xs) (IsSo (Refused (Definition OverLimit))) left long
      (too_long left left' r TooLong is refl reads)
  by_fault (Failed kind) is reads = λ h. absurd h
  by_fault (Unending interrupted) is reads = λ h. absurd h
  by_fault reading.Memory is reads = λ h. absurd h

  tells_so : (e : ReadFault) (p : ProgramFault) → r ≡ Err e → p ≡ unread_as e → ReadsAll 67108864 134217728 left left' r → TellsRefusal IsSo left p
  tells_so e p is same reads = subst (TellsRefusal IsSo left) (sym same) (by_fault e is reads)

-- a definition that can't be read, or that is over the limit, is refused
pub tells_unread : (left left' : Option (List ℕ)) (r : Result (Vec ℕ Global) ReadFault) (e : ReadFault) (p : ProgramFault)
    → r ≡ Err e → p ≡ unread_as e → ReadsAll 67108864 134217728 left left' r → TellsRefusal IsRefused left p
tells_unread = tells_so IsRefused refuses_long

-- for a definition that can't be read, or that is over the limit, the refusal says that it is unread
pub tells_no_definition : (left left' : Option (List ℕ)) (r : Result (Vec ℕ Global) ReadFault) (e : ReadFault) (p : ProgramFault)
    → r ≡ Err e → p ≡ unread_as e → ReadsAll 67108864 134217728 left left' r → TellsRefusal IsUnread left p
tells_no_definition = tells_so IsUnread (λ bytes long. inr (long, refl))

-- it is too long
pub tells_over_limit : (left left' : Option (List ℕ)) (r : Result (Vec ℕ Global) ReadFault) (e : ReadFault) (p : ProgramFault)
    → r ≡ Err e → p ≡ unread_as e → ReadsAll 67108864 134217728 left left' r → TellsRefusal IsOverLimit left p
tells_over_limit = tells_so IsOverLimit (λ bytes long. (long, refl))

-- a reading without a fault returns all the bytes that were left
pub all_read : (left left' : Option (List ℕ)) (r : Result (Vec ℕ Global) ReadFault) (bytes : Vec ℕ Global) → r ≡ Ok bytes
    → ReadsAll 67108864 134217728 left left' r → IfSome left (λ xs. bytes.items ≡ xs)
all_read left left' r bytes is reads =
    let h : ReadsAll 67108864 134217728 left left' (Ok bytes) = subst (ReadsAll 67108864 134217728 left left') is reads in h.1

-- ---- a whole run

-- a run that is whole has ended
pub finishes_whole : (workers : ℕ) (ls : List Local) (left : Option (List ℕ)) (g : Numbered) (b : BoardValue) (fault : Option RunFault)
    (r : Result BoardValue ProgramFault) → IfSome left (λ bytes. IsGraphIn bytes g) → (fault ≡ None → IsFinished workers ls g b) → IsWhole b fault r
    → Finishes workers ls left r
finishes_whole workers ls left g b fault (Ok x) loads ends (same, none) = (g, loads, subst (IsFinished workers ls g) (sym same) (ends none))
finishes_whole workers ls left g b fault (Err e) loads ends is = λ refusal. absurd (is refusal)

-- a fault is a refusal, with the status 2, or its status is 3
pub refusal_or_three : (e : ProgramFault) → (IsRefusal e × (status_of e ≡ 2)) ⊎ (status_of e ≡ 3)
refusal_or_three (Refused f) = inl (tt, refl)
refusal_or_three (fault.MissingLocal name) = inl (tt, refl)
refusal_or_three fault.Workers = inl (tt, refl)
refusal_or_three (fault.Unread f) = inl (tt, refl)
refusal_or_three (fault.Assembling f) = inl (tt, refl)
refusal_or_three fault.TooLong = inl (tt, refl)
refusal_or_three Loading = inr refl
refusal_or_three fault.Opening = inr refl
refusal_or_three (fault.Run f) = inr refl
refusal_or_three (fault.Print f) = inr refl
refusal_or_three (fault.Output f) = inr refl
refusal_or_three fault.Entries = inr refl
refusal_or_three (fault.Text f) = inr refl
refusal_or_three fault.Read = inr refl
refusal_or_three fault.Memory = inr refl

-- how a command ends with a fault, by the line and the status for it: 2 and the line where the input is refused, else 3
pub ends_told : (IsSo : ProgramFault → List ℕ → Type 0) (Part : Type 0) (input : Option (List ℕ)) (output errors : Stream) (e : ProgramFault) (status : ℕ)
    → ((IsKept output × TellsRefusal IsSo input e) ⊎ ((¬ IsRefusal e) × Part)) → Tells errors.before errors.after e status
    → ((status ≡ 2) × IsKept output × TellsWhy IsSo input errors) ⊎ ((status ≡ 3) × (IsKept output ⊎ Part))
ends_told IsSo Part input output errors e status (inl (kept, tells)) (inr three) = inr (three, inl kept)
ends_told IsSo Part input output errors e status (inr (none, part)) (inr three) = inr (three, inr part)
ends_told IsSo Part input output errors e status (inl (kept, tells)) (inl (is, line)) = elim (refusal_or_three e) [
  | inl h ↦ inl (is ∙ h.1, kept, (e, tells h.0, line))
  | inr three ↦ inr (is ∙ three, inl kept)
]
ends_told IsSo Part input output errors e status (inr (none, part)) (inl (is, line)) = elim (refusal_or_three e) [
  | inl h ↦ absurd (none h.0)
  | inr three ↦ inr (is ∙ three, inr part)
]

-- the line and the status of a fault are those of its result
pub tells_fault : (out : Option (List ℕ)) (errors : Stream) (r : Result Ended ProgramFault) (e : ProgramFault) (status : ℕ) → r ≡ Err e
    → Tells errors.before errors.after e status → Ends (stream out out) errors r status
tells_fault out errors r e status is told = subst (λ x. Ends (stream out out) errors x status) (sym is) (Keeps-refl out, told)

-- what is written and then kept, from the first to the last
module _ (workers : ℕ) (ls : List Local) (left left' out out' last : Option (List ℕ)) (errors : Stream) where
  abbrev whole : Stream
  whole = stream out last

  all_kept : Keeps out' last → (bytes : List ℕ) → YieldsAll workers ls (stream out out') bytes → YieldsAll workers ls whole bytes
  all_kept keeps bytes y = (y.0, y.1, Appends-kept out out' last y.0 y.2 keeps)

  all_part : Keeps out' last → (bytes : List ℕ) → YieldsAll workers ls (stream out out') bytes → YieldsPart workers ls whole bytes
  all_part keeps bytes y = (y.0, y.1, (y.0, [], sym (append-nil y.0), Appends-kept out out' last y.0 y.2 keeps))

  part_kept : Keeps out' last → (bytes : List ℕ) → YieldsPart workers ls (stream out out') bytes → YieldsPart workers ls whole bytes
  part_kept keeps bytes (text, yields, (front, rest, split, app)) = (text, yields, (front, rest, split, Appends-kept out out' last front app keeps))

  -- the lines of a board are those of the run that it is the end of
  fails_on : (b : BoardValue) → IsWritten errors (failed_lines b.build b.state (length b.build.graph.vertices)) → (bytes : List ℕ)
      → YieldsNoneOn workers ls b bytes → FailsAll workers ls errors bytes
  fails_on b lines bytes (y, state, build) =
      let same = ap (λ (x : Build). failed_lines x b.state (length x.graph.vertices)) (sym build)
      ∙ ap (λ (t : State). failed_lines (build_of ls y.graph) t (length y.graph.vertices)) (sym state) in
      (y, subst (IsWritten errors) same lines)

  answered : (e : ProgramFault) → Answers workers ls left (stream out out') (Err e) → Keeps out' last
      → (IsKept whole × TellsRefusal (IsNotRun workers ls) left e) ⊎ ((¬ IsRefusal e) × IfSome left (YieldsPart workers ls whole))
  answered e (inl (kept, tells)) keeps = inl (Keeps-trans out out' last kept keeps, tells)
  answered e (inr (none, part)) keeps =
      inr (none, some_map (YieldsPart workers ls (stream out out')) (YieldsPart workers ls whole) left (part_kept keeps) part)

  -- a result and the status that is returned for it are a run
  pub run_told : (r : Result Ended ProgramFault) (status : ℕ) → Answers workers ls left (stream out out') r → Ends (stream out' last) errors r status
      → Runs workers ls (record { input = stream left left'; output = whole; errors = errors }) status
  run_told (Ok ended.Printed) status done (keeps, inl (zero, kept)) = inl (
    zero,
    kept,
    some_map (YieldsAll workers ls (stream out out')) (YieldsAll workers ls whole) left (all_kept keeps) done,
  )
  run_told (Ok ended.Printed) status done (keeps, inr three) = inr (inr (inr (
    three,
    inr (some_map (YieldsAll workers ls (stream out out')) (YieldsPart workers ls whole) left (all_part keeps) done),
  )))
  run_told (Ok (ended.Failed b)) status (kept, lacks) (keeps, inl (one, lines)) = inr (inl (
    one,
    Keeps-trans out out' last kept keeps,
    some_map (YieldsNoneOn workers ls b) (FailsAll workers ls errors) left (fails_on b lines) lacks,
  ))
  run_told (Ok (ended.Failed b)) status (kept, lacks) (keeps, inr three) = inr (inr (inr (three, inl (Keeps-trans out out' last kept keeps))))
  run_told (Err e) status answer (keeps, told) =
      inr (inr (ends_told (IsNotRun workers ls) (IfSome left (YieldsPart workers ls whole)) left whole errors e status (answered e answer keeps) told))

-- ---- a show

-- a text that is written is a prefix of itself
pub drawn_unflushed : (left out out' last : Option (List ℕ)) (g : Numbered) → IfSome left (λ bytes. IsGraphIn bytes g)
    → IsWritten (stream out out') (graph_text g) → Keeps out' last → IfSome left (DrawsPart (stream out last))
drawn_unflushed left out out' last g loads whole keeps =
    some_map (λ bytes. IsGraphIn bytes g) (DrawsPart (stream out last)) left
    (λ bytes loaded. (g, loaded, (graph_text g, [], sym (append-nil (graph_text g)), Appends-kept out out' last (graph_text g) whole keeps))) loads

-- ---- a definition that is not run

-- what is refused has no run
pub tells_no_run : (workers : ℕ) (ls : List Local) (left : Option (List ℕ)) (e : ProgramFault) → TellsRefusal IsRefused left e
    → TellsRefusal (IsNotRun workers ls) left e
tells_no_run workers ls left e tells h = some_map (IsRefused e) (IsNotRun workers ls e) left (λ bytes refused. inl refused) (tells h)

-- a graph on which no board is opened has no run
pub tells_unrun : (workers : ℕ) (ls : List Local) (left : Option (List ℕ)) (g : Numbered) (e : ProgramFault) → IfSome left (λ bytes. IsGraphIn bytes g)
    → (IsRefusal e → IsUnopened ls g workers e) → TellsRefusal (IsNotRun workers ls) left e
tells_unrun workers ls left g e loads unrun h =
    some_map (λ bytes. IsGraphIn bytes g) (IsNotRun workers ls e) left (λ bytes loaded. inr (g, loaded, unrun h)) loads

-- the board of the graph, or why there is none
pub opens : (workers : ℕ) (ls : List Local) (left : Option (List ℕ)) (g : Numbered) (r : Result BoardValue ProgramFault)
    → IfSome left (λ bytes. IsGraphIn bytes g)
    → IfOk r (λ b. b ≡ opened (build_of ls g) workers []) → IfErr r (λ e. IsRefusal e → IsUnopened ls g workers e) → Opens workers ls left r
opens workers ls left g (Ok b) loads is unopened = (g, loads, is)
opens workers ls left g (Err e) loads is unopened = tells_unrun workers ls left g e loads unopened
