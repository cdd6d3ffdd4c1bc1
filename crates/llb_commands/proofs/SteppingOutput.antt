-- What a stepping session prints for the bytes of its definition.
use Rattle.std.proofs.Common.{◌≡◌, ℕ, Bool, true, false, cond, List, [], ◌⊎◌, Option, Some, None, Result, Ok, Err, inl, inr, refl, sym, ap, subst, ◌∙◌}
use Rattle.std.specs.Prelude.{IfSome}
use Rattle.llb_loader.specs.Graph.{Numbered}
use Rattle.llb_loader.specs.LoadResult.{IsGraphIn}
use Rattle.llb_loader.specs.LocalSources.{Local}
use Rattle.llb_cache.specs.Caches.{CachesValue}
use Rattle.llb_model.specs.Program.{Build}
use Rattle.llb_loader.specs.FirstMissingTree.{missing_local}
use Rattle.llb_board.specs.BoardValue.{BoardValue, opened}
use Rattle.llb_board.specs.Opening.{may_work, open_unless, open_of}
use Rattle.llb_board.specs.declared.fault.OpenFault.{OpenFault}
use Rattle.llb_board.specs.declared.fault.OpenFault.TheVariants as opening
use Rattle.llb_session.specs.declared.session.Session.{Session}
use Rattle.llb_session.specs.declared.session.Options.{Options}
use Rattle.llb_stepper.specs.Stepping.{Stepping}
use Rattle.llb_session.specs.Conversation.{Conversation, Converses}
use Rattle.llb_session.specs.declared.fault.SessionFault.{SessionFault}
use Rattle.llb_session.specs.declared.fault.SessionFault.TheVariants as session
use Rattle.llb_commands.specs.ProgramOutput.{build_of, IsNotRun}
use Rattle.llb_commands.specs.Faults.{Tells, TellsWhy, status_of, fault_line, program_text}
use Rattle.llb_commands.specs.CallStreams.{Io, Stream, IsKept, IsWritten}
use Rattle.llb_commands.specs.Sources.{limit, most_reads}
use Rattle.llb_commands.specs.Stepping.{begun, session_fault, IsSession, IsBroken, StepsIn, Steps}
use Rattle.llb_commands.specs.declared.fault.ProgramFault.{ProgramFault}
use Rattle.llb_commands.proofs.RunOutput.{some_map, ends_told}

-- why no board is opened
module _ (b : Build) (c : CachesValue) (workers : ℕ) where
  abbrev tells_opened : Result BoardValue OpenFault → Bool
  tells_opened (Ok x) = true
  tells_opened (Err e) = false

  abbrev name_in : Result BoardValue OpenFault → Option (List ℕ)
  name_in (Ok x) = None
  name_in (Err (opening.MissingLocal name g ls d)) = Some name
  name_in (Err (opening.Workers g ls d)) = None
  name_in (Err (opening.Memory g ls d)) = None

  abbrev few_in : Result BoardValue OpenFault → Bool
  few_in (Ok x) = false
  few_in (Err (opening.MissingLocal name g ls d)) = false
  few_in (Err (opening.Workers g ls d)) = true
  few_in (Err (opening.Memory g ls d)) = false

  named : (o : Option (List ℕ)) → name_in (open_unless o b c workers) ≡ o
  named (Some name) = refl
  named None = by_workers (may_work workers)
    where
      by_workers : (may : Bool) → name_in (cond may (Ok (opened b workers c.rows)) (Err (opening.Workers b.graph b.locals c))) ≡ None
      by_workers true = refl
      by_workers false = refl

  few : (o : Option (List ℕ)) → few_in (open_unless o b c workers) ≡ true → (o ≡ None) × (may_work workers ≡ false)
  few (Some name) is = absurd cc
  few None is = (refl, by_workers (may_work workers) refl is)
    where
      by_workers : (may : Bool) → may_work workers ≡ may
          → few_in (cond may (Ok (opened b workers c.rows)) (Err (opening.Workers b.graph b.locals c))) ≡ true → may_work workers ≡ false
      by_workers true same is = absurd cc
      by_workers false same is = same

-- a local source has no tree
pub lacks : (locals : List Local) (g h : Numbered) (ls : List Local) (c d : CachesValue) (workers : ℕ) (name : List ℕ)
    → open_of (build_of locals g) c workers ≡ Err (opening.MissingLocal name h ls d) → missing_local locals g.vertices ≡ Some name
lacks locals g h ls c d workers name is =
    sym (named (build_of locals g) c workers (missing_local locals g.vertices)) ∙ ap (name_in (build_of locals g) c workers) is

-- all local sources have a tree, and the number of workers is not allowed (it is not from 1 to 64)
pub unmanned : (locals : List Local) (g h : Numbered) (ls : List Local) (c d : CachesValue) (workers : ℕ)
    → open_of (build_of locals g) c workers ≡ Err (opening.Workers h ls d) → (missing_local locals g.vertices ≡ None) × (may_work workers ≡ false)
unmanned locals g h ls c d workers is =
    few (build_of locals g) c workers (missing_local locals g.vertices) (ap (few_in (build_of locals g) c workers) is)

-- a session on a board that was just opened
pub begins : (options : Options) (locals : List Local) (g : Numbered) (workers : ℕ) (s : Stepping) (b : BoardValue)
    → s ≡ record { board = b; past = []; breaks = [] }
    → b ≡ opened (build_of locals g) workers [] → ◌≡◌ {A = Session} (record { stepper = s; options = options }) (begun options locals g workers)
begins options locals g workers s b made is = ap with made ∙ ap on is where
  with : Stepping → Session
  with x = record { stepper = x; options = options }

  on : BoardValue → Session
  on x = with (record { board = x; past = []; breaks = [] })

module _ (options : Options) (workers : ℕ) (locals : List Local) (file : Option (List ℕ)) (commands output : Stream) where
  abbrev on : Session → Session → Conversation
  on s t = record { limit = limit; reads = most_reads; before = s; after = t; commands = commands; replies = output }

  -- a session was held over the graph of the bytes
  pub tells_session : (g : Numbered) (s t : Session) (r : Result (Unit {0}) SessionFault) → IfSome file (λ bytes. IsGraphIn bytes g)
      → s ≡ begun options locals g workers → Converses (on s t) r
      → IfSome file (IsSession options workers locals commands output r)
  tells_session g s t r loads same talks =
      some_map (λ bytes. IsGraphIn bytes g) (IsSession options workers locals commands output r) file
      (λ bytes loaded. record {
        graph = g;
        loaded = loaded;
        end = t;
        talks = subst (λ x. Converses (on x t) r) same talks;
      }) loads

  broken : (f : SessionFault) → IfSome file (IsSession options workers locals commands output (Err f))
      → IfSome file (IsBroken options workers locals commands output)
  broken f held =
      some_map (IsSession options workers locals commands output (Err f)) (IsBroken options workers locals commands output) file (λ bytes is. (f, is)) held

  module _ (errors : Stream) where
    abbrev io : Io
    io = record { input = commands; output = output; errors = errors }

    -- how it ended, by the fault of the session, and the line and the status for it
    by_session : (f : SessionFault) (status : ℕ) → IfSome file (IsSession options workers locals commands output (Err f))
        → (status ≡ status_of (session_fault f)) × IsWritten errors (fault_line (program_text (session_fault f))) → Steps options workers locals file io status
    by_session session.TooLong status held (two, line) = inr (inl (two, inr (held, line)))
    by_session (session.Failed kind) status held (three, line) = inr (inr (three, inr (broken (session.Failed kind) held)))
    by_session (session.Unending interrupted) status held (three, line) = inr (inr (three, inr (broken (session.Unending interrupted) held)))
    by_session session.Write status held (three, line) = inr (inr (three, inr (broken session.Write held)))
    by_session session.Memory status held (three, line) = inr (inr (three, inr (broken session.Memory held)))

    not_opened : (status : ℕ) → ((status ≡ 2) × IsKept output × TellsWhy (IsNotRun workers locals) file errors) ⊎ ((status ≡ 3) × (IsKept output ⊎ ⊥))
        → Steps options workers locals file io status
    not_opened status (inl (two, keeps, why)) = inr (inl (two, inl (keeps, why)))
    not_opened status (inr (three, inl keeps)) = inr (inr (three, inl keeps))
    not_opened status (inr (three, inr part)) = absurd part

    -- a run that ended with a fault has the status for it, with its line
    pub ends_by : (e : ProgramFault) (status : ℕ) → StepsIn options workers locals file commands output (Err e) → Tells errors.before errors.after e status
        → Steps options workers locals file io status
    ends_by e status (inl (keeps, tells)) told =
        not_opened status (ends_told (IsNotRun workers locals) ⊥ file output errors e status (inl (keeps, tells)) told)
    ends_by e status (inr (f, same, held)) (inr three) = inr (inr (three, inr (broken f held)))
    ends_by e status (inr (f, same, held)) (inl (is, line)) =
        by_session f status held (is ∙ ap status_of same, subst (λ x. IsWritten errors (fault_line (program_text x))) same line)
