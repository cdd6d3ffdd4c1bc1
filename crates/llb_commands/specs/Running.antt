-- Loading the input, opening a board, running it and writing the result: what the result of each of these calls says of the input's bytes.
use Rattle.std.specs.Prelude.{◌≡◌, ◌⊎◌, ℕ, List, [], length, Option, Some, None, Result, Ok, Err, IfSome, ⊤, if◌then◌else◌}
use Rattle.llb_tree.specs.Tree.{TreeMap}
use Rattle.llb_loader.specs.Graph.{Numbered}
use Rattle.llb_loader.specs.LoadResult.{IsGraphIn}
use Rattle.llb_loader.specs.LocalSources.{Local}
use Rattle.llb_board.specs.BoardValue.{BoardValue, opened}
use Rattle.llb_model.specs.ConsistentStates.{IsConsistent}
use Rattle.llb_treetext.specs.TreeText.{tree_text}
use Rattle.llb_work.specs.declared.run_end.RunFault.{RunFault}
use Rattle.llb_commands.specs.ProgramOutput.{build_of, IsEnd, YieldsNone, YieldsAll, YieldsPart, IsRefused, IsNotRun, DrawsAll, DrawsPart}
use Rattle.llb_commands.specs.ProgramOutput.{failed_lines}
use Rattle.llb_commands.specs.Faults.{Tells}
use Rattle.llb_commands.specs.CallStreams.{Stream, IsKept, IsPartWritten, IsWritten}
use Rattle.llb_commands.specs.declared.fault.ProgramFault.{ProgramFault}
use Rattle.llb_commands.specs.declared.fault.ProgramFault.TheVariants.{Refused, MissingLocal, Workers, Loading, Read, Memory, Unread, Assembling, TooLong}
use Rattle.llb_commands.specs.declared.bounded_reading.ReadFault.{ReadFault}
use Rattle.llb_commands.specs.declared.bounded_reading.ReadFault.TheVariants as reading
use Rattle.llb_commands.specs.declared.run.Ended.{Ended}
use Rattle.llb_commands.specs.declared.run.Ended.TheVariants.{Printed, Failed}
use Rattle.llb_ops.specs.declared.fault.OpFault.TheVariants.{OverLimit}
use Rattle.llb_loader.specs.declared.fault.LoadFault.TheVariants.{Definition}
use Rattle.llb_loader.specs.declared.fault.LoadFault.{LoadFault}
use Rattle.llb_loader.specs.Faults.{is_memory}

-- the fault with which the program ends if the loader fails with this fault
abbrev pub passed_on : LoadFault → ProgramFault
passed_on e = if is_memory e then Loading else Refused e

-- the fault with which the program ends if the definition could not be read to its end
abbrev pub unread_as : ReadFault → ProgramFault
unread_as reading.TooLong = Refused (Definition OverLimit)
unread_as (reading.Failed kind) = Read
unread_as (reading.Unending interrupted) = Read
unread_as reading.Memory = Memory

-- the fault is a refusal: of the input, of the number of workers, or for want of a local source's tree
abbrev pub IsRefusal : ProgramFault → Type 0
IsRefusal (Refused e) = ⊤
IsRefusal (MissingLocal name) = ⊤
IsRefusal Workers = ⊤
IsRefusal (Unread e) = ⊤
IsRefusal (Assembling e) = ⊤
IsRefusal TooLong = ⊤
IsRefusal _ = ⊥

-- if the fault is a refusal (`IsRefusal`) and the input's bytes are known, these bytes are the cause of the fault: `IsSo` holds for the fault and the bytes
abbrev pub TellsRefusal : (ProgramFault → List ℕ → Type 0) → Option (List ℕ) → ProgramFault → Type 0
TellsRefusal IsSo input e = IsRefusal e → IfSome input (IsSo e)

-- the result of loading the input: the input's graph; or a fault (if the fault is a refusal, `IsRefused` says its cause in the input)
abbrev pub Loads : Option (List ℕ) → Result Numbered ProgramFault → Type 0
Loads input (Ok g) = IfSome input (λ bytes. IsGraphIn bytes g)
Loads input (Err e) = TellsRefusal IsRefused input e

-- the result of opening a board on the graph of the input: the board; or a fault (if the fault is a refusal, `IsNotRun` says its cause)
abbrev pub Opens : ℕ → List Local → Option (List ℕ) → Result BoardValue ProgramFault → Type 0
Opens workers locals input (Ok b) = (g : Numbered) × IfSome input (λ bytes. IsGraphIn bytes g) × (b ≡ opened (build_of locals g) workers [])
Opens workers locals input (Err e) = TellsRefusal (IsNotRun workers locals) input e

-- a board on which a run of the graph by a number of workers has ended
pub record IsFinished (workers : ℕ) (locals : List Local) (g : Numbered) (b : BoardValue) : Type 0 where
  pub build : b.build ≡ build_of locals g
  pub ended : IsEnd workers (build_of locals g) b.state
  pub here : IsConsistent (build_of locals g) b.state

-- the result of a run of the graph of the input: the board on which the run has ended; or a fault (if the fault is a refusal, `IsNotRun` says its cause)
abbrev pub Finishes : ℕ → List Local → Option (List ℕ) → Result BoardValue ProgramFault → Type 0
Finishes workers locals input (Ok b) = (g : Numbered) × IfSome input (λ bytes. IsGraphIn bytes g) × IsFinished workers locals g b
Finishes workers locals input (Err e) = TellsRefusal (IsNotRun workers locals) input e

-- if no fault cut the run short, the result is the run's board; else the result is a fault, which is no refusal
abbrev pub IsWhole : BoardValue → Option RunFault → Result BoardValue ProgramFault → Type 0
IsWhole board fault (Ok b) = (b ≡ board) × (fault ≡ None)
IsWhole board fault (Err e) = ¬ IsRefusal e

-- if there is a tree, its text is written, or a prefix of its text if there is a fault; if there is no tree, the board is returned
abbrev pub Shows : BoardValue → Stream → Option TreeMap → Result Ended ProgramFault → Type 0
Shows board output tree (Ok Printed) = (t : TreeMap) × (tree ≡ Some t) × IsWritten output (tree_text t)
Shows board output tree (Ok (Failed b)) = (b ≡ board) × (tree ≡ None) × IsKept output
Shows board output tree (Err e) = (¬ IsRefusal e) × ((t : TreeMap) × (tree ≡ Some t) × IsPartWritten output (tree_text t))

-- b is a board on which a run of the graph of these bytes has ended, and the run has no tree as its result
abbrev pub YieldsNoneOn : ℕ → List Local → BoardValue → List ℕ → Type 0
YieldsNoneOn workers locals b bytes = (y : YieldsNone workers locals bytes) × (y.state ≡ b.state) × (build_of locals y.graph ≡ b.build)

-- the text of the run's result is written; or the result is no tree, and nothing is written; or there is a fault, and at most a prefix of the text is written
abbrev pub Answers : ℕ → List Local → Option (List ℕ) → Stream → Result Ended ProgramFault → Type 0
Answers workers locals input output (Ok Printed) = IfSome input (YieldsAll workers locals output)
Answers workers locals input output (Ok (Failed b)) = IsKept output × IfSome input (YieldsNoneOn workers locals b)
Answers workers locals input output (Err e) =
    (IsKept output × TellsRefusal (IsNotRun workers locals) input e) ⊎ ((¬ IsRefusal e) × IfSome input (YieldsPart workers locals output))

-- The exit status and the lines on standard error: status 0 if the text is written, 1 if the result is no tree, 2 for a refusal, 3 for any other fault. A
-- fault may occur even after the text is written; then the status is 3.
abbrev pub Ends : Stream → Stream → Result Ended ProgramFault → ℕ → Type 0
Ends output errors (Ok Printed) status = IsKept output × (((status ≡ 0) × IsKept errors) ⊎ (status ≡ 3))
Ends output errors (Ok (Failed b)) status =
    IsKept output × (((status ≡ 1) × IsWritten errors (failed_lines b.build b.state (length b.build.graph.vertices))) ⊎ (status ≡ 3))
Ends output errors (Err e) status = IsKept output × Tells errors.before errors.after e status

-- the text of the graph is written; or there is a fault, and at most a prefix of the text is written
abbrev pub ShowsIn : Option (List ℕ) → Stream → Result (Unit {0}) ProgramFault → Type 0
ShowsIn input output (Ok u) = IfSome input (DrawsAll output)
ShowsIn input output (Err e) = (IsKept output × TellsRefusal IsRefused input e) ⊎ ((¬ IsRefusal e) × IfSome input (DrawsPart output))
