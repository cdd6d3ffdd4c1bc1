-- What a fault of a run prints: its number.
use Rattle.std.specs.Prelude.{ℕ, List, codes}
use Rattle.llb_work.specs.declared.run_end.RunFault.{RunFault}
use Rattle.llb_work.specs.declared.run_end.RunFault.TheVariants as fault

-- the text of a fault of a run
abbrev pub run_text : RunFault → List ℕ
run_text fault.Memory = codes "151"
run_text fault.Stopped = codes "152"
run_text fault.Thread = codes "153"
run_text (fault.Foreign board) = codes "154"
