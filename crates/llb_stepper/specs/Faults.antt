-- The text after the word `fault` for each refusal of a stepper: the number of the fault, then the board's own fault, or the number of the refused line.
use Rattle.std.specs.Prelude.{ℕ, List, ◌++◌, codes}
use Rattle.std.specs.Fmt.{decimal}
use Rattle.llb_board.specs.Faults.{walk_text}
use Rattle.llb_stepper.specs.declared.fault.StepperFault.{StepperFault}
use Rattle.llb_stepper.specs.declared.fault.StepperFault.TheVariants.{Board, NothingBefore, BadCommand, Memory}

-- the text that is printed for a fault
abbrev pub stepper_text : StepperFault → List ℕ
stepper_text (Board e) = codes "171 " ++ walk_text e
stepper_text NothingBefore = codes "172"
stepper_text (BadCommand n) = codes "173 " ++ decimal n
stepper_text Memory = codes "174"
