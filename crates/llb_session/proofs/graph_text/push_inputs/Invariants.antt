use Rattle.std.proofs.Common.{◌≡◌, ◌++◌, take, string_bytes}
use Rattle.std.specs.List.{flat_map}
use Rattle.llb_session.specs.GraphText.{input_text}
use Rattle.llb_session.proofs.graph_text.push_inputs.Given as goal

abbrev pub invariant-loop-input : goal.invariant-loop-input
invariant-loop-input l = string_bytes l.line ≡ string_bytes l.initial.line ++ flat_map input_text (take l.input-index l.inputs)
