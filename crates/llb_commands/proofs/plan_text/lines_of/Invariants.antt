use Rattle.std.proofs.Common.{◌≡◌, ◌++◌, [], take, string_bytes}
use Rattle.std.specs.List.{flat_map, enumerate_from}
use Rattle.llb_commands.specs.PlanText.{planned_line}
use Rattle.llb_commands.proofs.plan_text.lines_of.Given as goal

abbrev pub invariant-loop-number : goal.invariant-loop-number
invariant-loop-number l = string_bytes l.text ≡ [] ++ flat_map (planned_line l.marks l.some) (take l.number (enumerate_from 0 l.vertices))
