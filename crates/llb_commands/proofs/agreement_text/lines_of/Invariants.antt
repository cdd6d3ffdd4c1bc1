use Rattle.std.proofs.Common.{◌≡◌, ◌++◌, [], take, string_bytes}
use Rattle.std.specs.List.{flat_map, enumerate_from}
use Rattle.llb_commands.specs.AgreementText.{agreed_line}
use Rattle.llb_commands.proofs.agreement_text.lines_of.Given as goal

abbrev pub invariant-loop-number : goal.invariant-loop-number
invariant-loop-number l = string_bytes l.text ≡ [] ++ flat_map (agreed_line l.marks) (take l.number (enumerate_from 0 l.vertices))
