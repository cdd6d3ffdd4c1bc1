use Rattle.std.proofs.Common.{◌≡◌, ◌++◌, take, string_bytes}
use Rattle.llb_treetext.specs.TreeText.{names_text}
use Rattle.llb_treetext.proofs.line.push_names.Given as goal

abbrev pub invariant-loop-name : goal.invariant-loop-name
invariant-loop-name l = string_bytes l.line ≡ string_bytes l.initial.line ++ names_text (take l.name-index l.names)
