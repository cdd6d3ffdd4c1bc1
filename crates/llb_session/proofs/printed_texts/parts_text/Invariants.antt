-- The lines of the trees so far.
use Rattle.std.proofs.Common.{◌≡◌, string_bytes}
use Rattle.llb_execution.specs.WorkspaceTrees.{roles_of}
use Rattle.llb_session.specs.PrintedTexts.{role_lines}
use Rattle.llb_session.proofs.printed_texts.parts_text.Given as goal

abbrev pub invariant-loop-i : goal.invariant-loop-i
invariant-loop-i l = string_bytes l.text ≡ role_lines (roles_of l.workspace) l.i
