-- The lines of the vertices so far.
use Rattle.std.proofs.Common.{◌≡◌, string_bytes}
use Rattle.llb_session.specs.PrintedTexts.{status_lines}
use Rattle.llb_session.proofs.printed_texts.status_text.Given as goal

abbrev pub invariant-loop-v : goal.invariant-loop-v
invariant-loop-v l = string_bytes l.text ≡ status_lines l.board l.v
