-- The lines of the events so far, no more than are asked for.
use Rattle.std.proofs.Common.{◌≡◌, ◌≤◌, ◌-◌, string_bytes}
use Rattle.llb_session.specs.PrintedTexts.{record_lines}
use Rattle.llb_session.proofs.printed_texts.record_text.Given as goal

abbrev pub invariant-loop-number : goal.invariant-loop-number
invariant-loop-number l = (string_bytes l.text ≡ record_lines l.stepper l.from (l.number - l.from)) × (l.number - l.from ≤ l.to - l.from) × (l.from ≤ l.number)
