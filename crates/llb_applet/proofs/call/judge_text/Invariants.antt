use Rattle.std.proofs.Common.{◌≡◌, ℕ, ◌+◌, ◌≤◌, List, length, drop}
use Rattle.std.specs.List.{flat_map}
use Rattle.llb_applet.specs.Words.{parts_of, calls_of}
use Rattle.llb_applet.specs.Scripts.{commands_of}
use Rattle.llb_applet.specs.CallReading.{some_word, IsBegun, judged, verdict}
use Rattle.llb_applet.proofs.call.judge_text.Given as goal

abbrev pub invariant-loop-part : goal.invariant-loop-part
invariant-loop-part l = record {
  room : l.begun.number + l.begun.count ≤ length l.yielded;
  judges : (call : List (List ℕ)) × IsBegun call l.begun
      × (judged l.begun.number call (flat_map some_word (drop (length l.yielded) (parts_of l.text))) ≡ verdict (commands_of 0 (calls_of l.text)));
}
