use Rattle.std.proofs.Common.{◌≡◌, length, drop}
use Rattle.std.specs.List.{flat_map}
use Rattle.llb_applet.specs.Words.{parts_of, calls_of}
use Rattle.llb_applet.specs.Scripts.{commands_of}
use Rattle.llb_applet.specs.CallReading.{some_word, ahead}
use Rattle.llb_applet.proofs.script.read_text.Given as goal

abbrev pub invariant-loop-part : goal.invariant-loop-part
invariant-loop-part l = ahead l.reading (flat_map some_word (drop (length l.yielded) (parts_of l.text))) ≡ commands_of 0 (calls_of l.text)
