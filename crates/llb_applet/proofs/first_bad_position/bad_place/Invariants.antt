use Rattle.std.proofs.Common.{◌≡◌, ◌+◌, length, drop, filter}
use Rattle.llb_applet.specs.Words.{parts_of, placed, is_word, bad_place, bad_place_of}
use Rattle.llb_applet.proofs.FirstBadPosition.{spread}
use Rattle.llb_applet.proofs.first_bad_position.bad_place.Given as goal

abbrev pub invariant-loop-part : goal.invariant-loop-part
invariant-loop-part l = record {
  counted : l.place + spread (drop (length l.yielded) (parts_of l.text)) ≡ length l.text + 1;
  bad : bad_place (length l.text) l.called (filter is_word (placed l.place (drop (length l.yielded) (parts_of l.text)))) ≡ bad_place_of l.text;
}
