use Rattle.std.proofs.Common.{◌≡◌, false, take}
use Rattle.std.specs.List.{list_any}
use Rattle.llb_laws.specs.ContentLaws.{has_mark}
use Rattle.llb_laws.proofs.token_byte_writers.have_mark.Given as goal

abbrev pub invariant-loop-text : goal.invariant-loop-text
invariant-loop-text l = list_any has_mark (take l.text-index l.texts) ≡ false
