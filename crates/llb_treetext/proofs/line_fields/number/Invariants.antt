-- The digits that are left, read after the number so far, make what all of them make.
use Rattle.std.proofs.Common.{◌≡◌, drop}
use Rattle.llb_treetext.specs.LineFields.{number_from}
use Rattle.llb_treetext.proofs.line_fields.number.Given as goal

abbrev pub invariant-loop-byte : goal.invariant-loop-byte
invariant-loop-byte l = number_from l.number (drop l.byte-index l.byte-items) ≡ number_from 0 l.byte-items
