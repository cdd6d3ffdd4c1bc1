-- The lines of the vertices so far.
use Rattle.std.proofs.Common.{◌≡◌, take, string_bytes}
use Rattle.std.specs.List.{flat_map, enumerate_from}
use Rattle.llb_session.specs.GraphText.{digest_line}
use Rattle.llb_session.proofs.graph_text.digest_list.Given as goal

abbrev pub invariant-loop-number : goal.invariant-loop-number
invariant-loop-number l = string_bytes l.text ≡ flat_map digest_line (take l.number (enumerate_from 0 l.vertices))
