use Rattle.std.proofs.Common.{◌↔◌, drop, length}
use Rattle.llb_glob.specs.Matching.{Matches}
use Rattle.llb_glob.proofs.pattern.all_match.Given as goal

abbrev pub invariant-loop-part : goal.invariant-loop-part
invariant-loop-part l = Matches (drop (length l.yielded) l.parts) (drop (length l.yielded) l.names) ↔ Matches l.parts l.names
