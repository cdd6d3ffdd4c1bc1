use Rattle.std.proofs.Common.{drop, length}
use Rattle.llb_tree.specs.Path.{parts_of, path_of}
use Rattle.llb_glob.proofs.PartwiseTextCheck.{Leads}
use Rattle.llb_glob.proofs.pattern.is_pattern.Given as goal

abbrev pub invariant-loop-part : goal.invariant-loop-part
invariant-loop-part l = Leads (drop (length l.yielded) (parts_of l.text)) (path_of l.text) l.walk
