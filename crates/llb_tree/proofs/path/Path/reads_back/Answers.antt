use Rattle.std.proofs.Common.{subst}
use Rattle.llb_tree.specs.Path.{ReadsBack}
use Rattle.llb_tree.proofs.PathTextRoundTrip.{reads_back}
use Rattle.llb_tree.proofs.path.Path.reads_back.Goals as goal

pub returns : goal.returns
returns c = subst ReadsBack c.self.view_is (reads_back c.self.inside.names.items c.self.invariant)
