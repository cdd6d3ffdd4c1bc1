use Rattle.std.proofs.Common.{length}
use Rattle.llb_applet.proofs.view_changes.+make_below.Given as goal

abbrev pub decreases-make_below : goal.decreases-make_below
decreases-make_below l = length l.names.now
