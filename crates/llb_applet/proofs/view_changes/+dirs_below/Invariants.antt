use Rattle.std.proofs.Common.{length}
use Rattle.llb_applet.proofs.view_changes.+dirs_below.Given as goal

abbrev pub decreases-dirs_below : goal.decreases-dirs_below
decreases-dirs_below l = length l.names.now
