use Rattle.std.proofs.Common.{length}
use Rattle.llb_applet.proofs.edit_cause.+file_on.Given as goal

abbrev pub decreases-file_on : goal.decreases-file_on
decreases-file_on l = length l.names.now
