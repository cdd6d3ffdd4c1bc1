use Rattle.std.proofs.Common.{length}
use Rattle.llb_applet.proofs.cause.+none_read.Given as goal

abbrev pub decreases-none_read : goal.decreases-none_read
decreases-none_read l = length l.words.now
