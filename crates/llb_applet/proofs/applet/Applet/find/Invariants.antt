use Rattle.std.proofs.Common.{◌≡◌, drop, find}
use Rattle.llb_applet.specs.Applets.{name_of, applet_of, spells}
use Rattle.llb_applet.proofs.applet.Applet.find.Given as goal

abbrev pub invariant-loop-applet : goal.invariant-loop-applet
invariant-loop-applet l = find (λ a. spells (name_of a) l.word) (drop l.applet-index l.applet-items) ≡ applet_of l.word
