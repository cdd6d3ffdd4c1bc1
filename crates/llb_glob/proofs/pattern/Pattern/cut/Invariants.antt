use Rattle.std.proofs.Common.{◌≡◌, drop}
use Rattle.llb_glob.specs.Pattern.{each_cut}
use Rattle.llb_glob.specs.ItemReading.{behind}
use Rattle.llb_glob.proofs.pattern.Pattern.cut.Given as goal

abbrev pub invariant-loop-name : goal.invariant-loop-name
invariant-loop-name l = behind l.parts.items (each_cut (drop l.name-index l.name-items)) ≡ each_cut l.name-items
