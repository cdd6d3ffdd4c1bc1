use Rattle.llb_tree.specs.Path.{path_of}
use Rattle.llb_glob.proofs.ClasslessReading.{path_alike}
use Rattle.llb_glob.proofs.laws.reads_without_classes.Goals as goal

pub returns : goal.returns
returns c = λ parts. path_alike (path_of c.args.text.now) parts
