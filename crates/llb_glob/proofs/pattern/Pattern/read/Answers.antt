use Rattle.std.proofs.Common.{sym, ◌∙◌}
use Rattle.llb_tree.specs.Path.{path_of}
use Rattle.llb_glob.proofs.Refusals.{bad_pattern}
use Rattle.llb_glob.proofs.pattern.Pattern.read.Goals as goal

pub returns-then-not-is_pattern-clause-gives : goal.returns-then-not-is_pattern-clause-gives
returns-then-not-is_pattern-clause-gives c = λ _. bad_pattern (path_of c.args.text.now) (sym c.is_pattern.ensures ∙ c.if-not-is_pattern.true)
