use Rattle.std.proofs.Common.{◌≡◌, [], take}
use Rattle.llb_model.specs.ListsFromEarlierItems.{by_number}
use Rattle.llb_model.specs.Outcome.{next_plain}
use Rattle.llb_laws.proofs.plain_vertices.plains_of.Given as goal

abbrev pub invariant-loop-v : goal.invariant-loop-v
invariant-loop-v l = l.plains.items ≡ take l.v (by_number next_plain [] l.vertices)
