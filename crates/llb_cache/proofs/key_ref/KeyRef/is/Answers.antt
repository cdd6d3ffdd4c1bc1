use Rattle.std.proofs.Common.{ap, ◌∙◌}
use Rattle.std.specs.Ordering.{is_eq}
use Rattle.llb_cache.proofs.KeyOrder.{tie_is_same}
use Rattle.llb_cache.proofs.key_ref.KeyRef.is.Goals as goal

pub returns : goal.returns
returns c = c.is_eq.ensures ∙ ap is_eq c.order.ensures ∙ tie_is_same c.args.self.now c.args.other.now
