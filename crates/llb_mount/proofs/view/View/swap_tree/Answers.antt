use Rattle.std.proofs.Common.{List, ℕ, refl}
use Rattle.std.specs.Prelude.{IfSome}
use Rattle.std.specs.Arc.{arc_value}
use Rattle.llb_mount.specs.DestOrder.{IsOrder}
use Rattle.llb_mount.proofs.MountTreeReplacement.{exchanged_view, exchanged_dests}
use Rattle.llb_mount.proofs.view.View.swap_tree.Goals as goal

pub invariant_of-self : goal.invariant_of-self
invariant_of-self c = (
  exchanged_view _ _ _ c.index_mut.result.now c.index_mut.ensures.value refl c.self.invariant.0,
  exchanged_dests (λ (ds : List (List (List ℕ))). IfSome c.self.inside.order (λ o. IsOrder ds (arc_value o).items)) _ _ _ c.index_mut.result.now
      c.index_mut.ensures.value refl c.self.invariant.1,
)
