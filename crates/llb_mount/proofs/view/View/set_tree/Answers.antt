use Rattle.std.proofs.Common.{List, ℕ, refl}
use Rattle.std.specs.Prelude.{IfSome}
use Rattle.std.specs.Arc.{arc_value}
use Rattle.llb_mount.specs.DestOrder.{IsOrder}
use Rattle.llb_mount.proofs.MountTreeReplacement.{exchanged_view, exchanged_dests}
use Rattle.llb_mount.proofs.view.View.set_tree.Goals as goal

pub invariant_of-self-2 : goal.invariant_of-self-2
invariant_of-self-2 c = (
  exchanged_view _ _ _ c.index_mut-shown.result.now c.index_mut-shown.ensures.value refl c.self.invariant.0,
  exchanged_dests (λ (ds : List (List (List ℕ))). IfSome c.self.inside.order (λ o. IsOrder ds (arc_value o).items)) _ _ _ c.index_mut-shown.result.now
      c.index_mut-shown.ensures.value refl c.self.invariant.1,
)
