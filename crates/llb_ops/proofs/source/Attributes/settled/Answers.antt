use Rattle.std.proofs.Common.{List, fold, ap, ◌∙◌}
use Rattle.llb_ops.specs.declared.source.AttributeEntry.{AttributeEntry}
use Rattle.llb_ops.specs.Attributes.{Held, put, settled}
use Rattle.llb_ops.proofs.source.Attributes.settled.Goals as goal

pub loop-entry-init : goal.loop-entry-init
unfolding settled
loop-entry-init c =
    ap (λ (xs : List AttributeEntry). fold put c.new-held.result.entries xs) (c.into_iter-entry-iterator.ensures.into_iter_gives.0
    ∙ c.into_vec-entry-items.ensures)
    ∙ ap (λ (h : List Held). fold put h c.args.entries) c.new-held.ensures.empty
