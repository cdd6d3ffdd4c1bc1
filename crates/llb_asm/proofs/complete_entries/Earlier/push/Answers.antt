use Rattle.std.proofs.Common.{◌++◌, ◌∷◌, [], ap, ◌∙◌, length}
use Rattle.llb_wire.specs.Digest.{digest_text}
use Rattle.llb_asm.specs.TextGrammar.{record_length}
use Rattle.llb_asm.proofs.DigestsAndByteCount.{kept_more}
use Rattle.llb_asm.proofs.complete_entries.Earlier.push.Goals as goal

pub invariant_of-self-2 : goal.invariant_of-self-2
invariant_of-self-2 c =
    kept_more c.self.inside.entries.items c.self.inside.labels.items c.self.inside.size c.args.entry c.record_length.result
    c.push_reserved-2.new.self.items c.push_reserved.new.self.items
    c.self.invariant
    (rw (← c.self.view_is) at c.requires)
    (c.push_reserved-2.ensures.items ∙ ap (λ l. l ++ c.args.entry ∷ []) c.reserve-2.ensures.items)
    (c.push_reserved.ensures.items ∙ ap (λ l. l ++ c.in_ok-label.label ∷ []) c.reserve.ensures.items
    ∙ ap (λ t. c.self.inside.labels.items ++ t ∷ []) (c.in_ok-label.ensures ∙ ap digest_text c.as_slice.ensures))
    (c.record_length.ensures.same ∙ ap (λ b. record_length 1 (length b)) c.as_slice-2.ensures)
