use Rattle.std.proofs.Common.{ap, sym, ◌∙◌, Some, nat_eq}
use Rattle.std.specs.Cmp.Lexicographic.{pointwise}
use Rattle.llb_asm.proofs.StringSpelling.{ends}
use Rattle.llb_asm.proofs.values.string_behind.Goals as goal

pub returns-then-eq : goal.returns-then-eq
returns-then-eq c =
    ap (λ t. Some t) c.new.ensures
    ∙ ends c.args.text.now c.loop-byte.rest.now c.loop-byte.string.items c.loop-byte.invariant
    (sym (c.if-eq.ensures ∙ ap (λ t. pointwise nat_eq c.loop-byte.rest.now t) c.as_slice.ensures))
