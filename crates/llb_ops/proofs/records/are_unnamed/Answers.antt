use Rattle.std.proofs.Common.{◌≡◌, Ok, Err, Some, None, [], ap, sym, ◌∙◌}
use Rattle.llb_ops.specs.Table.{shape_of}
use Rattle.llb_ops.specs.Records.{view, records_from, IsFront}
use Rattle.llb_ops.proofs.UnnamedFieldCheck.{goes_on, is_named, at_end, unread}
use Rattle.llb_ops.proofs.records.are_unnamed.Goals as goal

pub returns-in-Err : goal.returns-in-Err
returns-in-Err c =
    let e : records_from (shape_of c.args.message) 0 c.loop-front.rest.now ≡ Err c.in-Err.field-0 = rw c.in-Err.is at c.next_part.ensures in
    sym (c.loop-front.invariant ∙ unread c.args.message c.loop-front.rest.now c.in-Err.field-0 e)

pub returns-in-Ok-None : goal.returns-in-Ok-None
returns-in-Ok-None c =
    let o = c.in-Ok-None.is ∙ ap (λ x. Ok x) c.in-Ok-None.field-0-is in
    let e : records_from (shape_of c.args.message) 0 c.loop-front.rest.now ≡ Ok [] = rw o at c.next_part.ensures in
    sym (c.loop-front.invariant ∙ at_end c.args.message c.loop-front.rest.now e)

pub returns-then-not-is_unnamed : goal.returns-then-not-is_unnamed
returns-then-not-is_unnamed c =
    let o = c.in-Ok-Some.is ∙ ap (λ x. Ok x) c.in-Ok-Some.field-0-is in
    let front : IsFront (shape_of c.args.message) c.loop-front.rest.now c.in-Ok-Some.front = rw o at c.next_part.ensures in
    let named = sym c.is_unnamed.ensures ∙ c.if-not-is_unnamed.true in
    sym (c.loop-front.invariant ∙ is_named c.args.message (view c.in-Ok-Some.front.record) c.loop-front.rest.now c.in-Ok-Some.front.after.now front.reads named)

pub loop-front-preserved : goal.loop-front-preserved
loop-front-preserved c =
    let o = c.in-Ok-Some.is ∙ ap (λ x. Ok x) c.in-Ok-Some.field-0-is in
    let front : IsFront (shape_of c.args.message) c.loop-front.rest.now c.in-Ok-Some.front = rw o at c.next_part.ensures in
    let other = sym c.is_unnamed.ensures ∙ c.if-not-is_unnamed.false in
    c.loop-front.invariant ∙ goes_on c.args.message (view c.in-Ok-Some.front.record) c.loop-front.rest.now c.in-Ok-Some.front.after.now front.reads other
