-- Each line is a tree's, so there are fewer lines than bytes; and a faulty line comes after a tree's.
use Rattle.std.proofs.Common.{[], sym, ap, ◌∙◌, ◌+◌, arith}
use Rattle.std.specs.FinMap as finite
use Rattle.llb_tree.specs.Tree.{Dir, empty_tree}
use Rattle.llb_treetext.proofs.RowAppending.{few_lines, some_left, stops, front_more, whole_text}
use Rattle.llb_treetext.proofs.read.read_tree.Goals as goal

pub loop-last-init : goal.loop-last-init
loop-last-init c =
    let (front, last, one) = c.in-Ok.ensures in
    (finite.insert empty_tree [] (Dir c.in-Ok.line.parts.meta), front, last, sym one, c.started-tree.ensures)

pub overflow_add-number : goal.overflow_add-number
overflow_add-number c =
    let (t, front, last, number, own) = c.loop-last.invariant in
    let some = some_left c.args.bytes.now t c.loop-last.rest.now front c.is_empty.result c.is_empty.ensures c.loop-last-test.true in
    let few = few_lines c.args.bytes.now t c.loop-last.rest.now front some in
    omega (arith, few, number)

pub returns-in-Err-next_line-clause-answers : goal.returns-in-Err-next_line-clause-answers
returns-in-Err-next_line-clause-answers c = λ other.
    let (t, front, last, number, own) = c.loop-last.invariant in
    let some = some_left c.args.bytes.now t c.loop-last.rest.now front c.is_empty.result c.is_empty.ensures c.loop-last-test.true in
    let fault = c.in-Err-next_line.ensures t front.tree last (ap (λ n. n + 1) number) in
    stops c.args.bytes.now t c.loop-last.rest.now front c.in-Err-next_line.fault some fault.1

pub loop-last-preserved : goal.loop-last-preserved
loop-last-preserved c =
    let (t, front, last, number, own) = c.loop-last.invariant in
    let (row, is, free, put, goes, place, more) = c.in-Ok-next_line.ensures t front.tree last (ap (λ n. n + 1) number) in (
      finite.insert t row.0 row.1,
      front_more c.args.bytes.now t c.loop-last.rest.now front (finite.insert t row.0 row.1) c.in-Ok-next_line.line.later.now goes,
      place,
      ap (λ n. n + 1) number ∙ sym more,
      c.with_line-tree.ensures t own row (record { tree = front.tree; of = is; free = free; put = put }),
    )

pub returns-in-None-clause-last : goal.returns-in-None-clause-last
returns-in-None-clause-last c = λ memory.
    let (t, front, last, number, own) = c.loop-last.invariant in
    (t, whole_text c.args.bytes.now t c.loop-last.rest.now front (sym c.is_empty.ensures ∙ c.loop-last-test.false))
