use Rattle.std.proofs.Common.{◌<◌, length, get_or, arith, below_more, ◌∙◌}
use Rattle.std.proofs.lemmas.List.{length-set, get_or-set_same, get_or-set_other}
use Rattle.std.proofs.lemmas.List.Elements.{All-set}
use Rattle.llb_loader.proofs.UniqueNumbering.{numbered_once}
use Rattle.llb_loader.proofs.vertex_numbers.ranks_of.Goals as goal

pub loop-i-preserved : goal.loop-i-preserved
loop-i-preserved c =
    let row : get_or c.args.order.now c.loop-i.i 0 < length c.args.rows.now = c.requires.range c.loop-i.i 0 c.loop-i-test.true in
    let h : get_or c.args.order.now c.loop-i.i 0 < length c.loop-i.numbers.items = omega (arith, row, c.loop-i.invariant.len) in
    record {
      len = length-set c.loop-i.numbers.items (get_or c.args.order.now c.loop-i.i 0) c.loop-i.i ∙ c.loop-i.invariant.len;
      inverse = below_more _ _
          (λ j l. get_or-set_other c.loop-i.numbers.items (get_or c.args.order.now c.loop-i.i 0) (get_or c.args.order.now j 0) c.loop-i.i 0
          (numbered_once _ _ _ c.loop-i.i j c.requires.numbering c.loop-i-test.true l)
          ∙ c.loop-i.invariant.inverse j l)
          (get_or-set_same c.loop-i.numbers.items (get_or c.args.order.now c.loop-i.i 0) c.loop-i.i 0 h);
      small = λ n p l. All-set (λ r. r < n) c.loop-i.numbers.items (get_or c.args.order.now c.loop-i.i 0) c.loop-i.i
          (let t = c.loop-i-test.true in omega (arith, l, t)) (c.loop-i.invariant.small n p l);
    }
