use Rattle.std.proofs.Common.{◌≡◌, List, length, refl, sym, ap, ◌∙◌, arith}
use Rattle.llb_ops.proofs.ItemwiseListEquality.{all_same}
use Rattle.llb_loader.specs.LocalSources.{Local, locals_of}
use Rattle.llb_loader.proofs.LocalTreeCopies.{all_named}
use Rattle.llb_loader.proofs.local_trees.same_trees.Goals as goal

pub returns-then-len : goal.returns-then-len
returns-then-len c = (
  λ is. absurd cc,
  λ is. absurd (
      let same : length (locals_of c.args.trees.now.entries) ≡ length (locals_of c.args.others.now.entries) = ap length is in
      omega (arith, same, all_named c.args.trees.now.entries, all_named c.args.others.now.entries, c.len.ensures.len, c.len-2.ensures.len, c.if-len.true)),
)

pub returns : goal.returns
returns c =
    let trees : List Local = locals_of c.args.trees.now.entries in
    let others : List Local = locals_of c.args.others.now.entries in
    let count : length trees ≡ length others = omega (
      arith,
      all_named c.args.trees.now.entries,
      all_named c.args.others.now.entries,
      c.len.ensures.len,
      c.len-2.ensures.len,
      c.if-len.false,
    ) in (
      λ _. all_same trees others count
          (λ k below. c.loop-i.invariant k (omega (arith, below, all_named c.args.trees.now.entries, c.loop-i-test.false, c.len-i-end.ensures.len))),
      λ _. refl,
    )
