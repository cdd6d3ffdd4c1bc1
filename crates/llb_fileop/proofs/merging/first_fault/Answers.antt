use Rattle.std.proofs.Common.{rules, ◌≡◌, ◌<◌, ◌≤◌, ◌+◌, length, ap, sym, ◌∙◌, arith, drop, Err, false}
use Rattle.std.specs.FinMap as finite
use Rattle.llb_wire.specs.CallResults.{◌>>=◌}
use Rattle.llb_tree.specs.PathEntries.{seen}
use Rattle.llb_tree.specs.Tree.{is_memory}
use Rattle.llb_fileop.specs.CopyPlacement.{all_below}
use Rattle.llb_fileop.proofs.PathOrderTraversal.{walk_end}
use Rattle.llb_fileop.proofs.EntryPlacement.{below_deep, below_next}
use Rattle.llb_fileop.proofs.merging.first_fault.Goals as goal

pub returns-then-names-gt128 : goal.returns-then-names-gt128
returns-then-names-gt128 c = λ _.
    let deep : 128 < length c.args.goal.now + length c.in-Some.path.now
    = omega (arith, c.if-names-gt128.true, ap length c.names.ensures.all, ap length c.names-in-Some.ensures.all) in
    sym c.loop-path.invariant
    ∙ below_deep c.args.here.now c.loop-path.walk c.in-Some.path.now (seen c.in-Some.entry) (sym c.in-Some.ensures) (length c.args.goal.now) deep

pub returns-in_err-meet : goal.returns-in_err-meet
returns-in_err-meet c =
    let here = c.args.here.now in
    let depth = length c.args.goal.now in
    let short : length c.args.goal.now + length c.in-Some.path.now ≤ 128
    = omega (arith, c.if-names-gt128.false, ap length c.names.ensures.all, ap length c.names-in-Some.ensures.all) in
    let f : is_memory c.in_err-meet.field-0.0 ≡ false → all_below here depth (finite.entries c.args.source.now) ≡ Err c.in_err-meet.field-0.0
    = λ m.
    sym c.loop-path.invariant
    ∙ below_next here c.loop-path.walk c.in-Some.path.now (seen c.in-Some.entry) (sym c.in-Some.ensures) depth short
    ∙ ap (λ r. r >>= λ _. all_below here depth (drop 1 c.loop-path.walk)) (sym c.in_err-meet.ensures.meets) in
    search rules

pub returns : goal.returns
returns c = sym c.loop-path.invariant ∙ ap (all_below c.args.here.now (length c.args.goal.now)) (walk_end c.loop-path.walk (sym c.in_default.ensures))
