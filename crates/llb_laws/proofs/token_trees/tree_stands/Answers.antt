use Rattle.std.proofs.Common.{◌≡◌, ◌↔◌, drop, List, sym, subst}
use Rattle.std.specs.FinMap as finite
use Rattle.llb_tree.specs.Nodes.{pair_seen, seen}
use Rattle.llb_fileop.proofs.ResultEqualities.{same_Ok}
use Rattle.llb_fileop.proofs.PathOrderTraversal.{Pair}
use Rattle.llb_loader.proofs.OutputNumbers.{false_when}
use Rattle.llb_laws.specs.AlikeTrees.{AreAlike, BothLists}
use Rattle.llb_laws.specs.TokenLists.{StandsFor}
use Rattle.llb_laws.proofs.TokenPlans.{differ}
use Rattle.llb_laws.proofs.TokenTrees.{alike_by_entries, entries_end, entries_fewer, entries_first}
use Rattle.llb_laws.proofs.AlikeTreeEdits.{ArePairs}
use Rattle.llb_laws.proofs.token_trees.tree_stands.Goals as goal

pub loop-path-init : goal.loop-path-init
loop-path-init c =
    let R = StandsFor c.args.contents.now c.args.by_value in
    let t = c.args.first.now in
    let u = c.args.second.now in
    subst (λ (fs : List Pair). AreAlike R t u ↔ BothLists (ArePairs R) c.walk-walk.result fs) (sym c.walk-other.ensures)
    (subst (λ (es : List Pair). AreAlike R t u ↔ BothLists (ArePairs R) es (finite.entries u)) (sym c.walk-walk.ensures) (alike_by_entries R t u))

pub returns-in_default-at : goal.returns-in_default-at
returns-in_default-at c =
    let R = StandsFor c.args.contents.now c.args.by_value in
    let first : Pair = (c.in-Some.path.now, seen c.in-Some.entry) in
    false_when (λ alike.
    entries_fewer R c.loop-path.walk c.loop-path.other first (sym c.in-Some.ensures) (sym c.in_default-at.ensures) (c.loop-path.invariant.0 alike))

pub returns-then-not-same : goal.returns-then-not-same
returns-then-not-same c =
    let R = StandsFor c.args.contents.now c.args.by_value in
    let first : Pair = (c.in-Some.path.now, seen c.in-Some.entry) in
    let second : Pair = (c.in-Some-at.place.now, seen c.in-Some-at.same) in
    let here = entries_first R c.loop-path.walk c.loop-path.other first second (sym c.in-Some.ensures) (sym c.in-Some-at.ensures) in
    false_when (λ alike. differ c.same.result c.if-not-same.true (c.same.ensures.1 (here.0 (c.loop-path.invariant.0 alike)).0.0))

pub returns-then-not-entry_stands : goal.returns-then-not-entry_stands
returns-then-not-entry_stands c =
    let R = StandsFor c.args.contents.now c.args.by_value in
    let first : Pair = (c.in-Some.path.now, seen c.in-Some.entry) in
    let second : Pair = (c.in-Some-at.place.now, seen c.in-Some-at.same) in
    let here = entries_first R c.loop-path.walk c.loop-path.other first second (sym c.in-Some.ensures) (sym c.in-Some-at.ensures) in
    false_when (λ alike.
    differ c.entry_stands.result c.if-not-entry_stands.true (c.entry_stands.ensures.1 (here.0 (c.loop-path.invariant.0 alike)).0.1))

pub loop-path-preserved : goal.loop-path-preserved
loop-path-preserved c =
    let R = StandsFor c.args.contents.now c.args.by_value in
    let t = c.args.first.now in
    let u = c.args.second.now in
    let walk = c.loop-path.walk in
    let other = c.loop-path.other in
    let first : Pair = (c.in-Some.path.now, seen c.in-Some.entry) in
    let second : Pair = (c.in-Some-at.place.now, seen c.in-Some-at.same) in
    let here = entries_first R walk other first second (sym c.in-Some.ensures) (sym c.in-Some-at.ensures) in
    let pair : ArePairs R first second = (c.same.ensures.0 c.if-not-same.false, c.entry_stands.ensures.0 c.if-not-entry_stands.false) in
    let next : AreAlike R t u ↔ BothLists (ArePairs R) (drop 1 walk) (drop 1 other) = (
      λ alike. (here.0 (c.loop-path.invariant.0 alike)).1,
      λ rest. c.loop-path.invariant.1 (here.1 (pair, rest)),
    ) in
    let one : drop 1 walk ≡ c.advance.new.self = same_Ok c.in_ok-advance.ensures.gives in
    let two : drop 1 other ≡ c.advance-in-Some.new.self = same_Ok c.in_ok-advance-2.ensures.gives in
    subst (λ (fs : List Pair). AreAlike R t u ↔ BothLists (ArePairs R) c.advance.new.self fs) two
    (subst (λ (es : List Pair). AreAlike R t u ↔ BothLists (ArePairs R) es (drop 1 other)) one next)

pub returns : goal.returns
returns c =
    let R = StandsFor c.args.contents.now c.args.by_value in
    entries_end R pair_seen (AreAlike R c.args.first.now c.args.second.now) c.loop-path.walk c.loop-path.other c.at-2.result c.is_none.result
    (sym c.in_default.ensures) c.at-2.ensures c.is_none.ensures c.loop-path.invariant
