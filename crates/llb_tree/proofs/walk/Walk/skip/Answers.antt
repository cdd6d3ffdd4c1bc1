use Rattle.std.proofs.Common.{Ok, sym, ap, subst, ◌∙◌}
use Rattle.llb_tree.specs.Walks.{levels_of, left, past, GoesOn}
use Rattle.llb_tree.proofs.Entries.{entries-root}
use Rattle.llb_tree.proofs.WalkSteps.{short_behind, skipped}
use Rattle.llb_tree.proofs.walk.Walk.skip.Goals as goal

pub climb-requires-clause-short : goal.climb-requires-clause-short
climb-requires-clause-short c =
    let on = subst (λ n. GoesOn n c.self.inside.path c.self.inside.levels.items) c.in-Some.is c.self.invariant in
    short_behind c.self.inside.path (levels_of c.self.inside.levels.items) _ on.1

pub returns-clause-gives : goal.returns-clause-gives
returns-clause-gives c =
    let p = c.self.inside.path in
    let ls = c.self.inside.levels.items in
    let on = subst (λ n. GoesOn n p ls) c.in-Some.is c.self.invariant in
    let root = entries-root c.in-Some.node.now _ (sym c.entry-entry.ensures) in
    ap Ok (ap past (sym c.self.view_is ∙ ap (λ n. left n p ls) c.in-Some.is) ∙ skipped p (levels_of ls) c.in-Some.node.now _ root.0 root.1 on.0
    ∙ sym c.in_ok-next.ensures.left)
