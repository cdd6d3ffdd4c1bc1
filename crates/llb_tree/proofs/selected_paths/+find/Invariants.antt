-- The rest of the tests is one shorter with each level.
use Rattle.std.proofs.Common.{◌≡◌, ℕ, ◌+◌, ◌*◌, ◌∷◌, ◌++◌, length, map, take}
use Rattle.std.specs.List.{filter}
use Rattle.llb_tree.specs.Nodes.{flat, left_in}
use Rattle.llb_tree.specs.PathTests.{passes_all}
use Rattle.llb_tree.proofs.ChildCursor.{IsAt}
use Rattle.llb_tree.proofs.selected_paths.+find.Given as goal

abbrev pub decreases-find : goal.decreases-find
decreases-find g l = 2 * length l.tests.now

abbrev pub decreases-find_in : goal.decreases-find_in
decreases-find_in g l = 2 * length l.rest.now + 1

abbrev pub invariant-find-loop-kid : goal.invariant-find-loop-kid
invariant-find-loop-kid g l = (i : ℕ) × IsAt (left_in l.initial.left) (left_in l.left) i × (l.path ≡ l.fn.path)
    × (l.found.items
    ≡ l.fn.found.items ++ map (λ q. l.fn.path ++ q)
    (filter (passes_all g.T.NameTest.passes (l.test ∷ l.rest)) (map (λ e. e.0) (flat (take i (left_in l.initial.left))))))

abbrev pub decreases-find-loop-kid : goal.decreases-find-loop-kid
decreases-find-loop-kid g l = length (left_in l.left)
