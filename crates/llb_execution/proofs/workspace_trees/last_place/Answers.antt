use Rattle.std.proofs.Common.{◌≡◌, ℕ, ◌+◌, ◌<◌, ◌≤◌, ◌⊎◌, ◌∙◌, length, get_or, drop, min, inl, inr, sym, ap, arith}
use Rattle.std.proofs.Math.Nat.{min_comm, min-eq_left, min-le_left, min-le_right}
use Rattle.std.proofs.lemmas.Bool.{cases_lt}
use Rattle.std.proofs.lemmas.List.{get_or_default}
use Rattle.llb_execution.specs.WorkspaceTrees.{tree_or, last_tree}
use Rattle.llb_execution.proofs.WorkspaceTreeNumbers.{looked_more, looked_all, looked_held}
use Rattle.llb_execution.proofs.workspace_trees.last_place.Goals as goal

-- past the end of one of the lists
past : (m n k : ℕ) → k ≡ min m n → (m ≤ k) ⊎ (n ≤ k)
past m n k is = elim (cases_lt n m) [
  | inl less ↦ let e = min-eq_left {n = n} {m = m} (omega (arith, less)) in let f = min_comm m n in inr (omega (arith, is, e, f))
  | inr more ↦ let e = min-eq_left {n = m} {m = n} more in inl (omega (arith, is, e))
]

pub loop-k-preserved : goal.loop-k-preserved
loop-k-preserved c trees own count =
    let ms = c.args.numbers.now in
    let k = c.loop-k.k in
    let is = c.min-count.ensures in
    let low : k < length ms = omega (arith, is, c.loop-k-test.true, min-le_left (length ms) c.args.held) in
    let inside : k < length trees = omega (arith, is, count, c.loop-k-test.true, min-le_right (length ms) c.args.held) in
    ap (λ p. last_tree c.args.i (drop (k + 1) ms) (drop (k + 1) trees) (tree_or own trees p)) c.next_place-place.ensures
    ∙ looked_more c.args.i ms trees own c.loop-k.place k (get_or ms k 0) low inside (get_or_default ms k (get_or ms k 0) 0 low)
    ∙ c.loop-k.invariant trees own count

pub returns : goal.returns
returns c trees own count =
    let ms = c.args.numbers.now in
    let k = c.loop-k.k in
    let found = tree_or own trees c.loop-k.place in
    let ended : last_tree c.args.i (drop k ms) (drop k trees) found ≡ found = elim (past (length ms) c.args.held c.min-count.result c.min-count.ensures) [
      | inl e ↦ looked_all c.args.i ms trees found k (omega (arith, e, c.loop-k-test.false))
      | inr e ↦ looked_held c.args.i ms trees found k (omega (arith, e, count, c.loop-k-test.false))
    ] in
    sym ended ∙ c.loop-k.invariant trees own count
