use Rattle.std.proofs.Common.{◌≡◌, ℕ, ◌<◌, ◌≤◌, length, get_or}
use Rattle.std.specs.List.{All}
use Rattle.llb_loader.proofs.vertex_numbers.ranks_of.Given as goal

abbrev pub invariant-loop-i : goal.invariant-loop-i
invariant-loop-i l = record {
  len : length l.numbers.items ≡ length l.rows;
  inverse : (j : ℕ) → j < l.i → get_or l.numbers.items (get_or l.order j 0) 0 ≡ j;
  small : (n : ℕ) → 0 < n → length l.order ≤ n → All (λ r. r < n) l.numbers.items;
}
