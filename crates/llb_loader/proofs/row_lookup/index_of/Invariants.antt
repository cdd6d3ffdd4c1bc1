use Rattle.std.proofs.Common.{◌≡◌, ℕ, ◌<◌, List, Some, length, get_or}
use Rattle.std.specs.BTreeMap.{get_by}
use Rattle.std.specs.Cmp.Lexicographic.{slice_cmp}
use Rattle.std.specs.Ordering.{nat_cmp}
use Rattle.llb_loader.specs.RowLookup.{row_at, Collides}
use Rattle.llb_loader.specs.RowsWithoutBytes.{with_bytes}
use Rattle.llb_loader.proofs.FirstRowOfDigest.{IsFirst}
use Rattle.llb_loader.proofs.row_lookup.index_of.Given as goal

abbrev pub invariant-loop-k : goal.invariant-loop-k
invariant-loop-k l = record {
  found : (d : List ℕ) → IsFirst l.rows l.k d (get_by (λ q. slice_cmp nat_cmp d q.now) l.index);
  len : length l.firsts.items ≡ l.k;
  firsts : (j : ℕ) → j < l.k → IsFirst l.rows (length l.rows) (row_at l.rows j).digest (Some (get_or l.firsts.items j 0));
  apart : (j : ℕ) → j < l.k → ¬ Collides (with_bytes l.rows l.entries) j;
}
