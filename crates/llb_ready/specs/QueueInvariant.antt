-- The invariant of the queue, which relates the numbers in the queue (oldest first) to the numbers that the passes have put and taken.
use Rattle.std.specs.Prelude.{◌≡◌, ℕ, ◌+◌, ◌*◌, ◌<◌, ◌≤◌, List, [], length, slice_index, sum, sum_by}
use mathlib.Core.Option.{some}
use lib.ListN.{get_elem?}
use Rattle.llb_ready.specs.declared.pass_knowledge.Hand.{Hand}

-- The pass v is the fraction weight / unit of the whole pass. If the fraction is 0, v has put and taken nothing; else v has the queue's room as its `room`.
pub record IsPart (unit room weight : ℕ) (v : Hand) : Type 0 where
  pub whole : 0 < v.den
  pub is : weight * v.den ≡ v.num * unit
  pub idle : v.num ≡ 0 → (v.put ≡ []) × (v.taken ≡ [])
  pub same_room : 0 < v.num → v.room ≡ room

-- The fractions of the passes add up to the whole. For every function h: the sum of h over all numbers that were put is the sum of h over all numbers that were
-- taken, plus the sum of h over the numbers in the queue. The queue holds no more numbers than it has room for.
pub record IsBalanced (items : List ℕ) (views : List Hand) : Type 0 where
  pub unit : ℕ
  pub room : ℕ
  pub weights : List ℕ
  pub some_unit : 0 < unit
  pub whole : sum weights ≡ unit
  pub as_many : length weights ≡ length views
  pub parts : (place : ℕ) (v : Hand) → get_elem? views place ≡ some v → IsPart unit room (slice_index weights place) v
  pub balance : (h : ℕ → ℕ) → sum_by (λ v. sum_by h v.put) views ≡ sum_by (λ v. sum_by h v.taken) views + sum_by h items
  pub fits : length items ≤ room
