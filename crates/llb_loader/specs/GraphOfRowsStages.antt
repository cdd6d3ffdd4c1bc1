-- What holds of the rows between the stages of linking.
use Rattle.std.specs.Prelude.{◌≡◌, ℕ, ◌≤◌, ◌↔◌, List, length}
use Rattle.std.specs.List.{All}
use Rattle.llb_ops.specs.OpsWithinLimits.{IsWithinLimits}
use Rattle.llb_ops.specs.declared.op.Op.{Op}
use Rattle.llb_loader.specs.declared.row.Row.{Row}
use Rattle.llb_loader.specs.declared.graph_of_rows.Linked.{Linked}
use Rattle.llb_loader.specs.declared.graph_of_rows.Names.{Names}
use Rattle.llb_loader.specs.RowLookup.{row_at}
use Rattle.llb_loader.specs.RowReading.{AreOps}
use Rattle.llb_loader.specs.ReachedRows.{lists}
use Rattle.llb_loader.specs.WaitingRows.{IsMarked}
use Rattle.llb_loader.specs.GraphOfRows.{Plan, plan, IsPlanOf, IsApart, IsNamed, ReachedRow, links_in}

-- the `Plan` of linked rows: the rows, their ops, the number of the terminal's row, and the number of the result's row
abbrev pub plan_in : Linked → Plan
plan_in l = plan l.rows.items l.ops.items l.terminal l.start

-- In l the terminal, the row of the result and the links are those of l's rows and ops; inputs of reached rows (`ReachedRow`) name rows; `seen` marks these.
pub record IsLinked (l : Linked) : Type 0 where
  pub few : length l.rows.items ≤ 65_536
  pub len : length l.ops.items ≡ length l.rows.items
  pub within : All IsWithinLimits l.ops.items
  pub planned : IsPlanOf l.rows.items l.ops.items (plan_in l)
  pub named : IsNamed (plan_in l)
  pub links : lists l.links.items ≡ links_in (plan_in l)
  pub seen : length l.seen.items ≡ length l.rows.items
  pub exact : (k : ℕ) → IsMarked l.seen.items k ↔ ReachedRow (plan_in l) k

-- n has the rows that the digest texts in the ops of these rows name. The fields `terminal` and `start` are the rows of the terminal and of the result; `links`
-- has for each row the rows that its inputs name; each input of a reached row names a row; `seen` marks the reached rows.
pub record AreNames (rows : List Row) (ops : List Op) (n : Names) : Type 0 where
  pub planned : IsPlanOf rows ops (plan rows ops n.terminal n.start)
  pub named : IsNamed (plan rows ops n.terminal n.start)
  pub links : lists n.links.items ≡ links_in (plan rows ops n.terminal n.start)
  pub seen : length n.seen.items ≡ length rows
  pub exact : (k : ℕ) → IsMarked n.seen.items k ↔ ReachedRow (plan rows ops n.terminal n.start) k

-- `IsLinked` holds of l; the rows are not all the same, and none collide (`IsApart`). Row k is read as op k of l, and has the digest text of row k of l.
pub record IsLinkedFrom (rows : List Row) (l : Linked) : Type 0 where
  pub ops : AreOps rows l.ops.items
  pub len : length l.rows.items ≡ length rows
  pub digests : (k : ℕ) → (row_at l.rows.items k).digest ≡ (row_at rows k).digest
  pub apart : IsApart rows
  pub linked : IsLinked l
