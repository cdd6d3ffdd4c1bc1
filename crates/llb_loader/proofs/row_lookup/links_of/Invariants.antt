use Rattle.std.proofs.Common.{◌≡◌, take}
use Rattle.llb_loader.specs.RowLookup.{graph_of}
use Rattle.llb_loader.specs.ReachedRows.{lists}
use Rattle.llb_loader.proofs.row_lookup.links_of.Given as goal

abbrev pub invariant-loop-op : goal.invariant-loop-op
invariant-loop-op l = lists l.links.items ≡ graph_of l.rows l.terminal (take l.op-index l.ops)
