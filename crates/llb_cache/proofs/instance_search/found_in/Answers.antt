use Rattle.std.proofs.Common.{◌≡◌, List, Option, slice_get, unwrap_or, sym, ap, ◌∙◌}
use Rattle.llb_tree.specs.Tree.{TreeMap}
use Rattle.llb_cache.proofs.RowTreeWrites.{trees_read}
use Rattle.llb_cache.proofs.instance_search.found_in.Goals as goal

pub returns-clause-tree : goal.returns-clause-tree
returns-clause-tree c trees at =
    let read = trees_read c.args.rows.now.entries.items c.args.row c.index.result.now c.requires c.index.ensures in
    let same : c.index.result.now.1 ≡ trees = ap (λ (o : Option (List TreeMap)). unwrap_or o trees) (sym read ∙ at) in
    c.get.ensures ∙ ap (λ (ts : List TreeMap). slice_get ts c.args.number) same
