use Rattle.std.proofs.Common.{◌≡◌, length, ap, sym, ◌∙◌, rules, [], vec_len}
use Rattle.std.specs.Prelude.{slice_get}
use Rattle.llb_execution.specs.Outputs.{numbers_of, placed_by}
use Rattle.llb_execution.proofs.OutputPlaces.{placed_start, placed_next, placed_end, no_items}
use Rattle.llb_execution.proofs.outputs.place_all.Goals as goal

pub loop-tree-init : goal.loop-tree-init
loop-tree-init c = placed_start (numbers_of c.args.actions.now) c.args.results.items c.args.outputs.items c.requires

pub loop-tree-preserved : goal.loop-tree-preserved
loop-tree-preserved c =
    let here = rw c.in-Some.ensures.items at c.loop-tree.invariant in
    let k : c.len.result ≡ length c.pop.new.self.items = search rules in
    let given = numbers_of c.args.actions.now in
    let next : c.place.new.outputs.items ≡ placed_by (slice_get given (length c.pop.new.self.items)) c.in-Some.tree c.loop-tree.outputs.items
    = c.place.ensures ∙ ap (λ o. placed_by o c.in-Some.tree c.loop-tree.outputs.items) (c.action_output.ensures ∙ ap (slice_get given) k) in
    rw next (placed_next given c.args.results.items (length c.args.outputs.items) c.pop.new.self.items c.in-Some.tree c.loop-tree.outputs.items here)

pub returns : goal.returns
returns c =
    let len : vec_len c.loop-tree.results ≡ length c.loop-tree.results.items = search rules in
    let empty : c.loop-tree.results.items ≡ [] = no_items c.loop-tree.results.items (sym len ∙ c.in_default.ensures.cases.0) in
    placed_end (numbers_of c.args.actions.now) c.args.results.items (length c.args.outputs.items) c.loop-tree.results.items c.loop-tree.outputs.items
    c.loop-tree.invariant empty
