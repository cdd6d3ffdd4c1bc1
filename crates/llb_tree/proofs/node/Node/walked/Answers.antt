use Rattle.std.proofs.Common.{◌≡◌, [], ◌∷◌, List, ℕ, Some, take, option_map, ap, sym, ◌∙◌}
use Rattle.std.proofs.lemmas.List.{append-nil}
use Rattle.std.specs.FinMap as finite
use Rattle.llb_tree.specs.Tree.{Dir}
use Rattle.llb_tree.specs.Nodes.{look_in}
use Rattle.llb_tree.proofs.WalkByName.{walk_dir}
use Rattle.llb_tree.proofs.NodeReplacement.{take_next}
use Rattle.llb_tree.proofs.node.Node.walked.Goals as goal

pub loop-name-preserved : goal.loop-name-preserved
loop-name-preserved c =
    let names = c.args.names.now in
    let i = c.loop-name.name-index in
    let look = finite.get c.args.self.now in
    let below : (q : List (List ℕ)) → finite.get c.in-Some.here.now q ≡ look_in (option_map (λ n. n.now) c.loop-name.node) q =
    λ q. ap (λ o. look_in (option_map (λ n. n.now) o) q) (sym c.in-Some.is) in
    let here : look (take i names) ≡ Some (Dir c.in-Dir.field-0) = ap look (sym (append-nil (take i names)))
    ∙ sym (below [] ∙ c.loop-name.invariant.1 []) ∙ sym c.in-Dir.ensures in (
      walk_dir look names i c.loop-name-test.true c.loop-name.invariant.0 _ here,
      λ q. c.child-node.ensures q ∙ below (c.name-item.result ∷ q) ∙ c.loop-name.invariant.1 (c.name-item.result ∷ q)
          ∙ ap look (take_next names i c.name-item.result q c.loop-name-test.true c.name-item.is),
    )
