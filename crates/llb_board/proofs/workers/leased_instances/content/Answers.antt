use Rattle.std.proofs.Common.{◌≡◌, Option, unwrap_or, rules, sym, ap, ◌∙◌}
use Rattle.llb_tree.specs.Tree.{TreeMap, empty_tree}
use Rattle.llb_board.proofs.LeaseInstances.{tree_shown}
use Rattle.llb_board.proofs.workers.leased_instances.content.Goals as goal

pub returns-in_ok-copy-in-Some : goal.returns-in_ok-copy-in-Some
returns-in_ok-copy-in-Some c =
    let own : c.in_ok-copy-in-Some.field-0 ≡ c.in-Some.tree.now = search rules in
    own ∙ sym (tree_shown c.args.caches.now.rows c.args.place.now ∙ ap (λ (o : Option TreeMap). unwrap_or o empty_tree) (sym c.in-Some.ensures))

pub returns-in_ok-empty-in-None : goal.returns-in_ok-empty-in-None
returns-in_ok-empty-in-None c =
    let own : c.in_ok-empty-in-None.field-0 ≡ empty_tree = search rules in
    own ∙ sym (tree_shown c.args.caches.now.rows c.args.place.now ∙ ap (λ (o : Option TreeMap). unwrap_or o empty_tree) (sym c.in-None.ensures))
