use Rattle.std.proofs.Common.{◌≡◌, ℕ, List, [], ◌∷◌, ◌++◌, Ok, sym, ap, ◌∙◌}
use Rattle.std.proofs.lemmas.List.{append-nil}
use Rattle.std.specs.FinMap as finite
use Rattle.llb_tree.specs.Tree.{all_dirs, dir_there}
use Rattle.llb_tree.specs.Nodes.{flat, left_in}
use Rattle.llb_tree.proofs.DirectoryListing.{tops, listed, list-Ok, list-none}
use Rattle.llb_tree.proofs.tree.Tree.list.Goals as goal

pub returns-in_default-clause-gives : goal.returns-in_default-clause-gives
returns-in_default-clause-gives c = λ _.
    list-none c.args.self.now c.args.path.now (sym (c.in_default.ensures [] ∙ (λ i. finite.get (c.self.view_is i) (append-nil (c.names.ensures.all i) i))))

pub returns-in_ok-names_of-in-Dir-clause-gives : goal.returns-in_ok-names_of-in-Dir-clause-gives
returns-in_ok-names_of-in-Dir-clause-gives c =
    let t = c.args.self.now in
    let p = c.args.path.now in
    let below : (q : List (List ℕ)) → finite.get c.in-Some.node.now q ≡ finite.get t (p ++ q) = λ q. c.in-Some.ensures q
    ∙ (λ i. finite.get (c.self.view_is i) (c.names.ensures.all i ++ q)) in
    let there : dir_there t p ≡ Ok tt = ap (λ o. all_dirs (o ∷ [])) (ap (finite.get t) (sym (append-nil p)) ∙ sym (below []) ∙ sym c.in-Dir.ensures) in
    let entries = c.children.ensures.entries _ (sym c.in-Dir.ensures) in
    let names : tops (flat (left_in c.children.result)) ≡ c.in_ok-names_of-in-Dir.field-0.items = cc (c.in_ok-names_of-in-Dir.ensures) in
    list-Ok t p there ∙ ap Ok (listed t c.in-Some.node.now p _ (left_in c.children.result) below entries ∙ names ∙ sym c.new.ensures)
