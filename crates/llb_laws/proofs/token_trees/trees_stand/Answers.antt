use Rattle.std.proofs.Common.{◌↔◌, IsTrue, IfOk, Option, Some, option_map, sym, ap, subst, Bor}
use Rattle.llb_tree.specs.Tree.{TreeMap}
use Rattle.llb_laws.specs.AlikeTrees.{AreAlike, BothOptions}
use Rattle.llb_laws.specs.TokenLists.{StandsFor}
use Rattle.llb_laws.proofs.token_trees.trees_stand.Goals as goal

abbrev tree_in : Option (Bor TreeMap) → Option TreeMap
tree_in o = option_map (λ t. t.now) o

pub returns-in-Some-second : goal.returns-in-Some-second
returns-in-Some-second c =
    let R = StandsFor c.args.contents.now c.args.by_value in
    subst (λ (o : Option TreeMap). IfOk c.tree_stands.result (λ is. IsTrue is ↔ BothOptions (AreAlike R) o (tree_in c.args.second)))
    (ap tree_in (sym c.in-Some.is))
    (subst (λ (p : Option TreeMap). IfOk c.tree_stands.result (λ is. IsTrue is ↔ BothOptions (AreAlike R) (Some c.in-Some.tree.now) p))
    (ap tree_in (sym c.in-Some-second.is)) c.tree_stands.ensures)
