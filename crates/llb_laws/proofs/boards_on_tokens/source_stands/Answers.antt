use Rattle.std.proofs.Common.{◌≡◌, ◌∙◌, ◌↔◌, List, ℕ, Option, Some, option_map, sym, ap, Bor}
use Rattle.std.specs.Prelude.{IsTrue}
use Rattle.std.proofs.lemmas.Result.{IfOk-weaker}
use Rattle.llb_tree.specs.Tree.{TreeMap}
use Rattle.llb_loader.specs.LocalSources.{local_name}
use Rattle.llb_loader.proofs.OutputNumbers.{true_when}
use Rattle.llb_laws.specs.AlikeTrees.{AreAlike, BothOptions}
use Rattle.llb_laws.specs.TokenLists.{SourceStands, StandsFor}
use Rattle.llb_laws.proofs.TokenTrees.{no_source, source_by_name}
use Rattle.llb_laws.proofs.boards_on_tokens.source_stands.Goals as goal

abbrev tree_in : Option (Bor TreeMap) → Option TreeMap
tree_in o = option_map (λ t. t.now) o

abbrev name_in : Option (Bor (List ℕ)) → Option (List ℕ)
name_in o = option_map (λ t. t.now) o

pub returns-in-Some : goal.returns-in-Some
returns-in-Some c =
    let R = StandsFor c.args.contents.now c.args.by_value in
    let ls = c.args.tokens.now in
    let ms = c.args.locals.now in
    let x = c.args.vertex.now in
    let named : local_name x.op ≡ Some c.in-Some.name.now = sym c.local_name.ensures ∙ ap name_in c.in-Some.is in
    let e = source_by_name R ls ms x c.in-Some.name.now (tree_in c.get.result) (tree_in c.get-in-Some.result) named c.get.ensures c.get-in-Some.ensures in
    IfOk-weaker c.trees_stand.result (λ is. IsTrue is ↔ BothOptions (AreAlike R) (tree_in c.get.result) (tree_in c.get-in-Some.result))
    (λ is. IsTrue is ↔ SourceStands R ls ms x) (λ is same. (λ t. e.0 (same.0 t), λ h. same.1 (e.1 h))) c.trees_stand.ensures

pub returns-in-None : goal.returns-in-None
returns-in-None c =
    true_when (no_source (StandsFor c.args.contents.now c.args.by_value) c.args.tokens.now c.args.locals.now c.args.vertex.now
    (sym c.local_name.ensures ∙ ap name_in c.in-None.is))
