use Rattle.std.proofs.Common.{◌≡◌, ◌↔◌, false, subst, sym}
use Rattle.std.specs.Prelude.{IsTrue}
use Rattle.std.proofs.lemmas.Result.{IfOk-weaker}
use Rattle.llb_loader.specs.Graph.{Numbered}
use Rattle.llb_laws.specs.TokenLists.{BoardStandsFor, MayStand}
use Rattle.llb_laws.proofs.TokenPlans.{differ}
use Rattle.llb_laws.proofs.TokenTrees.{board_stands_for}
use Rattle.llb_laws.proofs.boards_on_tokens.stands_for_contents.Goals as goal

pub returns-clause-yes : goal.returns-clause-yes
returns-clause-yes c =
    let g = c.graph.result.now in
    let contents = c.args.contents.now in
    let ls = c.args.tokens.now in
    let ms = c.args.locals.now in
    IfOk-weaker c.may_stand.result (λ is. IsTrue is ↔ MayStand contents g ls ms) (λ is. IsTrue is → BoardStandsFor contents ls ms c.args.board.now)
    (λ is same yes. board_stands_for contents ls ms c.args.board.now g c.graph.ensures c.boards_stand_for_contents.ensures.contents (same.0 yes))
    c.may_stand.ensures

pub returns-clause-no : goal.returns-clause-no
returns-clause-no c =
    let contents = c.args.contents.now in
    let ls = c.args.tokens.now in
    let ms = c.args.locals.now in
    IfOk-weaker c.may_stand.result (λ is. IsTrue is ↔ MayStand contents c.graph.result.now ls ms)
    (λ is. is ≡ false → ¬ MayStand contents c.args.board.now.build.graph ls ms)
    (λ is same refused may. differ is refused (same.1 (subst (λ (g : Numbered). MayStand contents g ls ms) (sym c.graph.ensures) may))) c.may_stand.ensures
