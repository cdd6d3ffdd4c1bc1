use Rattle.std.proofs.Common.{◌≡◌, ◌↔◌, false, subst, sym}
use Rattle.std.specs.Prelude.{IsTrue}
use Rattle.std.proofs.lemmas.Result.{IfOk-weaker}
use Rattle.llb_loader.specs.Graph.{Numbered}
use Rattle.llb_laws.specs.TokenLists.{BoardStandsFor, MayStand}
use Rattle.llb_laws.specs.OtherContents.{AreSpelled}
use Rattle.llb_laws.proofs.TokenPlans.{differ}
use Rattle.llb_laws.proofs.OtherContents.{board_stands_for_others}
use Rattle.llb_laws.proofs.boards_on_tokens.serves_other_contents.Goals as goal

pub returns-clause-yes : goal.returns-clause-yes
returns-clause-yes c =
    let b = c.args.board.now in
    let g = c.graph-graph.result.now in
    let ls = c.args.tokens.now in
    let others = c.args.others.now in
    let ns = c.args.changed.now in
    IfOk-weaker c.are_spelled.result (λ is. IsTrue is ↔ AreSpelled others g ls ns) (λ is. IsTrue is → BoardStandsFor others ls ns b)
    (λ is same yes. board_stands_for_others c.args.contents.now others ls c.args.locals.now ns b g c.graph-graph.ensures
    c.board_serves_each_table.ensures (c.in_ok-may_stand.ensures.0 c.if-not-branch.false) (same.0 yes)) c.are_spelled.ensures

pub returns-clause-no : goal.returns-clause-no
returns-clause-no c =
    let b = c.args.board.now in
    let g = c.graph-graph.result.now in
    let ls = c.args.tokens.now in
    let others = c.args.others.now in
    let ns = c.args.changed.now in
    IfOk-weaker c.are_spelled.result (λ is. IsTrue is ↔ AreSpelled others g ls ns)
    (λ is. is ≡ false → ¬ (MayStand c.args.contents.now b.build.graph ls c.args.locals.now × AreSpelled others b.build.graph ls ns))
    (λ is same no both. differ is no (same.1 (subst (λ (h : Numbered). AreSpelled others h ls ns) (sym c.graph-graph.ensures) both.1))) c.are_spelled.ensures
