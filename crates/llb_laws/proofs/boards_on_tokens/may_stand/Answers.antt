use Rattle.std.proofs.Common.{◌↔◌, []}
use Rattle.std.specs.Prelude.{IsTrue}
use Rattle.std.proofs.lemmas.Result.{IfOk-weaker}
use Rattle.llb_loader.proofs.OutputNumbers.{false_when}
use Rattle.llb_model.specs.TwoCacheModels.{store_of}
use Rattle.llb_laws.specs.TokenLists.{HaveTokensOf, MayStand}
use Rattle.llb_laws.proofs.TokenPlans.{differ}
use Rattle.llb_laws.proofs.boards_on_tokens.may_stand.Goals as goal

pub returns-then-not-writes_no_mark : goal.returns-then-not-writes_no_mark
returns-then-not-writes_no_mark c =
    false_when (λ both. differ c.writes_no_mark.result c.if-not-writes_no_mark.true (c.writes_no_mark.ensures.1 both.0))

pub returns : goal.returns
returns c =
    let g = c.args.graph.now in
    let contents = c.args.contents.now in
    let ls = c.args.tokens.now in
    let ms = c.args.locals.now in
    let none = c.writes_no_mark.ensures.0 c.if-not-writes_no_mark.false in
    IfOk-weaker c.have_tokens.result (λ is. IsTrue is ↔ HaveTokensOf contents g ls ms (store_of []) (store_of []))
    (λ is. IsTrue is ↔ MayStand contents g ls ms) (λ is same. (λ yes. (none, same.0 yes), λ both. same.1 both.1)) c.have_tokens.ensures
