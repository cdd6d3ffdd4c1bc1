use Rattle.std.proofs.Common.{◌∙◌, ◌↔◌, Bool, List, ℕ, [], length, subst, sym, ap}
use Rattle.std.specs.Prelude.{IsTrue}
use Rattle.std.proofs.lemmas.Result.{IfOk-weaker}
use Rattle.llb_loader.specs.WaitingRows.{IsMarked}
use Rattle.llb_model.specs.TwoCacheModels.{store_of}
use Rattle.llb_laws.specs.TokenRuns.{IsByValue}
use Rattle.llb_laws.specs.TokenLists.{HaveTokensOf, SourcesStand}
use Rattle.llb_laws.proofs.TokenTrees.{tokens_by_sources}
use Rattle.llb_laws.proofs.boards_on_tokens.have_tokens.Goals as goal

pub sources_stand-requires : goal.sources_stand-requires
sources_stand-requires c = ap length c.as_slice.ensures.value ∙ c.in_ok-marks.ensures.count

pub returns : goal.returns
returns c =
    let g = c.args.graph.now in
    let ls = c.args.tokens.now in
    let ms = c.args.locals.now in
    let marks = c.as_slice.result.now in
    let exact = subst (λ (xs : List Bool). (k : ℕ) → IsMarked xs k ↔ IsByValue g k) (sym c.as_slice.ensures.value) c.in_ok-marks.ensures.exact in
    let e = tokens_by_sources c.args.contents.now g marks exact ls ms c.locals_have_names.ensures in
    IfOk-weaker c.sources_stand.result (λ is. IsTrue is ↔ SourcesStand c.args.contents.now marks g ls ms)
    (λ is. IsTrue is ↔ HaveTokensOf c.args.contents.now g ls ms (store_of []) (store_of []))
    (λ is same. (λ t. e.0 (same.0 t), λ h. same.1 (e.1 h))) c.sources_stand.ensures
