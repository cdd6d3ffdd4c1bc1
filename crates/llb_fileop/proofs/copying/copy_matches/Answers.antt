use Rattle.std.proofs.Common.{rules, ◌≡◌, ◌+◌, [], length, drop, sym, ap, subst, ◌∙◌, Err, IsSome, false, arith, eqb-true, eq-eqb}
use Rattle.std.proofs.lemmas.Bool.{false≢true}
use Rattle.std.proofs.lemmas.List.{drop_all}
use Rattle.std.specs.FinMap as finite
use Rattle.llb_wire.specs.CallResults.{◌>>=◌}
use Rattle.llb_tree.specs.Tree as tree
use Rattle.llb_tree.specs.Tree.{is_memory}
use Rattle.llb_fileop.specs.Removing.{matching}
use Rattle.llb_fileop.specs.Copying.{copy_each, copy_chosen, EachMatch}
use Rattle.llb_fileop.proofs.ResultEqualities.{same_Ok}
use Rattle.llb_fileop.proofs.MatchedSubtrees.{AreThere, sources_are, there_all, there_at, copy_none, copy_some, copy_next, no_path}
use Rattle.llb_fileop.proofs.copying.copy_matches.Goals as goal

pub returns-then-is_empty : goal.returns-then-is_empty
returns-then-is_empty c =
    let pattern = c.args.pattern.now in
    let found = sources_are pattern c.parts.result.now c.args.second.now c.in_ok-sources.sources.items c.parts.ensures c.in_ok-sources.ensures in
    let zero : length c.in_ok-sources.sources.items ≡ 0 = omega (arith, eqb-true _ _ (sym c.is_empty.ensures ∙ c.if-is_empty.true)) in
    let none : matching pattern c.args.second.now ≡ [] = sym found ∙ no_path c.in_ok-sources.sources.items zero in
    subst (λ r. tree.Gives (λ t. t) c.absent.result r)
    (sym (copy_none c.args.action.now (c.args.dest.now.path, c.args.dest.now.inside) c.args.second.now c.args.base.now (matching pattern c.args.second.now)
    c.args.action.now.allow_empty_wildcard none)) c.absent.ensures.gives

pub copy_one-requires : goal.copy_one-requires
copy_one-requires c =
    let pattern = c.args.pattern.now in
    let found = c.deref-path-items.ensures.value
    ∙ sources_are pattern c.parts.result.now c.args.second.now c.in_ok-sources.sources.items c.parts.ensures c.in_ok-sources.ensures in
    subst (λ q. IsSome (finite.get c.args.second.now q)) (sym c.path-item.is)
    (there_at c.args.second.now c.deref-path-items.result.now c.loop-path.path-index c.path-item.result c.loop-path-test.true
    (subst (AreThere c.args.second.now) (sym found) (there_all pattern c.args.second.now)))

pub loop-path-init : goal.loop-path-init
loop-path-init c =
    ap (copy_each c.args.action.now (c.args.dest.now.path, c.args.dest.now.inside) c.args.second.now c.deref-path-items.result.now)
    (sym (same_Ok c.in_ok-tree.ensures))

pub loop-path-preserved : goal.loop-path-preserved
loop-path-preserved c =
    let items = c.deref-path-items.result.now in
    sym (copy_next c.args.action.now (c.args.dest.now.path, c.args.dest.now.inside) c.args.second.now c.loop-path.tree items c.loop-path.path-index
    c.path-item.result c.loop-path-test.true c.path-item.is
    ∙ ap (λ r. r >>= copy_each c.args.action.now (c.args.dest.now.path, c.args.dest.now.inside) c.args.second.now (drop (c.loop-path.path-index + 1) items))
    c.in_ok-copy_one.ensures)
    ∙ c.loop-path.invariant

pub returns-in_err-copy_one : goal.returns-in_err-copy_one
returns-in_err-copy_one c =
    let pattern = c.args.pattern.now in
    let items = c.deref-path-items.result.now in
    let found = c.deref-path-items.ensures.value
    ∙ sources_are pattern c.parts.result.now c.args.second.now c.in_ok-sources.sources.items c.parts.ensures c.in_ok-sources.ensures in
    let f : is_memory c.in_err-copy_one.field-0.0 ≡ false
    → copy_chosen c.args.action.now (c.args.dest.now.path, c.args.dest.now.inside) c.args.base.now c.args.second.now (EachMatch pattern)
    ≡ Err c.in_err-copy_one.field-0.0
    = λ m.
    copy_some c.args.action.now (c.args.dest.now.path, c.args.dest.now.inside) c.args.second.now c.args.base.now pattern items found
    (λ none. false≢true (sym c.if-is_empty.false ∙ c.is_empty.ensures ∙ eq-eqb _ _ (omega (arith, none, ap length c.deref-path-items.ensures.value))))
    ∙ sym c.loop-path.invariant
    ∙ copy_next c.args.action.now (c.args.dest.now.path, c.args.dest.now.inside) c.args.second.now c.loop-path.tree items c.loop-path.path-index
    c.path-item.result c.loop-path-test.true c.path-item.is
    ∙ ap (λ r. r >>= copy_each c.args.action.now (c.args.dest.now.path, c.args.dest.now.inside) c.args.second.now (drop (c.loop-path.path-index + 1) items))
    (c.in_err-copy_one.ensures m) in
    search rules

pub returns : goal.returns
returns c =
    let pattern = c.args.pattern.now in
    let items = c.deref-path-items.result.now in
    let found = c.deref-path-items.ensures.value
    ∙ sources_are pattern c.parts.result.now c.args.second.now c.in_ok-sources.sources.items c.parts.ensures c.in_ok-sources.ensures in
    copy_some c.args.action.now (c.args.dest.now.path, c.args.dest.now.inside) c.args.second.now c.args.base.now pattern items found
    (λ none. false≢true (sym c.if-is_empty.false ∙ c.is_empty.ensures ∙ eq-eqb _ _ (omega (arith, none, ap length c.deref-path-items.ensures.value))))
    ∙ sym c.loop-path.invariant
    ∙ ap (λ ps. copy_each c.args.action.now (c.args.dest.now.path, c.args.dest.now.inside) c.args.second.now ps c.loop-path.tree)
    (drop_all c.loop-path.path-index items c.loop-path-test.false)
