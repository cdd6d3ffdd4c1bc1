use Rattle.std.proofs.Common.{rules, ◌≡◌, ◌+◌, ℕ, Bool, List, [], length, drop, sym, ap, subst, ◌∙◌, Err, IsSome, false, arith, eqb-true, eq-eqb}
use Rattle.std.specs.Prelude.{None, IfOk}
use Rattle.std.proofs.lemmas.Bool.{false≢true}
use Rattle.std.proofs.lemmas.List.{drop_all}
use Rattle.std.specs.FinMap as finite
use Rattle.llb_tree.specs.Tree.{is_memory}
use Rattle.llb_fileop.specs.declared.refusal.Field.TheVariants.{Source}
use Rattle.llb_fileop.specs.Removing.{matching}
use Rattle.llb_fileop.specs.Copying.{copy_one}
use Rattle.llb_fileop.specs.Refusals.{first_of, no_match, no_copy, no_copies, no_match_copy, refused_or}
use Rattle.llb_fileop.proofs.ResultEqualities.{same_Ok}
use Rattle.llb_fileop.proofs.MatchedSubtrees.{AreThere, sources_are, there_all, there_at, no_path}
use Rattle.llb_fileop.proofs.RefusedCopies.{copies_next, match_some}
use Rattle.llb_fileop.proofs.refused_copy.no_match_copy.Goals as goal

pub returns-then-action : goal.returns-then-action
returns-then-action c =
    let pattern = c.args.pattern.now in
    let dest : List (List ℕ) × Bool = (c.args.dest.now.path, c.args.dest.now.inside) in
    let found = sources_are pattern c.parts.result.now c.args.second.now c.in_ok-sources.sources.items c.parts.ensures c.in_ok-sources.ensures in
    let zero : length c.in_ok-sources.sources.items ≡ 0 = omega (arith, eqb-true _ _ (sym c.is_empty.ensures ∙ c.if-is_empty.true)) in
    let none : matching pattern c.args.second.now ≡ [] = sym found ∙ no_path c.in_ok-sources.sources.items zero in
    sym (ap (λ ps. no_match_copy c.args.action.now dest c.args.second.now ps c.args.base.now) none
    ∙ ap (λ b. first_of (no_match Source b []) None) c.if-action.true)

pub returns-then-is_empty : goal.returns-then-is_empty
returns-then-is_empty c =
    let pattern = c.args.pattern.now in
    let dest : List (List ℕ) × Bool = (c.args.dest.now.path, c.args.dest.now.inside) in
    let found = sources_are pattern c.parts.result.now c.args.second.now c.in_ok-sources.sources.items c.parts.ensures c.in_ok-sources.ensures in
    let zero : length c.in_ok-sources.sources.items ≡ 0 = omega (arith, eqb-true _ _ (sym c.is_empty.ensures ∙ c.if-is_empty.true)) in
    let none : matching pattern c.args.second.now ≡ [] = sym found ∙ no_path c.in_ok-sources.sources.items zero in
    sym (ap (λ ps. no_match_copy c.args.action.now dest c.args.second.now ps c.args.base.now) none
    ∙ ap (λ b. first_of (no_match Source b []) None) c.if-action.false)

pub copy_one-requires : goal.copy_one-requires
copy_one-requires c =
    let pattern = c.args.pattern.now in
    let found = c.deref-path-items.ensures.value
    ∙ sources_are pattern c.parts.result.now c.args.second.now c.in_ok-sources.sources.items c.parts.ensures c.in_ok-sources.ensures in
    subst (λ q. IsSome (finite.get c.args.second.now q)) (sym c.path-item.is)
    (there_at c.args.second.now c.deref-path-items.result.now c.loop-path.path-index c.path-item.result c.loop-path-test.true
    (subst (AreThere c.args.second.now) (sym found) (there_all pattern c.args.second.now)))

pub no_copy-requires : goal.no_copy-requires
no_copy-requires c =
    let pattern = c.args.pattern.now in
    let found = c.deref-path-items.ensures.value
    ∙ sources_are pattern c.parts.result.now c.args.second.now c.in_ok-sources.sources.items c.parts.ensures c.in_ok-sources.ensures in
    subst (λ q. IsSome (finite.get c.args.second.now q)) (sym c.path-item.is)
    (there_at c.args.second.now c.deref-path-items.result.now c.loop-path.path-index c.path-item.result c.loop-path-test.true
    (subst (AreThere c.args.second.now) (sym found) (there_all pattern c.args.second.now)))

pub returns-in-Err : goal.returns-in-Err
returns-in-Err c =
    let pattern = c.args.pattern.now in
    let action = c.args.action.now in
    let second = c.args.second.now in
    let dest : List (List ℕ) × Bool = (c.args.dest.now.path, c.args.dest.now.inside) in
    let items = c.deref-path-items.result.now in
    let p = c.path-item.result in
    let found = c.deref-path-items.ensures.value
    ∙ sources_are pattern c.parts.result.now second c.in_ok-sources.sources.items c.parts.ensures c.in_ok-sources.ensures in
    let known : is_memory c.in-Err.field-0 ≡ false = search rules in
    let fails : copy_one action dest second p c.loop-path.tree ≡ Err c.in-Err.field-0 = c.in-Err.ensures known in
    let before : c.loop-path.tree ≡ c.in_ok-before.before = same_Ok c.in_ok-before.ensures in
    let rule : no_copy action dest second p c.in_ok-before.before ≡ no_match_copy action dest second (matching pattern second) c.args.base.now
    = ap (no_copy action dest second p) (sym before)
    ∙ sym (ap (λ ps. no_match_copy action dest second ps c.args.base.now) (sym found)
    ∙ match_some action dest second c.args.base.now items
    (λ none. false≢true (sym c.if-is_empty.false ∙ c.is_empty.ensures ∙ eq-eqb _ _ (omega (arith, none, ap length c.deref-path-items.ensures.value))))
    ∙ sym c.loop-path.invariant
    ∙ copies_next action dest second c.loop-path.tree items c.loop-path.path-index p c.loop-path-test.true c.path-item.is
    ∙ ap (λ r. refused_or r (no_copy action dest second p c.loop-path.tree) (no_copies action dest second (drop (c.loop-path.path-index + 1) items))) fails) in
    subst (λ x. IfOk c.no_copy.result (λ r. r ≡ x)) rule c.no_copy.ensures

pub returns : goal.returns
returns c =
    let pattern = c.args.pattern.now in
    let dest : List (List ℕ) × Bool = (c.args.dest.now.path, c.args.dest.now.inside) in
    let items = c.deref-path-items.result.now in
    let found = c.deref-path-items.ensures.value
    ∙ sources_are pattern c.parts.result.now c.args.second.now c.in_ok-sources.sources.items c.parts.ensures c.in_ok-sources.ensures in
    sym (ap (λ ps. no_match_copy c.args.action.now dest c.args.second.now ps c.args.base.now) (sym found)
    ∙ match_some c.args.action.now dest c.args.second.now c.args.base.now items
    (λ none. false≢true (sym c.if-is_empty.false ∙ c.is_empty.ensures ∙ eq-eqb _ _ (omega (arith, none, ap length c.deref-path-items.ensures.value))))
    ∙ sym c.loop-path.invariant
    ∙ ap (λ ps. no_copies c.args.action.now dest c.args.second.now ps c.loop-path.tree) (drop_all c.loop-path.path-index items c.loop-path-test.false))
