use Rattle.std.proofs.Common.{◌≡◌, ◌<◌, true, false, length, refl, sym, ◌∙◌, subst, arith}
use Rattle.llb_loader.specs.declared.row.Row.{Row}
use Rattle.llb_loader.specs.RowLookup.{row_at}
use Rattle.llb_findings.specs.FindingSteps.{Differ}
use Rattle.llb_loader.proofs.FirstRowOfDigest.{below_step, row_read}
use Rattle.llb_findings.proofs.row_findings.collides.Goals as goal

pub loop-j-preserved : goal.loop-j-preserved
loop-j-preserved c =
    let rows = c.args.rows.now in
    let below : c.loop-j.j < length c.args.rows.now = (let a = c.loop-j-test.true in let b = c.requires in omega (arith, a, b)) in
    let first = row_read c.args.rows.now c.loop-j.j c.index-rows-j.result below c.index-rows-j.is in
    let second = row_read c.args.rows.now c.args.k c.index-rows-k.result c.requires c.index-rows-k.is in
    below_step (λ j. ¬ Differ (row_at c.args.rows.now j) (row_at c.args.rows.now c.args.k)) c.loop-j.j c.loop-j.invariant (λ h.
    let t = c.differ.ensures.1 (subst (λ (r : Row). Differ r c.index-rows-k.result) first
    (subst (λ (r : Row). Differ (row_at c.args.rows.now c.loop-j.j) r) second h)) in
    let z : true ≡ false = sym t ∙ c.if-differ.false in cc)

pub returns-then-differ : goal.returns-then-differ
returns-then-differ c =
    let below : c.loop-j.j < length c.args.rows.now = (let a = c.loop-j-test.true in let b = c.requires in omega (arith, a, b)) in
    let first = row_read c.args.rows.now c.loop-j.j c.index-rows-j.result below c.index-rows-j.is in
    let second = row_read c.args.rows.now c.args.k c.index-rows-k.result c.requires c.index-rows-k.is in
    let d = subst (λ (r : Row). Differ (row_at c.args.rows.now c.loop-j.j) r) (sym second)
    (subst (λ (r : Row). Differ r c.index-rows-k.result) (sym first) (c.differ.ensures.0 c.if-differ.true)) in
    (λ _. record { here = c.requires; earlier = (c.loop-j.j, c.loop-j-test.true, d.0, d.1) }, λ _. refl)

pub returns : goal.returns
returns c = (
  λ t. absurd (let z : false ≡ true = t in cc),
  λ h. absurd (c.loop-j.invariant h.earlier.0 (let a = h.earlier.1 in let b = c.loop-j-test.false in omega (arith, a, b)) (h.earlier.2, h.earlier.3)),
)
