use Rattle.std.proofs.Common.{below_more, ◌<◌, [], length, sym, ap, ◌∙◌, arith}
use Rattle.std.proofs.lemmas.List.{get_or_default}
use Rattle.llb_laws.specs.Renaming.{partner_in}
use Rattle.llb_laws.proofs.renaming.are_partners.Goals as goal

pub returns-then-not-is_partner : goal.returns-then-not-is_partner
returns-then-not-is_partner c =
    let xs = c.args.entries.now in
    let ys = c.args.others.now in
    let k = c.loop-k.k in
    let entry = c.index-entries-k.is ∙ get_or_default xs k c.index-entries-k.result [] c.loop-k-test.true in
    let low : k < length ys = omega (arith, c.loop-k-test.true, c.if-entries-others.false) in
    let partner = c.index-others-k.is ∙ get_or_default ys k c.index-others-k.result [] low in (
      λ e. absurd cc,
      λ p. absurd (let yes = c.is_partner.ensures.1 (ap (partner_in xs ys) entry ∙ p.each k c.loop-k-test.true ∙ sym partner) in cc),
    )

pub loop-k-preserved : goal.loop-k-preserved
loop-k-preserved c =
    let xs = c.args.entries.now in
    let ys = c.args.others.now in
    let k = c.loop-k.k in
    let entry = c.index-entries-k.is ∙ get_or_default xs k c.index-entries-k.result [] c.loop-k-test.true in
    let low : k < length ys = omega (arith, c.loop-k-test.true, c.if-entries-others.false) in
    let partner = c.index-others-k.is ∙ get_or_default ys k c.index-others-k.result [] low in
    below_more _ _ c.loop-k.invariant (sym (ap (partner_in xs ys) entry) ∙ c.is_partner.ensures.0 c.if-not-is_partner.false ∙ partner)
