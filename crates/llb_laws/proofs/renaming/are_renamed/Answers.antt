use Rattle.std.proofs.Common.{below_more, ◌<◌, [], length, refl, sym, ◌∙◌, arith}
use Rattle.std.proofs.lemmas.List.{get_or_default}
use Rattle.llb_laws.proofs.RenamedEntries.{alike_by}
use Rattle.llb_laws.proofs.renaming.are_renamed.Goals as goal

pub returns-then-not-branch : goal.returns-then-not-branch
returns-then-not-branch c =
    let xs = c.args.entries.now in
    let ys = c.args.others.now in
    let k = c.loop-k.k in
    let count = (c.are_partners.ensures.0 c.if-not-are_partners.false).as_many in
    let low : k < length ys = omega (arith, c.loop-k-test.true, count) in
    let entry = c.index-entries-k.is ∙ get_or_default xs k c.index-entries-k.result [] c.loop-k-test.true in
    let partner = c.index-others-k.is ∙ get_or_default ys k c.index-others-k.result [] low in
    let digests = c.as_slice-digests.ensures.value ∙ c.in_ok-digests.ensures in
    let others = c.as_slice-renamed.ensures.value ∙ c.in_ok-renamed.ensures in (
      λ e. absurd cc,
      λ r. absurd (
          let alike = alike_by c.args.names.now _ _ _ _ _ _ _ _ (sym digests) (sym others) (sym entry) (sym partner) (r.ops k c.loop-k-test.true) in
          let yes = c.in_ok-is_entry_renamed.ensures.1 alike in
          cc
          ),
    )

pub loop-k-preserved : goal.loop-k-preserved
loop-k-preserved c =
    let xs = c.args.entries.now in
    let ys = c.args.others.now in
    let k = c.loop-k.k in
    let count = (c.are_partners.ensures.0 c.if-not-are_partners.false).as_many in
    let low : k < length ys = omega (arith, c.loop-k-test.true, count) in
    let entry = c.index-entries-k.is ∙ get_or_default xs k c.index-entries-k.result [] c.loop-k-test.true in
    let partner = c.index-others-k.is ∙ get_or_default ys k c.index-others-k.result [] low in
    let digests = c.as_slice-digests.ensures.value ∙ c.in_ok-digests.ensures in
    let others = c.as_slice-renamed.ensures.value ∙ c.in_ok-renamed.ensures in
    below_more _ _ c.loop-k.invariant
    (alike_by c.args.names.now _ _ _ _ _ _ _ _ digests others entry partner (c.in_ok-is_entry_renamed.ensures.0 c.if-not-branch.false))

pub returns : goal.returns
returns c = (
  λ _. record {
    partners = c.are_partners.ensures.0 c.if-not-are_partners.false;
    ops = λ k low. c.loop-k.invariant k (omega (arith, low, c.loop-k-test.false));
  },
  λ _. refl,
)
