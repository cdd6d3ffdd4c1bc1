use Rattle.std.proofs.Common.{◌≡◌, List, take, refl, sym, ap, ◌∙◌, subst, true≢false}
use Rattle.std.proofs.lemmas.List.{take_all}
use Rattle.std.specs.List.{list_any}
use Rattle.llb_cache.specs.declared.lease_needs.Need.{Need}
use Rattle.llb_cache.specs.Key.{same_key}
use Rattle.llb_cache.proofs.DistinctNeedKeys.{Differ, twice, one_more}
use Rattle.llb_cache.proofs.instance_search.keys_differ.Goals as goal
use Rattle.llb_cache.proofs.instance_search.keys_differ.Goals.{After-has_key_of}

-- whether the key at hand is among those before
among : (c : After-has_key_of) → list_any (λ (n : Need). same_key c.index-needs-i.result.key n.key) (take c.loop-i.i c.args.needs.now) ≡ c.has_key_of.result
among c = sym (c.has_key_of.ensures ∙ ap (λ (ns : List Need). list_any (λ (n : Need). same_key c.index-needs-i.result.key n.key) ns) c.split_at.ensures.front)

pub returns-then-has_key_of : goal.returns-then-has_key_of
returns-then-has_key_of c = (
  λ no. absurd (true≢false (sym no)),
  λ differ. absurd (twice c.args.needs.now c.loop-i.i c.index-needs-i.result c.loop-i-test.true c.index-needs-i.is
      (among (goal.at.returns-then-has_key_of c).After-has_key_of ∙ c.if-has_key_of.true) differ),
)

pub loop-i-preserved : goal.loop-i-preserved
loop-i-preserved c =
    one_more c.args.needs.now c.loop-i.i c.index-needs-i.result c.loop-i-test.true c.index-needs-i.is
    (among (goal.at.loop-i-preserved c).After-has_key_of ∙ c.if-has_key_of.false) c.loop-i.invariant

pub returns : goal.returns
returns c = (λ _. subst Differ (take_all c.loop-i.i c.args.needs.now c.loop-i-test.false) c.loop-i.invariant, λ _. refl)
