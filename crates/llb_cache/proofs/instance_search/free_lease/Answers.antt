use Rattle.std.proofs.Common.{◌≡◌, None, Option, List, get_or, is_some, not, sym, ap, ◌∙◌, arith}
use Rattle.std.proofs.lemmas.List.Sums.{position_or_len_is}
use Rattle.std.proofs.lemmas.List.{get_or_default}
use Rattle.llb_cache.specs.declared.lease_needs.Instance.{Instance}
use Rattle.llb_cache.proofs.instance_search.free_lease.Goals as goal

pub returns-then-is_none : goal.returns-then-is_none
returns-then-is_none c =
    let out = c.args.out.now in
    let i = c.loop-i.i in
    let here : c.index-out-i.result ≡ get_or out i None = c.index-out-i.is ∙ get_or_default out i c.index-out-i.result None c.loop-i-test.true in
    sym (position_or_len_is (λ (o : Option (List Instance)). not (is_some o)) out i None (omega (arith, c.loop-i-test.true))
    (λ k below. ap not (c.loop-i.invariant k below))
    (λ _. ap (λ (o : Option (List Instance)). not (is_some o)) (sym here) ∙ ap not (c.is_none.ensures ∙ ap not c.if-is_none.true)))

pub returns : goal.returns
returns c =
    let out = c.args.out.now in
    sym (position_or_len_is (λ (o : Option (List Instance)). not (is_some o)) out _ None (omega arith)
    (λ k below. ap not (c.loop-i.invariant k (omega (arith, below, c.loop-i-test.false)))) (λ h. absurd (omega (arith, h))))
