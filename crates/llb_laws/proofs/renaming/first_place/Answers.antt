use Rattle.std.proofs.Common.{◌≡◌, [], length, get_or, sym, ◌∙◌, arith}
use Rattle.std.specs.Str.{bytes_eq}
use Rattle.std.proofs.lemmas.List.{get_or_default}
use Rattle.std.proofs.lemmas.List.Sums.{position_or_len_is}
use Rattle.std.proofs.lemmas.Slice.Eq.{bytes_eq-Decides}
use Rattle.llb_laws.proofs.renaming.first_place.Goals as goal

pub returns-then-same : goal.returns-then-same
returns-then-same c =
    let xs = c.args.entries.now in
    let i = c.loop-k.k in
    let here : c.index-entries-k.result ≡ get_or xs i [] = c.index-entries-k.is ∙ get_or_default xs i c.index-entries-k.result [] c.loop-k-test.true in
    sym (position_or_len_is (bytes_eq c.args.entry.now) xs i [] (omega (arith, c.loop-k-test.true)) c.loop-k.invariant
    (λ _. (bytes_eq-Decides c.args.entry.now (get_or xs i [])).1 (sym (c.same.ensures.0 c.if-same.true) ∙ here)))

pub returns : goal.returns
returns c =
    let xs = c.args.entries.now in
    sym (position_or_len_is (bytes_eq c.args.entry.now) xs (length xs) [] (omega arith)
    (λ k below. c.loop-k.invariant k (omega (arith, below, c.loop-k-test.false))) (λ h. absurd (omega (arith, h))))
