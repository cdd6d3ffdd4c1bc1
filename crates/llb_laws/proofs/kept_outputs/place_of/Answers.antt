use Rattle.std.proofs.Common.{◌≡◌, ℕ, List, [], get_or, Some, sym, ap, ◌∙◌, arith}
use Rattle.std.specs.Str.{bytes_eq}
use Rattle.std.proofs.lemmas.List.{get_or_default}
use Rattle.std.proofs.lemmas.Slice.Eq.{bytes_eq-Decides}
use Rattle.llb_loader.specs.declared.graph.Edge.{Edge}
use Rattle.llb_laws.proofs.ListLookups.{lookup_at, lookup_none}
use Rattle.llb_laws.proofs.kept_outputs.place_of.Goals as goal

pub returns-then-eq : goal.returns-then-eq
returns-then-eq c =
    let kept = c.args.kept.now in
    let name = c.args.name.now in
    let i = c.loop-pair.pair-index in
    let none : List ℕ × Edge = ([], record { vertex = 0; index = 0 }) in
    let here : c.pair-item.result ≡ get_or kept i none = c.pair-item.is ∙ get_or_default kept i c.pair-item.result none c.loop-pair-test.true in
    let first : (get_or kept i none).0 ≡ name = sym (ap (λ (p : List ℕ × Edge). p.0) here) ∙ sym c.as_str.ensures.value
    ∙ (bytes_eq-Decides c.as_str.result.now name).0 (sym c.eq.ensures ∙ c.if-eq.true) in
    let found = lookup_at (bytes_eq name) kept i none c.loop-pair-test.true c.loop-pair.invariant
    ((bytes_eq-Decides name (get_or kept i none).0).1 (sym first)) in
    ap (λ (p : List ℕ × Edge). Some p.1) here ∙ sym found

pub returns : goal.returns
returns c =
    let none : List ℕ × Edge = ([], record { vertex = 0; index = 0 }) in
    sym (lookup_none (bytes_eq c.args.name.now) c.args.kept.now none (λ k l. c.loop-pair.invariant k (omega (arith, l, c.loop-pair-test.false))))
