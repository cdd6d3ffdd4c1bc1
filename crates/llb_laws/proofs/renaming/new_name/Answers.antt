use Rattle.std.proofs.Common.{◌≡◌, ℕ, List, [], get_or, Option, sym, ap, ◌∙◌, arith}
use Rattle.std.specs.Option.{unwrap_or}
use Rattle.std.specs.Str.{bytes_eq}
use Rattle.std.proofs.lemmas.List.{get_or_default}
use Rattle.std.proofs.lemmas.Slice.Eq.{bytes_eq-Decides}
use Rattle.llb_laws.proofs.ListLookups.{lookup_at, lookup_none}
use Rattle.llb_laws.proofs.renaming.new_name.Goals as goal

pub returns-then-eq : goal.returns-then-eq
returns-then-eq c =
    let names = c.args.names.now in
    let name = c.args.name.now in
    let i = c.loop-pair.pair-index in
    let here : c.pair-item.result ≡ get_or names i ([], []) =
    c.pair-item.is ∙ get_or_default names i c.pair-item.result ([], []) c.loop-pair-test.true in
    let first : (get_or names i ([], [])).0 ≡ name = sym (ap (λ (p : List ℕ × List ℕ). p.0) here) ∙ sym c.as_str.ensures.value
    ∙ (bytes_eq-Decides c.as_str.result.now name).0 (sym c.eq.ensures ∙ c.if-eq.true) in
    let found = lookup_at (bytes_eq name) names i ([], []) c.loop-pair-test.true c.loop-pair.invariant
    ((bytes_eq-Decides name (get_or names i ([], [])).0).1 (sym first)) in
    c.as_str-then-eq.ensures.value ∙ ap (λ (p : List ℕ × List ℕ). p.1) here ∙ sym (ap (λ (o : Option (List ℕ)). unwrap_or o name) found)

pub returns : goal.returns
returns c =
    let name = c.args.name.now in
    sym (ap (λ (o : Option (List ℕ)). unwrap_or o name) (lookup_none (bytes_eq name) c.args.names.now ([], [])
    (λ k l. c.loop-pair.invariant k (omega (arith, l, c.loop-pair-test.false)))))
