use Rattle.std.proofs.Common.{◌≡◌, true, false, ℕ, List, Option, Some, unwrap_or, option_map, string_bytes, sym, ap, ◌∙◌}
use Rattle.std.specs.Cmp.Lexicographic.{bytes_decides}
use Rattle.llb_tree.specs.Tree.{TreeMap}
use Rattle.llb_loader.specs.LocalSources.{Local}
use Rattle.llb_loader.proofs.LocalTreeMaps.{local_at}
use Rattle.llb_loader.proofs.local_trees.same_at.Goals as goal

-- two locals that are there are the same by their names and trees
pairs_same : (a b : Option Local) (n m : List ℕ) (t u : TreeMap) → a ≡ Some (n, t) → b ≡ Some (m, u) → (a ≡ b → (n ≡ m) × (t ≡ u))
pairs_same a b n m t u is also e =
    let both : Some (n, t) ≡ Some (m, u) = sym is ∙ e ∙ also in
    let pair = ap (λ (o : Option Local). unwrap_or o (n, t)) both in
    (ap (λ (l : Local). l.0) pair, ap (λ (l : Local). l.1) pair)

same_pairs : (a b : Option Local) (n m : List ℕ) (t u : TreeMap) → a ≡ Some (n, t) → b ≡ Some (m, u) → n ≡ m → t ≡ u → a ≡ b
same_pairs a b n m t u is also names trees = cc

pub returns-then-eq : goal.returns-then-eq
returns-then-eq c =
    let here = local_at c.args.trees.now.entries c.args.i ∙ ap (option_map (λ e. (string_bytes e.0, e.1))) (sym c.in-Some-Some.ensures.entry) in
    let there = local_at c.args.others.now.entries c.args.i ∙ ap (option_map (λ e. (string_bytes e.0, e.1))) (sym c.in-Some-Some.ensures'.entry) in
    let d = bytes_decides c.as_str.result.now c.as_str-in-Some-Some.result.now in
    let names = sym c.as_str.ensures.value ∙ d.0 (sym c.eq.ensures ∙ c.if-eq.true) ∙ c.as_str-in-Some-Some.ensures.value in (
      λ is. same_pairs _ _ _ _ _ _ here there names (c.same.ensures.0 is),
      λ e. c.same.ensures.1 ((pairs_same _ _ _ _ _ _ here there e).1),
    )

pub returns-else-eq : goal.returns-else-eq
returns-else-eq c =
    let here = local_at c.args.trees.now.entries c.args.i ∙ ap (option_map (λ e. (string_bytes e.0, e.1))) (sym c.in-Some-Some.ensures.entry) in
    let there = local_at c.args.others.now.entries c.args.i ∙ ap (option_map (λ e. (string_bytes e.0, e.1))) (sym c.in-Some-Some.ensures'.entry) in
    let d = bytes_decides c.as_str.result.now c.as_str-in-Some-Some.result.now in
    let differ : c.eq.result ≡ false = c.if-eq.false in (
      λ is. absurd (let w : false ≡ true = sym differ ∙ is in cc),
      λ e. c.eq.ensures ∙ d.1 (c.as_str.ensures.value ∙ (pairs_same _ _ _ _ _ _ here there e).0 ∙ sym c.as_str-in-Some-Some.ensures.value),
    )
