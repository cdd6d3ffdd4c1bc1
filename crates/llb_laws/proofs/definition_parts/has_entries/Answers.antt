use Rattle.std.proofs.Common.{below_more, ◌≡◌, ℕ, List, [], get_or, refl, sym, subst, ◌∙◌, arith}
use Rattle.std.specs.List.{Contains}
use Rattle.std.proofs.lemmas.List.{get_or_default}
use Rattle.std.proofs.lemmas.List.Elements.{Contains-get_or}
use Rattle.llb_laws.proofs.EntryInclusion.{each_contained}
use Rattle.llb_laws.proofs.definition_parts.has_entries.Goals as goal

pub returns-then-not-has_entry : goal.returns-then-not-has_entry
returns-then-not-has_entry c =
    let part = c.args.part.now in
    let k = c.loop-entry.entry-index in
    let item : c.entry-item.result ≡ get_or part k [] =
    c.entry-item.is ∙ get_or_default part k c.entry-item.result [] c.loop-entry-test.true in (
      λ e. absurd cc,
      λ all. absurd (
          let there = all (get_or part k []) (Contains-get_or part k [] c.loop-entry-test.true) in
          let yes = c.has_entry.ensures.1 (subst (λ (y : List ℕ). Contains c.args.entries.now y) (sym item) there) in
          cc
          ),
    )

pub loop-entry-preserved : goal.loop-entry-preserved
loop-entry-preserved c =
    below_more _ _ c.loop-entry.invariant
    (subst (λ (y : List ℕ). Contains c.args.entries.now y)
    (c.entry-item.is ∙ get_or_default c.args.part.now c.loop-entry.entry-index c.entry-item.result [] c.loop-entry-test.true)
    (c.has_entry.ensures.0 c.if-not-has_entry.false))

pub returns : goal.returns
returns c = (
  λ _. each_contained c.args.entries.now c.args.part.now (λ k l. c.loop-entry.invariant k (omega (arith, l, c.loop-entry-test.false))),
  λ _. refl,
)
