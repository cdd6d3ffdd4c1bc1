use Rattle.std.proofs.Common.{inl, inr, ap}
use Rattle.std.specs.Prelude.{is_ok}
use Rattle.std.proofs.lemmas.Result.{err_from_is_err_and}
use Rattle.llb_laws.specs.Digests.{IsPartOf}
use Rattle.llb_laws.specs.Definitions.{HasPart, LoadToOneEnd}
use Rattle.llb_laws.proofs.Refusals.{unreadable, memory_last}
use Rattle.llb_laws.proofs.EntryInclusion.{end_of_part, part_of}
use Rattle.llb_laws.proofs.definition_parts.load_part.Goals as goal

pub returns-in_err-entries-clause-refused : goal.returns-in_err-entries-clause-refused
returns-in_err-entries-clause-refused c =
    let e = err_from_is_err_and c.from_residual.result c.from_residual.ensures.1 in
    rw (e.1, e.2) (λ m. inl (unreadable c.args.definition.now c.in_err-entries.field-0.0 c.in_err-entries.ensures.gives m))

pub returns-in_err-entries-clause-last : goal.returns-in_err-entries-clause-last
returns-in_err-entries-clause-last c =
    let e = err_from_is_err_and c.from_residual.result c.from_residual.ensures.1 in
    rw (e.1, e.2) (memory_last c.args.definition.now c.in_err-entries.field-0.0 c.in_err-entries.ensures.last)

pub returns-in_err-others-clause-refused : goal.returns-in_err-others-clause-refused
returns-in_err-others-clause-refused c =
    let e = err_from_is_err_and c.from_residual-in_err-others.result c.from_residual-in_err-others.ensures.1 in
    rw (e.1, e.2) (λ m. inr (
      c.in_ok-entries.entries,
      c.in_ok-entries.ensures.gives,
      inl (unreadable c.args.part.now c.in_err-others.field-0.0 c.in_err-others.ensures.gives m),
    ))

pub returns-in_err-others-clause-last : goal.returns-in_err-others-clause-last
returns-in_err-others-clause-last c =
    let e = err_from_is_err_and c.from_residual-in_err-others.result c.from_residual-in_err-others.ensures.1 in
    rw (e.1, e.2) (λ m. ap is_ok c.in_ok-entries.ensures.gives)

pub returns-then-not-is_part-clause-none : goal.returns-then-not-is_part-clause-none
returns-then-not-is_part-clause-none c = λ e. record {
  whole = c.in_ok-entries.entries;
  part = c.in_ok-others.others;
  first = c.in_ok-entries.ensures.gives;
  second = c.in_ok-others.ensures.gives;
  none = λ has. let yes = c.is_part.ensures.1 has in cc;
}

pub returns-in_err-graph-clause-refused : goal.returns-in_err-graph-clause-refused
returns-in_err-graph-clause-refused c =
    let e = err_from_is_err_and c.from_residual-in_err-graph.result c.from_residual-in_err-graph.ensures.1 in
    let has : HasPart c.in_ok-entries.entries c.in_ok-others.others = c.is_part.ensures.0 c.if-not-is_part.false in
    rw (e.1, e.2) (λ m. inr (
      c.in_ok-entries.entries,
      c.in_ok-entries.ensures.gives,
      inr (c.in_ok-others.others, c.in_ok-others.ensures.gives, has, inl (c.in_err-graph.ensures.refused m)),
    ))

pub returns-in_err-graph-clause-last : goal.returns-in_err-graph-clause-last
returns-in_err-graph-clause-last c =
    let e = err_from_is_err_and c.from_residual-in_err-graph.result c.from_residual-in_err-graph.ensures.1 in
    rw (e.1, e.2) (λ m. ap is_ok c.in_ok-entries.ensures.gives)

pub returns-in_err-smaller-clause-refused : goal.returns-in_err-smaller-clause-refused
returns-in_err-smaller-clause-refused c =
    let e = err_from_is_err_and c.from_residual-in_err-smaller.result c.from_residual-in_err-smaller.ensures.1 in
    let has : HasPart c.in_ok-entries.entries c.in_ok-others.others = c.is_part.ensures.0 c.if-not-is_part.false in
    rw (e.1, e.2) (λ m. inr (
      c.in_ok-entries.entries,
      c.in_ok-entries.ensures.gives,
      inr (
        c.in_ok-others.others,
        c.in_ok-others.ensures.gives,
        has,
        inr ((c.in_ok-graph.graph, c.in_ok-graph.ensures.graph), c.in_err-smaller.ensures.refused m),
      ),
    ))

pub returns-in_err-smaller-clause-last : goal.returns-in_err-smaller-clause-last
returns-in_err-smaller-clause-last c =
    let e = err_from_is_err_and c.from_residual-in_err-smaller.result c.from_residual-in_err-smaller.ensures.1 in
    rw (e.1, e.2) (λ m. ap is_ok c.in_ok-entries.ensures.gives)

pub returns-clause-some : goal.returns-clause-some
returns-clause-some c =
    let d = c.args.definition.now in
    let e = c.args.part.now in
    let xs = c.in_ok-entries.entries in
    let ys = c.in_ok-others.others in
    let has = c.is_part.ensures.0 c.if-not-is_part.false in
    let first = c.in_ok-entries.ensures.gives in
    let second = c.in_ok-others.ensures.gives in
    let to : LoadToOneEnd d c.in_ok-graph.graph e c.in_ok-smaller.smaller = record {
      first = c.in_ok-graph.ensures.graph;
      second = c.in_ok-smaller.ensures.graph;
      last = end_of_part d e xs ys first second has;
    } in
    let part : IsPartOf e d = part_of d e xs ys first second has in
    (to, part, c.part_has_same_result.ensures to part)
