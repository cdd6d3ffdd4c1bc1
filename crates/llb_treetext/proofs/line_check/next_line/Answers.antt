-- The line is no entry's, or lies before the last one, or has no directory; or a tree has it.
use Rattle.std.proofs.Common.{refl, ap, ◌∙◌, ◌+◌}
use Rattle.std.specs.FinMap as finite
use Rattle.llb_treetext.proofs.NextRowPlace.{place_names, place_kind, out_of_order, no_directory, goes_to}
use Rattle.llb_treetext.proofs.line_check.next_line.Goals as goal

pub returns-in_default : goal.returns-in_default
returns-in_default c = λ t tree last number. (refl, (number ∙ ap (λ n. n + 1) (finite.len-entries t), c.in_default.ensures))

pub returns-then-not-is_before : goal.returns-then-not-is_before
returns-then-not-is_before c = λ t tree last number.
    let (row, stands, text, parts) = c.in-Some.ensures in
    let names = c.place_of-place.result.names.now in (
      refl,
      out_of_order t tree c.args.last.now last row stands names
          (place_names row stands c.in-Some.parts parts names c.place_of-place.ensures.names) c.is_before.result c.is_before.ensures
          c.args.rest.now c.in-Some.later.now c.args.number number text c.if-not-is_before.true,
    )

pub returns-then-not-holds : goal.returns-then-not-holds
returns-then-not-holds c = λ t tree last number.
    let (row, stands, text, parts) = c.in-Some.ensures in
    let names = c.place_of-place.result.names.now in (
      refl,
      no_directory t tree c.args.last.now last row stands names
          (place_names row stands c.in-Some.parts parts names c.place_of-place.ensures.names) c.is_before.result c.is_before.ensures
          c.if-not-is_before.false c.holds.result c.parent.result.now c.parent.ensures c.holds.ensures.found c.holds.ensures.each
          c.args.rest.now c.in-Some.later.now c.args.number number text c.if-not-holds.true,
    )

pub returns : goal.returns
returns c = λ t tree last number.
    let (row, stands, text, parts) = c.in-Some.ensures in
    let place = c.place_of-place.result in
    let (free, put, goes, more, one) = goes_to t tree c.args.last.now last row stands place.names.now
    (place_names row stands c.in-Some.parts parts place.names.now c.place_of-place.ensures.names) c.is_before.result c.is_before.ensures
    c.if-not-is_before.false c.holds.result c.parent.result.now c.parent.ensures c.holds.ensures.found c.holds.ensures.each
    c.args.rest.now c.in-Some.later.now place text (place_names row stands c.in-Some.parts parts place.names.now c.place_of-place.ensures.names)
    (place_kind row stands c.in-Some.parts parts place.is_dir c.place_of-place.ensures.kind) c.if-not-holds.false in
    (row, (stands, parts), free, put, goes, more, one)
