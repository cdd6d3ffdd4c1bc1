-- The first line is the line of the root, or it has a fault.
use Rattle.std.proofs.Common.{refl, sym, ◌∙◌}
use Rattle.llb_treetext.proofs.NextRowPlace.{place_names, place_kind, starts, not_first}
use Rattle.llb_treetext.proofs.line_check.first_line.Goals as goal

pub returns : goal.returns
returns c =
    let (row, stands, text, parts) = c.in-Some.ensures in
    let place = c.place_of-place.result in
    starts row stands c.args.bytes.now c.in-Some.later.now text place
    (place_names row stands c.in-Some.parts parts place.names.now c.place_of-place.ensures.names) c.in-Some.parts parts
    (place_kind row stands c.in-Some.parts parts place.is_dir c.place_of-place.ensures.kind) (sym c.is_empty.ensures ∙ c.if-not-is_empty.false)

pub returns-then-not-is_empty : goal.returns-then-not-is_empty
returns-then-not-is_empty c =
    let (row, stands, text, parts) = c.in-Some.ensures in
    let place = c.place_of-place.result in (
      refl,
      not_first row stands c.args.bytes.now c.in-Some.later.now text place
          (place_names row stands c.in-Some.parts parts place.names.now c.place_of-place.ensures.names) (sym c.is_empty.ensures ∙ c.if-not-is_empty.true),
    )
