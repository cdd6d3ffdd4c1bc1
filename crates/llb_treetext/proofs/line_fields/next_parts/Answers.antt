-- The first line ends at the first line end.
use Rattle.std.proofs.Common.{sym, ◌∙◌}
use Rattle.llb_treetext.proofs.RowLines.{no_line_end, no_first_line, has_first_line}
use Rattle.llb_treetext.proofs.EntryLineParts.{begins_none}
use Rattle.llb_treetext.proofs.line_fields.next_parts.Goals as goal

pub returns-in_default : goal.returns-in_default
returns-in_default c = begins_none c.args.bytes.now (no_line_end c.args.bytes.now (sym c.in_default.ensures))

pub returns-in-None : goal.returns-in-None
returns-in-None c =
    begins_none c.args.bytes.now (no_first_line c.args.bytes.now c.in-Some.end (sym c.in-Some.ensures)
    (λ row is same. c.in-None.ensures row is (c.split_at.ensures.front ∙ same)))

pub returns-in-Some-parts_of : goal.returns-in-Some-parts_of
returns-in-Some-parts_of c =
    let (row, stands, same, parts) = c.in-Some-parts_of.ensures in (
      row,
      stands,
      has_first_line c.args.bytes.now c.in-Some.end (sym c.in-Some.ensures) row c.split_at.result.1.now c.split_at-2.result.1.now
          c.split_at.ensures.back c.split_at-2.ensures.back (sym c.split_at.ensures.front ∙ same),
      parts,
    )
