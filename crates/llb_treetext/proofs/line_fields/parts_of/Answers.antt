-- A line is UTF-8, and has its parts.
use Rattle.std.proofs.Common.{sym, subst}
use Rattle.std.specs.Str.{IsUtf8}
use Rattle.llb_treetext.proofs.EntryLineRoundTrip.{row_utf8}
use Rattle.llb_treetext.proofs.EntryLineParts.{spells}
use Rattle.llb_treetext.proofs.line_fields.parts_of.Goals as goal

pub returns-in-Err : goal.returns-in-Err
returns-in-Err c = λ row is same. c.in-Err.ensures.cases.0 (subst IsUtf8 (sym same) (row_utf8 row is))

pub returns-in-Ok : goal.returns-in-Ok
returns-in-Ok c = spells c.args.line.now c.in-Ok.text.now c.parts_in.result c.in-Ok.ensures.cases.0 c.parts_in.ensures
