-- A digit fewer at each call.
use Rattle.llb_treetext.proofs.line_fields.+is_decimal.Given as goal

abbrev pub decreases-is_decimal : goal.decreases-is_decimal
decreases-is_decimal l = l.number
