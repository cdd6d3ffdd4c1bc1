-- The last byte is the last digit, and what is before it is the number of the digits before.
use Rattle.std.proofs.Common.{sym, true≢false, arith}
use Rattle.llb_treetext.proofs.Numbers.{other_last, last_alone, last_of_more, no_text}
use Rattle.llb_treetext.proofs.line_fields.+is_decimal.Goals as goal

pub returns-then-last-number : goal.returns-then-last-number
returns-then-last-number t c = (
  λ yes. absurd (true≢false (sym yes)),
  λ own. absurd (other_last c.args.text.now c.in-Some.front.now c.in-Some.last.now c.args.number c.in-Some.ensures.cases.0
      (omega arith) c.if-last-number.true own),
)

pub returns-then-number-lt10 : goal.returns-then-number-lt10
returns-then-number-lt10 t c = last_alone c.args.text.now c.in-Some.front.now c.in-Some.last.now c.args.number c.in-Some.ensures.cases.0
    (omega arith) c.if-number-lt10.true c.is_empty.result c.if-last-number.false c.is_empty.ensures

pub returns-in-None : goal.returns-in-None
returns-in-None t c = (λ yes. absurd (true≢false (sym yes)), λ own. absurd (no_text c.args.text.now c.args.number c.in-None.ensures.cases (omega arith) own))

pub returns-else-number-lt10 : goal.returns-else-number-lt10
returns-else-number-lt10 t c = last_of_more c.args.text.now c.in-Some.front.now c.in-Some.last.now c.args.number c.in-Some.ensures.cases.0
    (omega arith) c.if-number-lt10.false c.is_decimal.result c.if-last-number.false c.is_decimal.ensures
