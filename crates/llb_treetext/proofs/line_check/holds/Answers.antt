-- What is after the names of the directory decides.
use Rattle.llb_treetext.proofs.SlashedNames.{stripped, not_stripped, opens_nothing, opens_byte}
use Rattle.llb_treetext.proofs.line_check.holds.Goals as goal

pub returns-in-None-clause-each : goal.returns-in-None-clause-each
returns-in-None-clause-each c = λ later same. not_stripped c.args.place.now.names.now c.args.dir.now later c.in-None.ensures.cases same

pub returns-in-None-first-clause-found : goal.returns-in-None-first-clause-found
returns-in-None-first-clause-found c = λ shows. (
  c.in-Some.later.now,
  stripped c.args.place.now.names.now c.args.dir.now c.in-Some.later.now c.in-Some.ensures.cases.0 c.in-Some.ensures.cases.1,
  opens_nothing c.in-Some.later.now c.args.place.now.is_dir c.in-None-first.ensures.value shows,
)

pub returns-in-Some-first-clause-found : goal.returns-in-Some-first-clause-found
returns-in-Some-first-clause-found c = λ shows. (
  c.in-Some.later.now,
  stripped c.args.place.now.names.now c.args.dir.now c.in-Some.later.now c.in-Some.ensures.cases.0 c.in-Some.ensures.cases.1,
  opens_byte c.in-Some.later.now c.in-Some-first.byte.now c.args.place.now.is_dir c.in-Some-first.ensures.value shows,
)
