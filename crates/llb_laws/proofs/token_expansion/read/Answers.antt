use Rattle.std.proofs.Common.{drop}
use Rattle.llb_laws.proofs.TokenReading.{goes_on}
use Rattle.llb_laws.proofs.token_expansion.read.Goals as goal

pub returns-then-at-eq0-clause-same : goal.returns-then-at-eq0-clause-same
returns-then-at-eq0-clause-same c = c.read_plain.ensures.same c.args.contents.now

pub returns-clause-same : goal.returns-clause-same
returns-clause-same c = λ bytes.
    goes_on c.args.contents.now c.args.byte c.args.at.left c.args.at.number bytes (drop c.args.at.place c.args.content.now) c.if-at-eq0.false c.if-at-eq1.false
