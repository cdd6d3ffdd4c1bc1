-- The bytes so far, one more, and those after it.
use Rattle.std.proofs.Common.{arith, length-take-le}
use Rattle.std.proofs.lemmas.Result.{err_from_is_err_and}
use Rattle.llb_session.specs.ConversationStates.{standing}
use Rattle.llb_session.proofs.RepliesByPieces.{few_said}
use Rattle.llb_session.proofs.ConversationByPieces.{went_none, went_on, quit_at, fails_at}
use Rattle.llb_session.proofs.conversation.hear_all.Goals as goal

pub loop-byte-init : goal.loop-byte-init
loop-byte-init g c = went_none (standing c.args.session.now c.args.pending.now) _ c.requires.line

pub hear-requires-clause-counts : goal.hear-requires-clause-counts
hear-requires-clause-counts g c =
    let few = few_said (standing c.args.session.now c.args.pending.now) (standing c.loop-byte.session c.loop-byte.pending) _ _ c.loop-byte.invariant.talked in
    omega (arith, few, length-take-le c.loop-byte.byte-index c.args.bytes.now (omega arith), c.requires.counts)

pub returns-in_err-hear : goal.returns-in_err-hear
returns-in_err-hear g c =
    let p = err_from_is_err_and c.from_residual.result c.from_residual.ensures.1 in
    rw (p.1, p.2)
    (fails_at (standing c.args.session.now c.args.pending.now) (standing c.loop-byte.session c.loop-byte.pending)
    (standing c.hear.new.session c.hear.new.pending)
    c.args.bytes.now c.loop-byte.byte-index _ _ _ _ c.loop-byte-test.true c.loop-byte.invariant c.in_err-hear.ensures)

pub returns-then-not-branch : goal.returns-then-not-branch
returns-then-not-branch g c =
    quit_at _ _ _ c.args.bytes.now c.loop-byte.byte-index _ _ _ c.loop-byte-test.true c.loop-byte.invariant (rw c.if-not-branch.true at c.in_ok-hear.ensures)

pub loop-byte-preserved : goal.loop-byte-preserved
loop-byte-preserved g c =
    went_on _ _ _ c.args.bytes.now c.loop-byte.byte-index _ _ _ c.loop-byte-test.true c.loop-byte.invariant (rw c.if-not-branch.false at c.in_ok-hear.ensures)
