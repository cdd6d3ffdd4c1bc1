-- A read returns the end of the input, a piece, or nothing.
use Rattle.std.proofs.Common.{rules, ◌≡◌, ◌+◌, [], length, ap, arith}
use Rattle.std.proofs.lemmas.Result.{err_from_is_err_and}
use Rattle.llb_session.specs.ConversationStates.{standing}
use Rattle.llb_session.proofs.ConversationEnds.{ends_failed, ends_unending, few_listened, both_taken, none_taken, some_left, none_left, ends_last}
use Rattle.llb_session.proofs.ConversationEnds.{ends_quit, ends_fault, ends_long, listened_on, listened_still}
use Rattle.llb_session.proofs.conversation.converse.Goals as goal
use Rattle.llb_session.proofs.conversation.converse.Goals.{in-Ok+in_ok-hear_all-in-Ok+else-not-branch+else-not-is_empty, in-Err+else-ne}

pub conclude-requires : goal.conclude-requires
conclude-requires g c =
    let few = few_listened _ _ _ (standing c.loop-i.session c.loop-i.pending) _ _ _ _ c.loop-i.invariant.1 in omega (arith, few, c.ranges.limit)

pub returns-in-Ok-eq0 : goal.returns-in-Ok-eq0
returns-in-Ok-eq0 g c =
    let none = none_taken _ _ c.read.new.buf c.in-Ok-eq0.field-0 c.in-Ok-eq0.field-0-test c.in-Ok-eq0.ensures.bytes.0 in
    ends_last _ _ _ _ _ (standing c.loop-i.session c.loop-i.pending) _ _ _ _ _ _ _ c.loop-i.invariant.1 none
    (c.in-Ok-eq0.ensures.bytes.1 c.in-Ok-eq0.field-0-test (omega arith)) c.conclude.ensures

pub hear_all-requires-clause-counts : goal.hear_all-requires-clause-counts
hear_all-requires-clause-counts g c =
    let few = few_listened _ _ _ (standing c.loop-i.session c.loop-i.pending) _ _ _ _ c.loop-i.invariant.1 in
    omega (arith, few, c.ranges.limit, c.split_at-in-Ok.ensures.front_len, c.min.ensures)

pub returns-in_err-hear_all-in-Ok : goal.returns-in_err-hear_all-in-Ok
returns-in_err-hear_all-in-Ok g c =
    let p = err_from_is_err_and c.from_residual.result c.from_residual.ensures.1 in
    let taken = both_taken _ _ c.read.new.buf _ _ _ _ _ c.in-Ok.ensures.bytes.0 c.split_at.ensures.front
    c.split_at-in-Ok.ensures.front c.split_at-in-Ok.ensures.back in
    rw (p.1, p.2)
    (ends_fault _ _ _ _ (standing c.loop-i.session c.loop-i.pending) (standing c.hear_all.new.session c.hear_all.new.pending) _ _ _ _ _
    (g.W.Write.contents c.hear_all.new.out) c.split_at-in-Ok.result.0.now c.split_at-in-Ok.result.1.now _
    c.loop-i.invariant.1 taken (omega (arith, c.split_at-in-Ok.ensures.front_len, c.min.ensures)) c.in_err-hear_all-in-Ok.ensures)

pub returns-then-not-branch : goal.returns-then-not-branch
returns-then-not-branch g c =
    let taken = both_taken _ _ c.read.new.buf _ _ _ _ _ c.in-Ok.ensures.bytes.0 c.split_at.ensures.front
    c.split_at-in-Ok.ensures.front c.split_at-in-Ok.ensures.back in
    ends_quit _ _ _ _ (standing c.loop-i.session c.loop-i.pending) (standing c.hear_all.new.session c.hear_all.new.pending) _ _ _ _ _ _ _ _
    c.loop-i.invariant.1 taken (omega (arith, c.split_at-in-Ok.ensures.front_len, c.min.ensures)) (rw c.if-not-branch.true at c.in_ok-hear_all-in-Ok.ensures)

pub returns-then-not-is_empty : goal.returns-then-not-is_empty
returns-then-not-is_empty g c =
    let taken = both_taken _ _ c.read.new.buf _ _ _ _ _ c.in-Ok.ensures.bytes.0 c.split_at.ensures.front
    c.split_at-in-Ok.ensures.front c.split_at-in-Ok.ensures.back in
    let more = some_left c.split_at-in-Ok.result.1.now c.if-not-is_empty.ensures in
    let full : length c.split_at-in-Ok.result.0.now ≡ c.loop-i.room =
    omega (arith, more, c.min.ensures, c.split_at.ensures.front_len, c.split_at-in-Ok.ensures.front_len, c.split_at-in-Ok.ensures.back_len) in
    ends_long _ _ _ _ (standing c.loop-i.session c.loop-i.pending) (standing c.hear_all.new.session c.hear_all.new.pending) _ _ _ _ _ _ _ _
    c.loop-i.invariant.1 taken full more (rw c.if-not-branch.false at c.in_ok-hear_all-in-Ok.ensures)

pub loop-i-preserved : goal.loop-i-preserved
loop-i-preserved g c = elim c.match-read.branch [
  | in-Ok+in_ok-hear_all-in-Ok+else-not-branch+else-not-is_empty w ↦
      let taken = both_taken _ _ c.read.new.buf _ _ _ _ _ w.in-Ok.ensures.bytes.0 w.split_at.ensures.front
      w.split_at-in-Ok.ensures.front w.split_at-in-Ok.ensures.back in
      let none : w.split_at-in-Ok.result.1.now ≡ [] = none_left w.split_at-in-Ok.result.1.now w.if-not-is_empty.ensures in
      let whole : length w.split_at-in-Ok.result.0.now ≡ w.in-Ok.n =
      omega (arith, ap length none, w.min.ensures, w.split_at.ensures.front_len, w.split_at-in-Ok.ensures.front_len, w.split_at-in-Ok.ensures.back_len) in
      let less : c.match-read.room + w.in-Ok.n ≡ c.loop-i.room =
      omega (arith, whole, w.room-is, w.min.ensures, w.split_at-in-Ok.ensures.front_len) in (
        omega arith,
        rw (w.session-is, w.pending-is, w.out-is)
            (listened_on _ _ _ w.in-Ok.n _ (standing c.loop-i.session c.loop-i.pending) (standing w.hear_all.new.session w.hear_all.new.pending) _ _ _ _ _ _ _ _
            c.loop-i.invariant.1 taken none whole less (rw w.if-not-branch.false at w.in_ok-hear_all-in-Ok.ensures)),
        omega (arith, c.loop-i.invariant.2, less, w.interrupted-is, w.in-Ok.n-test),
        omega (arith, c.loop-i.invariant.3, w.interrupted-is),
      )
  | in-Err+else-ne w ↦ (
    omega arith,
    rw (w.session-is, w.pending-is, w.out-is, w.room-is)
        (listened_still _ _ _ (standing c.loop-i.session c.loop-i.pending) _ _ _ _ _ c.loop-i.invariant.1 w.in-Err.ensures.bytes),
    omega (arith, c.loop-i.invariant.2, w.room-is, w.interrupted-is),
    omega (arith, c.loop-i.invariant.3, w.interrupted-is),
  )
]

pub returns-then-ne : goal.returns-then-ne
returns-then-ne g c =
    ends_failed _ _ _ _ (standing c.loop-i.session c.loop-i.pending) _ _ _ _ _ (search rules)
    (listened_still _ _ _ (standing c.loop-i.session c.loop-i.pending) _ _ _ _ _ c.loop-i.invariant.1 c.in-Err.ensures.bytes)

pub returns : goal.returns
returns g c =
    let i = c.loop-i.invariant in
    ends_unending _ _ _ _ _ (standing c.loop-i.session c.loop-i.pending) _ _ _ _ (omega (arith, i.2, c.loop-i-test.false))
    (omega (arith, i.3, c.loop-i.auto)) i.1
