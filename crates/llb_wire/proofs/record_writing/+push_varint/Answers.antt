use Rattle.std.proofs.Common.{append_assoc, refl, arith}
use Rattle.std.proofs.lemmas.Result.{IfOk-equal}
use Rattle.llb_wire.proofs.Varints.{shortest_step}
use Rattle.llb_wire.proofs.record_writing.+push_varint.Goals as goal

pub returns-clause-ok : goal.returns-clause-ok
returns-clause-ok t c = IfOk-equal c.push_varint.result _ _ _ c.push_varint.ensures.ok
    (rw (c.in_ok-push-2.ensures.items, append_assoc, shortest_step c.args.more c.args.value (omega arith) (omega arith)) refl)
