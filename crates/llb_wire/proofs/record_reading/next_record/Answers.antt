use Rattle.llb_wire.proofs.RecordGrammar.{record_only}
use Rattle.llb_wire.proofs.record_reading.next_record.Goals as goal

pub returns-in_err-field-clause-only : goal.returns-in_err-field-clause-only
returns-in_err-field-clause-only c = λ f h. absurd (cc (record_only c.args.bytes.now c.args.at f h, c.in_err-field.ensures.exact))

pub returns-clause-only : goal.returns-clause-only
returns-clause-only c = λ f h. cc (record_only c.args.bytes.now c.args.at f h, c.in_ok-field.ensures.exact)
