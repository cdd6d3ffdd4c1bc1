use Rattle.llb_wire.proofs.record_writing.+push_varint.Given as goal

abbrev pub decreases-push_varint : goal.decreases-push_varint
decreases-push_varint l = l.more
