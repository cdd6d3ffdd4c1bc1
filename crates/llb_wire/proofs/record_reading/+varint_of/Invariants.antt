use Rattle.llb_wire.proofs.record_reading.+varint_of.Given as goal

abbrev pub decreases-varint_of : goal.decreases-varint_of
decreases-varint_of l = l.more
