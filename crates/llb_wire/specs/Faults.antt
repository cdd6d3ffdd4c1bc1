-- The text that is printed for a fault of reading a record: the fault's number.
use Rattle.std.specs.Prelude.{ℕ, List, codes}
use Rattle.llb_wire.specs.declared.fault.WireFault.{WireFault}
use Rattle.llb_wire.specs.declared.fault.WireFault.TheVariants.{Truncated, LongVarint, BadField, BadWireType}

-- the number of the fault in docs/FAULTS.md, as its decimal digit
abbrev pub wire_text : WireFault → List ℕ
wire_text Truncated = codes "1"
wire_text LongVarint = codes "2"
wire_text BadField = codes "3"
wire_text BadWireType = codes "4"
