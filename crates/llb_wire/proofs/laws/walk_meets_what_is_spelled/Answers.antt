use Rattle.std.proofs.Common.{arith}
use Rattle.llb_wire.proofs.SpelledRecords.{walk_is}
use Rattle.llb_wire.proofs.Varints.{are_bytes}
use Rattle.llb_wire.proofs.laws.walk_meets_what_is_spelled.Goals as goal

pub returns : goal.returns
returns c = λ rs. walk_is c.args.bytes.now rs (are_bytes c.args.bytes.now (λ k. omega (arith, c.type_inv.bytes k)))
