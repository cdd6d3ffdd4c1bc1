-- The payloads of a field's records, one after the other.
use Rattle.std.proofs.Common.{◌≡◌, List, [], ◌∷◌, length, sym, arith}
use Rattle.std.proofs.lemmas.List.{append-nil}
use Rattle.llb_wire.specs.Records.{Record}
use Rattle.llb_ops.specs.Records.{payload, joined}

-- the joined payloads of one record are its payload
pub of_one : (rs : List Record) → length rs ≡ 1 → payload rs ≡ joined rs
of_one [] e = absurd (omega (arith, e))
of_one (r ∷ []) e = sym (append-nil r.payload)
of_one (r ∷ s ∷ rs) e = absurd (omega (arith, e))
