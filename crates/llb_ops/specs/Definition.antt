-- A definition: its entries, in order, with the limits on them (`Definition` of `ops.proto`).
use Rattle.std.specs.Prelude.{ℕ, ◌+◌, ◌==◌, ◌&&◌, Bool, List, [], ◌∷◌, length, Result, Ok, Err, nat_lt, nat_le, if◌then◌else◌}
use Rattle.std.specs.List.{list_all}
use Rattle.llb_wire.specs.CallResults.{◌>>=◌}
use Rattle.llb_wire.specs.Records.{Record}
use Rattle.llb_ops.specs.declared.fault.OpFault.{OpFault}
use Rattle.llb_ops.specs.declared.fault.OpFault.TheVariants.{OverLimit}
use Rattle.llb_ops.specs.declared.table.MessageName.TheVariants as message
use Rattle.llb_ops.specs.Table.{shape_of}
use Rattle.llb_ops.specs.Limits.{definition_limit, entries_limit, entry_limit}
use Rattle.llb_ops.specs.Records.{Shape, records_from, all, payloads}
use Rattle.llb_ops.specs.Writing.{each_field}

-- the shape (the fields in the table) of a `Definition` message
abbrev pub definition_shape : Shape
definition_shape = shape_of message.Definition

-- whether no entry is longer than the limit of an entry
abbrev pub are_short : List (List ℕ) → Bool
are_short entries = list_all (λ e. nat_le (length e) entry_limit) entries

-- these entries, if they are not too many and none is too long; else the fault `OverLimit`
abbrev pub entries_fit : List (List ℕ) → Result (List (List ℕ)) OpFault
entries_fit entries =
    if nat_lt entries_limit (length entries) then Err OverLimit
    else if are_short entries then Ok entries
    else Err OverLimit

-- the entries of the definition that bytes are read as, or the first fault of the bytes
unfoldable pub definition_of : List ℕ → Result (List (List ℕ)) OpFault
definition_of bytes =
    if nat_lt definition_limit (length bytes) then Err OverLimit
    else (records_from definition_shape 0 bytes >>= λ rs. entries_fit (payloads (all 1 rs)))

-- this result of reading a definition, with the entries left out: success, or the fault
abbrev pub admission : Result (List (List ℕ)) OpFault → Result (Unit {0}) OpFault
admission (Ok entries) = Ok tt
admission (Err f) = Err f

-- the entries of a definition's bytes, or the first fault of its records; the number and the lengths of the entries are not checked
unfoldable pub entries_in : List ℕ → Result (List (List ℕ)) OpFault
entries_in bytes = records_from definition_shape 0 bytes >>= λ rs. Ok (payloads (all 1 rs))

-- given the result of reading a definition: how many entries there are, and whether none is too long; or the fault
abbrev pub counted : Result (List (List ℕ)) OpFault → Result (ℕ × Bool) OpFault
counted (Ok entries) = Ok (length entries, are_short entries)
counted (Err f) = Err f

-- the pair of `counted` (how many entries there are, and whether none is too long) after one more record
abbrev pub one_more : ℕ × Bool → Record → ℕ × Bool
one_more t r = if r.number == 1 then (t.0 + 1, t.1 && nat_le (length r.payload) entry_limit) else t

-- the canonical bytes of a definition with these entries
abbrev pub definition_bytes : List (List ℕ) → List ℕ
definition_bytes entries = each_field 1 entries
