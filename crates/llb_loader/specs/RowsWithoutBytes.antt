-- Bare rows: rows whose `bytes` field is empty, while a separate list has the bytes of their entries.
use Rattle.std.specs.Prelude.{◌≡◌, ℕ, ◌<◌, List, [], ◌∷◌, length, map, slice_index_or, Ok, Err, IsOk}
use Rattle.llb_ops.specs.declared.op.Op.{Op}
use Rattle.llb_ops.specs.declared.fault.OpFault.{OpFault}
use Rattle.llb_ops.specs.Messages.{op_of}
use Rattle.llb_wire.specs.Digest.{digest_text}
use Rattle.llb_loader.specs.declared.row.Row.{Row}
use Rattle.llb_loader.specs.declared.fault.LoadFault.{LoadFault}
use Rattle.llb_loader.specs.declared.fault.LoadFault.TheVariants.{Entry}
use Rattle.llb_loader.specs.RowLookup.{row_at}
use Rattle.llb_loader.specs.GraphOfRows.{op_at}

-- the rows with the bytes of entry k put into row k; a row without an entry is dropped
abbrev pub with_bytes : List Row → List (List ℕ) → List Row
with_bytes [] entries = []
with_bytes (r ∷ rows) [] = []
with_bytes (r ∷ rows) (b ∷ entries) = record { digest = r.digest; bytes = b } ∷ with_bytes rows entries

-- the bytes of every row are empty
abbrev pub AreBare : List Row → Type 0
AreBare rows = (k : ℕ) → (row_at rows k).bytes ≡ []

-- these rows without their bytes: each row keeps its digest text, and its bytes are empty
abbrev pub bared : List Row → List Row
bared rows = map (λ r. record { digest = r.digest; bytes = [] }) rows

-- the bytes of each row
abbrev pub bytes_of : List Row → List (List ℕ)
bytes_of rows = map (λ r. r.bytes) rows

-- for each entry, a row with the entry's digest text and empty bytes
abbrev pub titles_from : List (List ℕ) → List Row
titles_from entries = map (λ bytes. record { digest = digest_text bytes; bytes = [] }) entries

-- there is one op for each entry, and entry k is read as op k
pub record AreRead (entries : List (List ℕ)) (ops : List Op) : Type 0 where
  pub len : length ops ≡ length entries
  pub each : (k : ℕ) → k < length entries → op_of (slice_index_or entries k []) ≡ Ok (op_at ops k)

-- entry k is the first entry that can't be read as an op, and f is its fault
pub record IsUnreadEntry (entries : List (List ℕ)) (k : ℕ) (f : OpFault) : Type 0 where
  pub here : k < length entries
  pub fault : op_of (slice_index_or entries k []) ≡ Err f
  pub before : (j : ℕ) → j < k → IsOk (op_of (slice_index_or entries j []))

-- e is `Entry` (82) with the number and the fault of the first entry that can't be read as an op
abbrev pub RefusesEntry : List (List ℕ) → LoadFault → Type 0
RefusesEntry entries e = (k : ℕ) × (f : OpFault) × (e ≡ Entry k f) × IsUnreadEntry entries k f
