-- When the checks of the reached rows, on which the result depends, fail. The condition `Marked` holds of these rows; a check stops at the first faulty one.
use Rattle.std.specs.Prelude.{◌≡◌, ◌≢◌, ℕ, ◌<◌, ◌==◌, ◌⊎◌, Bool, false, cond, List, [], length, slice_index_or, Some, None}
use Rattle.llb_ops.specs.declared.op.Op.{Op}
use Rattle.llb_loader.specs.declared.row.Row.{Row}
use Rattle.llb_loader.specs.declared.fault.LoadFault.{LoadFault}
use Rattle.llb_loader.specs.declared.fault.LoadFault.TheVariants.{NoResult, UnknownDigest, Unsupported, Invalid, BadIndex}
use Rattle.llb_loader.specs.declared.fault.Feature.{Feature}
use Rattle.llb_loader.specs.declared.fault.Rule.{Rule}
use Rattle.llb_loader.specs.ReachedRows.{inputs}
use Rattle.llb_loader.specs.RowLookup.{row_named}
use Rattle.llb_loader.specs.GraphOfRows.{op_at, input_at}
use Rattle.llb_loader.specs.Features.{feature_of}
use Rattle.llb_loader.specs.Rules.{MeetsRules, BreaksFirst, IsBelow}

-- e is `NoResult` and the terminal has no input, or e is `UnknownDigest` and the terminal's first input names no row
abbrev pub RefusesStart : List Row → ℕ → Op → LoadFault → Type 0
RefusesStart rows t op e = ((e ≡ NoResult) × (op.inputs ≡ []))
    ⊎ ((e ≡ UnknownDigest t 0) × (0 < length op.inputs) × (row_named rows t (input_at op 0).digest ≡ None))

-- each of the first n inputs of an op names a row
abbrev pub NamesAll : List Row → ℕ → Op → ℕ → Type 0
NamesAll rows t op n = (i : ℕ) → i < n → row_named rows t (input_at op i).digest ≢ None

-- input i of an op is the first of its inputs that names no row
pub record FirstUnknown (rows : List Row) (t : ℕ) (op : Op) (i : ℕ) : Type 0 where
  pub here : i < length op.inputs
  pub unknown : row_named rows t (input_at op i).digest ≡ None
  pub before : NamesAll rows t op i

-- e is `UnknownDigest k i` (86): of the rows that meet `Marked` and have an input that names no row, row k is the first; input i is its first such input
abbrev pub RefusesUnknown : List Row → ℕ → List Op → (ℕ → Type 0) → LoadFault → Type 0
RefusesUnknown rows t ops Marked e = (k : ℕ) × (i : ℕ) × (e ≡ UnknownDigest k i) × Marked k × FirstUnknown rows t (op_at ops k) i
    × ((j : ℕ) → j < k → Marked j → NamesAll rows t (op_at ops j) (length (op_at ops j).inputs))

-- e is `Unsupported` (88) with the first row that meets the condition `Marked` and whose op has an unsupported feature, and the first such feature of that op
abbrev pub RefusesFeature : List Op → (ℕ → Type 0) → LoadFault → Type 0
RefusesFeature ops Marked e = (k : ℕ) × (f : Feature) × (e ≡ Unsupported k f) × Marked k × (feature_of (op_at ops k) ≡ Some f)
    × ((j : ℕ) → j < k → Marked j → feature_of (op_at ops j) ≡ None)

-- e is `Invalid` (89) with the first row that meets the condition `Marked` and whose op breaks a rule, and with the first rule that this op breaks
abbrev pub RefusesRule : List Op → (ℕ → Type 0) → LoadFault → Type 0
RefusesRule ops Marked e = (k : ℕ) × (r : Rule) × (e ≡ Invalid k r) × Marked k × BreaksFirst (op_at ops k) r
    × ((j : ℕ) → j < k → Marked j → MeetsRules (op_at ops j))

-- the number of outputs of the row that input i names; `counts` has the number of outputs of each row, and `named` has the row that each input of the op names
abbrev pub count_there : List ℕ → List ℕ → ℕ → ℕ
count_there counts named i = slice_index_or counts (slice_index_or named i 0) 0

-- the first n inputs of an op name outputs that exist
abbrev pub FitsAll : List ℕ → List ℕ → Op → ℕ → Type 0
FitsAll counts named op n = (i : ℕ) → i < n → IsBelow (count_there counts named i) (input_at op i).index

-- of the first n inputs of an op, input i is the first that names an output that does not exist
pub record FirstBad (counts named : List ℕ) (op : Op) (n i : ℕ) : Type 0 where
  pub here : i < n
  pub bad : ¬ IsBelow (count_there counts named i) (input_at op i).index
  pub before : FitsAll counts named op i

-- how many inputs of row k have their index checked: all if row k is reached; only the first (1) if row k is the terminal and not reached; else none (0)
abbrev pub asked_of : List Op → List Bool → ℕ → ℕ → ℕ
asked_of ops seen terminal k = cond (slice_index_or seen k false) (length (op_at ops k).inputs) (cond (k == terminal) 1 0)

-- an input is bad if it is checked (`asked_of`) and names no existing output; e is `BadIndex` (90) with the first row that has one, and its first bad input
abbrev pub RefusesIndex : List Op → List (List ℕ) → List ℕ → List Bool → ℕ → LoadFault → Type 0
RefusesIndex ops links counts seen t e = (k : ℕ) × (i : ℕ) × (e ≡ BadIndex k i) × (k < length ops)
    × FirstBad counts (inputs links k) (op_at ops k) (asked_of ops seen t k) i
    × ((j : ℕ) → j < k → FitsAll counts (inputs links j) (op_at ops j) (asked_of ops seen t j))
