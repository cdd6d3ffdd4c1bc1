-- What holds of rows between the steps in which their faults are looked for.
use Rattle.std.specs.Prelude.{◌≡◌, ◌≢◌, ◌↔◌, ℕ, ◌<◌, Bool, true, false, not, ◌||◌, ◌&&◌, ◌==◌, nat_lt, cond, List, [], ◌∷◌, ◌++◌, length, map, Result}
use Rattle.std.specs.Prelude.{Ok, Err, IsOk}
use Rattle.std.specs.Prelude.{◌⊎◌, ℤ, pos, negsuc, Option, Some, None, slice_index_or}
use Rattle.std.specs.Option.{is_some}
use Rattle.std.specs.List.{filter}
use Rattle.llb_ops.specs.declared.op.Op.{Op}
use Rattle.llb_ops.specs.declared.fault.OpFault.{OpFault}
use Rattle.llb_loader.specs.declared.row.Row.{Row}
use Rattle.llb_loader.specs.declared.fault.LoadFault.{LoadFault}
use Rattle.llb_loader.specs.declared.fault.LoadFault.TheVariants.{Entry, UnknownDigest, Unsupported, Invalid, BadIndex}
use Rattle.llb_ops.specs.declared.op.Kind.{Kind}
use Rattle.llb_loader.specs.Features.{has, features}
use Rattle.llb_loader.specs.Rules.{rules_on, output_count}
use Rattle.llb_loader.specs.RowLookup.{IsTerminal, terminal_in, row_named}
use Rattle.llb_loader.specs.WaitingRows.{IsMarked}
use Rattle.llb_loader.specs.GraphOfRows.{IsApart, IsStarted, ReachedRow, op_at, input_at}
use Rattle.llb_findings.specs.Findings.{ops_in, plan_for, reading_at, at_inputs, IsBroken, IsCounted}
use Rattle.llb_loader.specs.declared.fault.Rule.{Rule}
use Rattle.llb_findings.specs.Selections.{AreThose}

-- `marks` has true for each row that can be read as an op
pub record AreReadMarks (rows : List Row) (marks : List Bool) : Type 0 where
  pub len : length marks ≡ length rows
  pub exact : (k : ℕ) → k < length rows → IsMarked marks k ↔ IsOk (reading_at rows k)

-- `seen` has true for each row on which the result depends; for none if there is no row of the result
pub record AreReached (rows : List Row) (seen : List Bool) : Type 0 where
  pub len : length seen ≡ length rows
  pub exact : (k : ℕ) → IsMarked seen k ↔ (IsStarted (plan_for rows) × ReachedRow (plan_for rows) k)

-- no two rows collide, not all are the same, and `terminal` is the number of the terminal
pub record HasTerminal (rows : List Row) (terminal : ℕ) : Type 0 where
  pub apart : IsApart rows
  pub last : IsTerminal rows terminal
  pub same : terminal ≡ terminal_in rows

-- two rows have the same digest text and other bytes
abbrev pub Differ : Row → Row → Type 0
Differ a b = (a.digest ≡ b.digest) × (a.bytes ≢ b.bytes)

-- the fault of a row k that is read so
abbrev pub unread : ℕ → Result Op OpFault → List LoadFault
unread k (Ok op) = []
unread k (Err f) = Entry k f ∷ []

-- a fault of row k for each feature of an op of this kind
unfoldable pub feature_faults : ℕ → Option Kind → List LoadFault
feature_faults k kind = map (λ f. Unsupported k f) (filter (has kind) features)

-- for row k: each feature that it may have, each rule that it may break
abbrev pub features_at : ℕ → List LoadFault
features_at k = map (λ f. Unsupported k f) features

abbrev pub rules_at : List Row → ℕ → List LoadFault
rules_at rows k = map (λ r. Invalid k r) (rules_on (op_at (ops_in rows) k).kind)

abbrev pub unknown_at : List Row → ℕ → List LoadFault
unknown_at rows = at_inputs (plan_for rows) (λ k i. UnknownDigest k i)

abbrev pub indexes_at : List Row → ℕ → List LoadFault
indexes_at rows = at_inputs (plan_for rows) (λ k i. BadIndex k i)

-- the rules that the op of row k breaks are added as faults of the row, if the row is reached and can be read; else nothing is added
abbrev pub AddsRules : ℕ → Op → Bool → Bool → List LoadFault → List LoadFault → Type 0
AddsRules k op true true before after = (broken : List Rule) × AreThose (IsBroken op.inputs op.kind) (rules_on op.kind) broken
    × (after ≡ before ++ map (λ r. Invalid k r) broken)
AddsRules k op _ _ before after = after ≡ before ++ []

-- input i of a row is looked at, by whether the row is reached, and whether it is the terminal
abbrev pub asked_by : Bool → Bool → ℕ → Bool
asked_by reached terminal i = reached || (terminal && (i == 0))

-- the fault of input i of row k, if the input is looked at and names no row
abbrev pub unknown_by : List Row → ℕ → Bool → ℕ → Op → ℕ → List LoadFault
unknown_by rows t reached k op i =
    cond (asked_by reached (k == t) i && not (is_some (row_named rows t (input_at op i).digest))) (UnknownDigest k i ∷ []) []

-- the outputs of an op can be counted, and the count is theirs; or they can't, and there is no count
abbrev pub IsCount : Op → Option ℕ → Type 0
IsCount op count = (IsCounted op.kind × (count ≡ Some (output_count op))) ⊎ ((¬ IsCounted op.kind) × (count ≡ None))

-- `counts` has for each op the number of its outputs, if they can be counted
pub record AreCounts (ops : List Op) (counts : List (Option ℕ)) : Type 0 where
  pub len : length counts ≡ length ops
  pub each : (k : ℕ) → k < length ops → IsCount (op_at ops k) (slice_index_or counts k None)

-- whether an index is that of none of the outputs; false if they can't be counted
abbrev pub is_out : Option ℕ → ℤ → Bool
is_out (Some n) (pos i) = not (nat_lt i n)
is_out (Some n) (negsuc i) = true
is_out None z = false

-- the same of the row that a digest text names; false if it names none
abbrev pub is_out_at : List (Option ℕ) → Option ℕ → ℤ → Bool
is_out_at counts (Some j) z = is_out (slice_index_or counts j None) z
is_out_at counts None z = false

-- the fault of input i of row k, if the input is looked at and names no output
abbrev pub index_by : List Row → ℕ → List (Option ℕ) → Bool → ℕ → Op → ℕ → List LoadFault
index_by rows t counts reached k op i =
    cond (asked_by reached (k == t) i && is_out_at counts (row_named rows t (input_at op i).digest) (input_at op i).index) (BadIndex k i ∷ []) []

-- the row that the first input of an op names; none if the op has no input, or if the input names no row
abbrev pub start_by : List Row → ℕ → Op → Option ℕ
start_by rows t op = cond (length op.inputs == 0) None (row_named rows t (input_at op 0).digest)

-- the row of the result; none if there is none
abbrev pub start_for : List Row → Option ℕ
start_for rows = start_by rows (terminal_in rows) (op_at (ops_in rows) (terminal_in rows))
