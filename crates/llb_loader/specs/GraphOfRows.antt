-- The graph that rows make, or the first fault: for each refusal, when it applies, and what holds if this refusal and all earlier ones do not apply.
use Rattle.std.specs.Prelude.{◌≡◌, ℕ, ◌<◌, ◌≤◌, pos, nat_abs, List, [], length, map, slice_index_or, Option, Some, None, ◌⊎◌}
use Rattle.std.specs.Option.{unwrap_or}
use Rattle.llb_ops.specs.declared.op.Op.{Op}
use Rattle.llb_ops.specs.declared.op.Input.{Input}
use Rattle.llb_loader.specs.declared.row.Row.{Row}
use Rattle.llb_loader.specs.declared.graph.Edge.{Edge}
use Rattle.llb_loader.specs.declared.graph.Vertex.{Vertex}
use Rattle.llb_loader.specs.declared.fault.LoadFault.{LoadFault}
use Rattle.llb_loader.specs.declared.fault.LoadFault.TheVariants.{TooFew, Collision, NoResult, UnknownDigest, Cycle, Unsupported, Invalid, BadIndex}
use Rattle.llb_loader.specs.declared.fault.Feature.{Feature}
use Rattle.llb_loader.specs.declared.fault.Rule.{Rule}
use Rattle.llb_loader.specs.ReachedRows.{Reached}
use Rattle.llb_loader.specs.Numbering.{IsNumbering, HasCycle, rank_in}
use Rattle.llb_loader.specs.RowLookup.{row_at, AllSame, Collides, Least, IsTerminal, terminal_in, row_named, graph_of}
use Rattle.llb_loader.specs.Features.{feature_of}
use Rattle.llb_loader.specs.Scripts.{script_in}
use Rattle.llb_loader.specs.Rules.{step_count, output_count, IsBelow, MeetsRules, BreaksFirst}
use Rattle.llb_loader.specs.Graph.{Numbered}

-- op k; an empty op past the end
abbrev pub op_at : List Op → ℕ → Op
op_at ops k = slice_index_or ops k (record { inputs = []; kind = None; extra = [] })

-- input i of an op; an empty input past the end
abbrev pub input_at : Op → ℕ → Input
input_at op i = slice_index_or op.inputs i (record { digest = []; index = pos 0; extra = [] })

-- (k, i) is the first pair of numbers with the property P; pairs are ordered by the first number, then by the second
pub record Foremost (P : ℕ → ℕ → Type 0) (k i : ℕ) : Type 0 where
  pub holds : P k i
  pub least : (j h : ℕ) → P j h → (k < j) ⊎ ((k ≡ j) × (i ≤ h))

-- what a graph is made from: rows, their ops, the number of the terminal's row, and the number of the result's row, which the terminal's first input names
pub record Plan : Type 0 where
  pub rows : List Row
  pub ops : List Op
  pub terminal : ℕ
  pub start : ℕ

-- the `Plan` (what a graph is made from) with these four fields
abbrev pub plan : List Row → List Op → ℕ → ℕ → Plan
plan rows ops terminal start = record { rows = rows; ops = ops; terminal = terminal; start = start }

-- the number of the row that the terminal's first input names; 0 if this input names no row
abbrev pub start_in : List Row → List Op → ℕ
start_in rows ops = unwrap_or (row_named rows (terminal_in rows) (input_at (op_at ops (terminal_in rows)) 0).digest) 0

-- the `Plan` (what a graph is made from) for rows that are read as these ops
abbrev pub plan_of : List Row → List Op → Plan
plan_of rows ops = plan rows ops (terminal_in rows) (start_in rows ops)

-- p is the `Plan` for these rows, which are read as these ops
pub record IsPlanOf (rows : List Row) (ops : List Op) (p : Plan) : Type 0 where
  pub same : p ≡ plan_of rows ops

-- for each row, the rows that its inputs name
abbrev pub links_in : Plan → List (List ℕ)
links_in p = graph_of p.rows p.terminal p.ops

-- the number of the row that input i of row k names; none if this input names no row
abbrev pub input_row : Plan → ℕ → ℕ → Option ℕ
input_row p k i = row_named p.rows p.terminal (input_at (op_at p.ops k) i).digest

-- row k is reached: it is the row of the result, or a reached row has an input that names it
abbrev pub ReachedRow : Plan → ℕ → Type 0
ReachedRow p k = Reached (links_in p) p.start k

-- row k is reached from the row of the result (`ReachedRow`), and its op has an input with number i
pub record HasInput (p : Plan) (k i : ℕ) : Type 0 where
  pub reached : ReachedRow p k
  pub here : i < length (op_at p.ops k).inputs

-- row k is reached from the row of the result (`ReachedRow`), and its input i names no row
pub record IsUnknown (p : Plan) (k i : ℕ) : Type 0 where
  pub input : HasInput p k i
  pub unknown : input_row p k i ≡ None

-- the number of outputs of the row that input i of row k names; if the input names no row, the number of outputs of row 0
abbrev pub outputs_there : Plan → ℕ → ℕ → ℕ
outputs_there p k i = output_count (op_at p.ops (unwrap_or (input_row p k i) 0))

-- The row that input i of row k names has no output with the input's index. Row k is reached (`ReachedRow`), or row k is the terminal and i is 0.
pub record IsBadIndex (p : Plan) (k i : ℕ) : Type 0 where
  pub asked : HasInput p k i ⊎ ((k ≡ p.terminal) × (i ≡ 0))
  pub bad : ¬ IsBelow (outputs_there p k i) (input_at (op_at p.ops k) i).index

-- ---- what holds once a refusal does not apply, in the order of the refusals

-- There are at least two distinct rows, and no two rows with the same digest text have different bytes.
pub record IsApart (rows : List Row) : Type 0 where
  pub several : ¬ AllSame rows
  pub apart : (k : ℕ) → ¬ Collides rows k

-- `IsApart` holds, so no two different entries have the same digest; the terminal is the first row that equals the last row, and its op has an input.
pub record HasResult (p : Plan) : Type 0 where
  pub apart : IsApart p.rows
  pub terminal : IsTerminal p.rows p.terminal
  pub input : 0 < length (op_at p.ops p.terminal).inputs

-- `HasResult` holds, so the terminal has an input; and the terminal's first input names the row of the result.
pub record IsStarted (p : Plan) : Type 0 where
  pub result : HasResult p
  pub start : input_row p p.terminal 0 ≡ Some p.start

-- `IsStarted` holds, so there is a row of the result; and each input of a row on which the result depends (`ReachedRow`) names a row.
pub record IsNamed (p : Plan) : Type 0 where
  pub started : IsStarted p
  pub named : (k i : ℕ) → ¬ IsUnknown p k i

-- `IsNamed` holds, so each input of a reached row (`ReachedRow`) names a row; and `order` has the reached rows in the order of their vertex numbers.
pub record IsOrdered (p : Plan) (order : List ℕ) : Type 0 where
  pub named : IsNamed p
  pub numbering : IsNumbering (links_in p) p.start order

-- `IsOrdered` holds, so the rows on which the result depends (`ReachedRow`) have vertex numbers; and none of their ops has an unsupported feature.
pub record IsSupported (p : Plan) (order : List ℕ) : Type 0 where
  pub ordered : IsOrdered p order
  pub featureless : (k : ℕ) → ReachedRow p k → feature_of (op_at p.ops k) ≡ None

-- `IsSupported` holds, so the ops of the reached rows (`ReachedRow`) have no unsupported feature; and each of these ops meets the rules.
pub record IsValid (p : Plan) (order : List ℕ) : Type 0 where
  pub supported : IsSupported p order
  pub valid : (k : ℕ) → ReachedRow p k → MeetsRules (op_at p.ops k)

-- No refusal applies. `IsValid` holds; and each input of a reached row (`ReachedRow`), and the terminal's first input, names an output that exists.
pub record IsWhole (p : Plan) (order : List ℕ) : Type 0 where
  pub valid : IsValid p order
  pub indexes : (k i : ℕ) → ¬ IsBadIndex p k i

-- ---- the refusals

-- of the rows on which the result depends and whose op has an unsupported feature, row k has the least number; f is the first such feature of its op
pub record IsUnsupported (p : Plan) (k : ℕ) (f : Feature) : Type 0 where
  pub reached : ReachedRow p k
  pub feature : feature_of (op_at p.ops k) ≡ Some f
  pub least : (j : ℕ) → j < k → ReachedRow p j → feature_of (op_at p.ops j) ≡ None

-- of the rows on which the result depends and whose op breaks a rule, row k has the least number; r is the first rule that its op breaks
pub record IsInvalid (p : Plan) (k : ℕ) (r : Rule) : Type 0 where
  pub reached : ReachedRow p k
  pub broken : BreaksFirst (op_at p.ops k) r
  pub least : (j : ℕ) → j < k → ReachedRow p j → MeetsRules (op_at p.ops j)

-- the terminal's first input names no row; k is the terminal's row, and i is 0
pub record HasNoStart (p : Plan) (k i : ℕ) : Type 0 where
  pub result : HasResult p
  pub unknown : input_row p p.terminal 0 ≡ None
  pub row : k ≡ p.terminal
  pub input : i ≡ 0

-- this `Plan` (rows, their ops, the rows of the terminal and the result) is refused with this fault; each case also requires that no earlier refusal applies
abbrev pub Refuses : Plan → LoadFault → Type 0
Refuses p TooFew = AllSame p.rows
Refuses p (Collision k) = (¬ AllSame p.rows) × Least (Collides p.rows) k
Refuses p NoResult = IsApart p.rows × IsTerminal p.rows p.terminal × ((op_at p.ops p.terminal).inputs ≡ [])
Refuses p (UnknownDigest k i) = HasNoStart p k i ⊎ (IsStarted p × Foremost (IsUnknown p) k i)
Refuses p Cycle = IsNamed p × HasCycle (links_in p) p.start
Refuses p (Unsupported k f) = (order : List ℕ) × IsOrdered p order × IsUnsupported p k f
Refuses p (Invalid k r) = (order : List ℕ) × IsSupported p order × IsInvalid p k r
Refuses p (BadIndex k i) = (order : List ℕ) × IsValid p order × Foremost (IsBadIndex p) k i
Refuses p _ = ⊥

-- the rows, if they are read as these ops, are refused with the fault e
abbrev pub Refused : List Row → List Op → LoadFault → Type 0
Refused rows ops e = Refuses (plan_of rows ops) e

-- ---- the graph

-- the edge of an input: the vertex number of the row that the input names, and the input's index
abbrev pub edge_of : Plan → List ℕ → Input → Edge
edge_of p order i = record { vertex = rank_in order (unwrap_or (row_named p.rows p.terminal i.digest) 0); index = nat_abs i.index }

-- the vertex that is made from row k
abbrev pub vertex_of : Plan → List ℕ → ℕ → Vertex
vertex_of p order k = record {
  digest = (row_at p.rows k).digest;
  op = op_at p.ops k;
  script = script_in (op_at p.ops k);
  inputs = map (edge_of p order) (op_at p.ops k).inputs;
  steps = step_count (op_at p.ops k);
  outputs = output_count (op_at p.ops k);
}

-- the graph of a plan (rows with their ops, the terminal's row and the result's row); `order` has the reached rows in the order of their vertex numbers
abbrev pub numbered_of : Plan → List ℕ → Numbered
numbered_of p order = record {
  vertices = map (vertex_of p order) order;
  result = edge_of p order (input_at (op_at p.ops p.terminal) 0);
}

-- no refusal applies to the rows, which are read as these ops; g is the graph that they make; `order` has the rows that become vertices, by vertex number
pub record GraphOf (rows : List Row) (ops : List Op) (g : Numbered) : Type 0 where
  pub order : List ℕ
  pub whole : IsWhole (plan_of rows ops) order
  pub graph : g ≡ numbered_of (plan_of rows ops) order
