-- Every fault of rows or of a definition: each fault that is at its own place, whatever other faults there are, in the order in which the loader looks.
-- A row that can't be read as an op counts as an op without inputs: it leads to no row, and nothing is looked for in it.
use Rattle.std.specs.Prelude.{◌≡◌, ◌⊎◌, ◌↔◌, ℕ, ◌<◌, true, List, [], ◌∷◌, ◌++◌, map, length, Option, Some, None, Result, Ok, Err, IsOk, IsSome, ⊤}
use Rattle.std.specs.List.{Contains}
use Rattle.llb_ops.specs.declared.op.Op.{Op}
use Rattle.llb_ops.specs.declared.op.Input.{Input}
use Rattle.llb_ops.specs.declared.op.Kind.{Kind}
use Rattle.llb_ops.specs.declared.op.Kind.TheVariants.{Exec, Source, File, Merge}
use Rattle.llb_ops.specs.declared.fault.OpFault.{OpFault}
use Rattle.llb_ops.specs.declared.fault.OpFault.TheVariants.{OverLimit}
use Rattle.llb_ops.specs.Messages.{op_of}
use Rattle.llb_ops.specs.Definition.{definition_of}
use Rattle.llb_loader.specs.declared.row.Row.{Row}
use Rattle.llb_loader.specs.declared.fault.LoadFault.{LoadFault}
use Rattle.llb_loader.specs.declared.fault.LoadFault.TheVariants.{Definition, Entry, TooFew, Collision, NoResult, UnknownDigest, Cycle}
use Rattle.llb_loader.specs.declared.fault.LoadFault.TheVariants.{Unsupported, Invalid, BadIndex}
use Rattle.llb_loader.specs.declared.fault.Rule.{Rule}
use Rattle.llb_loader.specs.declared.fault.Rule.TheVariants as rule
use Rattle.llb_loader.specs.RowLookup.{row_at, AllSame, Collides}
use Rattle.llb_loader.specs.Numbering.{HasCycle}
use Rattle.llb_loader.specs.Features.{has, features}
use Rattle.llb_loader.specs.Rules.{IsBelow, AreOutputs, HasWord, Meets, kind_fault, rules_on, outputs_of, mount_outputs, output_count}
use Rattle.llb_loader.specs.GraphOfRows.{Plan, plan_of, op_at, input_at, links_in, input_row, ReachedRow, HasInput, IsApart, HasResult, IsStarted}
use Rattle.llb_loader.specs.Graph.{Numbered}
use Rattle.llb_loader.specs.GraphOfRowsResult.{IsGraphOf, IsRefusalOf}
use Rattle.llb_loader.specs.LoadResult.{rows_from, IsGraphIn, IsRefusalIn}
use Rattle.llb_findings.specs.Selections.{AreThose, joined_below}

-- ---- rows of which some can't be read

-- the op in a result; if the result is a fault, an op without inputs and without a kind
abbrev pub op_or_none : Result Op OpFault → Op
op_or_none (Ok op) = op
op_or_none (Err f) = record { inputs = []; kind = None; extra = [] }

-- the fault in a result; if the result is an op, a fault that is not used
abbrev pub fault_or_none : Result Op OpFault → OpFault
fault_or_none (Err f) = f
fault_or_none (Ok op) = OverLimit

-- what row k is read as: an op or a fault
unfoldable pub reading_at : List Row → ℕ → Result Op OpFault
reading_at rows k = op_of (row_at rows k).bytes

-- the op of each row; an op without inputs and without a kind for a row that can't be read
unfoldable pub ops_in : List Row → List Op
ops_in rows = map (λ r. op_or_none (op_of r.bytes)) rows

-- the `Plan` of rows of which some may not be readable
abbrev pub plan_for : List Row → Plan
plan_for rows = plan_of rows (ops_in rows)

-- ---- where each fault is

-- Input i of row k is looked at: row k is reached from the row of the result; or it is the terminal, and the input is its first.
abbrev pub IsAsked : Plan → ℕ → ℕ → Type 0
IsAsked p k i = (IsStarted p × HasInput p k i) ⊎ (HasResult p × (k ≡ p.terminal) × (i ≡ 0))

-- the outputs of an op of this kind can be counted: it is a source or a merge, or the outputs of its actions or mounts are numbered from 0, each once
abbrev pub IsCounted : Option Kind → Type 0
IsCounted (Some (Source s)) = ⊤
IsCounted (Some (Merge m)) = ⊤
IsCounted (Some (File f)) = AreOutputs (outputs_of f.actions)
IsCounted (Some (Exec x)) = AreOutputs (mount_outputs x.mounts)
IsCounted _ = ⊥

-- input i of row k names a row whose outputs can be counted, and none of these outputs
abbrev pub NamesNoOutput : Plan → ℕ → ℕ → Type 0
NamesNoOutput p k i = (j : ℕ) × (input_row p k i ≡ Some j) × IsCounted (op_at p.ops j).kind
    × (¬ IsBelow (output_count (op_at p.ops j)) (input_at (op_at p.ops k) i).index)

-- an exec has words; no op of another kind has any
abbrev pub HasWords : Option Kind → Type 0
HasWords (Some (Exec x)) = IsSome x.meta × HasWord x.meta
HasWords _ = ⊥

-- the rule is looked at: a script is looked for only in an exec that has words, and f is the fault of these words
abbrev pub IsLookedAt : Option Kind → Rule → Type 0
IsLookedAt kind (rule.Script f) = HasWords kind × (f ≡ kind_fault kind)
IsLookedAt kind _ = ⊤

-- an op of this kind with these inputs breaks this rule
abbrev pub IsBroken : List Input → Option Kind → Rule → Type 0
IsBroken inputs kind r = IsLookedAt kind r × (¬ Meets inputs kind r)

-- the fault is at its own place. A fault of rows on which the result depends is there only if there is a row of the result (`IsStarted`).
abbrev pub IsFaultIn : Plan → LoadFault → Type 0
IsFaultIn p (Entry k f) = (k < length p.rows) × (reading_at p.rows k ≡ Err f)
IsFaultIn p TooFew = AllSame p.rows
IsFaultIn p (Collision k) = Collides p.rows k
IsFaultIn p NoResult = IsApart p.rows × IsOk (reading_at p.rows p.terminal) × ((op_at p.ops p.terminal).inputs ≡ [])
IsFaultIn p (UnknownDigest k i) = IsAsked p k i × (input_row p k i ≡ None)
IsFaultIn p Cycle = IsStarted p × HasCycle (links_in p) p.start
IsFaultIn p (Unsupported k f) = IsStarted p × ReachedRow p k × (has (op_at p.ops k).kind f ≡ true)
IsFaultIn p (Invalid k r) = IsStarted p × ReachedRow p k × IsOk (reading_at p.rows k)
    × IsBroken (op_at p.ops k).inputs (op_at p.ops k).kind r
IsFaultIn p (BadIndex k i) = IsAsked p k i × NamesNoOutput p k i
IsFaultIn p _ = ⊥

-- ---- all places, in the loader's order

-- for each input of row k a fault that has the row's and the input's number
abbrev pub at_inputs : Plan → (ℕ → ℕ → LoadFault) → ℕ → List LoadFault
at_inputs p fault k = joined_below (length (op_at p.ops k).inputs) (λ i. fault k i ∷ [])

-- the fault that row k may have as it is read
abbrev pub entry_at : List Row → ℕ → List LoadFault
entry_at rows k = Entry k (fault_or_none (reading_at rows k)) ∷ []

-- the faults that the rows may have, in the loader's order: by number, then by row, then by input, feature or rule
unfoldable pub entry_faults : Plan → List LoadFault
entry_faults p = joined_below (length p.rows) (entry_at p.rows)

unfoldable pub collisions : Plan → List LoadFault
collisions p = joined_below (length p.rows) (λ k. Collision k ∷ [])

unfoldable pub unknown_digests : Plan → List LoadFault
unknown_digests p = joined_below (length p.rows) (at_inputs p (λ k i. UnknownDigest k i))

unfoldable pub unsupported : Plan → List LoadFault
unsupported p = joined_below (length p.rows) (λ k. map (λ f. Unsupported k f) features)

unfoldable pub invalid : Plan → List LoadFault
invalid p = joined_below (length p.rows) (λ k. map (λ r. Invalid k r) (rules_on (op_at p.ops k).kind))

unfoldable pub bad_indexes : Plan → List LoadFault
bad_indexes p = joined_below (length p.rows) (at_inputs p (λ k i. BadIndex k i))

-- the faults that are looked for only if at least two rows are distinct and none collide
unfoldable pub linked_faults : Plan → List LoadFault
linked_faults p = (NoResult ∷ []) ++ (unknown_digests p ++ ((Cycle ∷ []) ++ (unsupported p ++ (invalid p ++ bad_indexes p))))

unfoldable pub possible : Plan → List LoadFault
possible p = entry_faults p ++ ((TooFew ∷ []) ++ (collisions p ++ linked_faults p))

-- ---- the findings

-- `found` has the faults of these rows, and no others, in the loader's order
pub record AreFindings (rows : List Row) (found : List LoadFault) : Type 0 where
  pub those : AreThose (IsFaultIn (plan_for rows)) (possible (plan_for rows)) found
  pub each : (e : LoadFault) → Contains found e ↔ IsFaultIn (plan_for rows) e

-- nothing is found in these rows where they make a graph, and else what is found begins with the fault with which linking refuses them
pub record BeginsAsLink (rows : List Row) (found : List LoadFault) : Type 0 where
  pub none : (found ≡ []) ↔ ((g : Numbered) × IsGraphOf rows g)
  pub first : (e : LoadFault) (rest : List LoadFault) → found ≡ e ∷ rest → IsRefusalOf rows e

-- `found` has the faults of these bytes: if they are no definition, its fault alone; else those of the rows of its entries
abbrev pub AreFindingsIn : List ℕ → List LoadFault → Type 0
AreFindingsIn bytes found = ((f : OpFault) × (definition_of bytes ≡ Err f) × (found ≡ Definition f ∷ []))
    ⊎ ((entries : List (List ℕ)) × (definition_of bytes ≡ Ok entries) × AreFindings (rows_from entries) found)

-- nothing is found in these bytes where they are loaded as a graph, and else what is found begins with the fault with which loading refuses them
pub record BeginsAsLoad (bytes : List ℕ) (found : List LoadFault) : Type 0 where
  pub none : (found ≡ []) ↔ ((g : Numbered) × IsGraphIn bytes g)
  pub first : (e : LoadFault) (rest : List LoadFault) → found ≡ e ∷ rest → IsRefusalIn bytes e
