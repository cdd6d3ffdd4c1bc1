-- From bare rows to the rows whose digest texts they have: once both are known to be apart, what refuses one refuses the other, and the
-- graph is the same.
use Rattle.std.proofs.Common.{◌≡◌, ℕ, ◌-◌, ◌<◌, List, inl, inr, Option, length, map, sym, ◌∙◌, ap, subst, arith}
use Rattle.std.proofs.lemmas.Bool.{cases_lt}
use Rattle.std.specs.Option.{unwrap_or}
use Rattle.std.specs.Prelude.{nat_abs}
use Rattle.llb_ops.specs.declared.op.Op.{Op}
use Rattle.llb_ops.specs.declared.op.Input.{Input}
use Rattle.llb_loader.specs.declared.row.Row.{Row}
use Rattle.llb_loader.specs.declared.graph.Edge.{Edge}
use Rattle.llb_loader.specs.declared.graph.Vertex.{Vertex}
use Rattle.llb_loader.specs.declared.fault.LoadFault.{LoadFault}
use Rattle.llb_loader.specs.declared.fault.LoadFault.TheVariants as fault
use Rattle.llb_loader.specs.declared.fault.Feature.{Feature}
use Rattle.llb_loader.specs.declared.fault.Rule.{Rule}
use Rattle.llb_loader.specs.Graph.{Numbered}
use Rattle.llb_loader.specs.ReachedRows.{Reached}
use Rattle.llb_loader.specs.Numbering.{IsNumbering, HasCycle, rank_in}
use Rattle.llb_loader.specs.RowLookup.{row_at, IsTerminal, first_with, terminal_in, row_named, graph_of}
use Rattle.llb_loader.specs.Rules.{IsBelow, output_count, step_count}
use Rattle.llb_loader.specs.Scripts.{script_in}
use Rattle.llb_loader.specs.GraphOfRows.{Plan, plan, plan_of, op_at, input_at, start_in, Foremost, ReachedRow, HasInput, IsUnknown, IsBadIndex}
use Rattle.llb_loader.specs.GraphOfRows.{IsApart, HasResult, IsStarted, IsNamed, IsOrdered, IsSupported, IsValid, IsWhole, IsUnsupported, IsInvalid}
use Rattle.llb_loader.specs.GraphOfRows.{HasNoStart, Refuses, Refused, GraphOf, edge_of, vertex_of, numbered_of}
use Rattle.llb_loader.specs.declared.graph_of_rows.Linked.{Linked}
use Rattle.llb_loader.specs.GraphOfRowsResult.{IsGraphOf, IsRefusalOf}
use Rattle.llb_loader.specs.GraphOfRowsStages.{IsLinkedFrom}
use Rattle.llb_loader.proofs.FirstRowOfDigest.{terminal_is, last_there}
use Rattle.llb_loader.proofs.InputRowPlaces.{value_there}
use Rattle.llb_loader.proofs.BytesOfRows.{named_same, terminal_same, start_same, links_same, maps_same}

-- ---- two plans of the same ops, whose rows have the same names

module _ (B R : List Row) (ops : List Op) (t s : ℕ) (named : (d : List ℕ) → row_named B t d ≡ row_named R t d)
    (links : graph_of B t ops ≡ graph_of R t ops) where
  reached_to : (k : ℕ) → ReachedRow (plan B ops t s) k → ReachedRow (plan R ops t s) k
  reached_to k r = subst (λ (g : List (List ℕ)). Reached g s k) links r

  input_to : (k i : ℕ) → HasInput (plan B ops t s) k i → HasInput (plan R ops t s) k i
  input_to k i h = record { reached = reached_to k h.reached; here = h.here }

  unknown_to : (k i : ℕ) → IsUnknown (plan B ops t s) k i → IsUnknown (plan R ops t s) k i
  unknown_to k i u = record { input = input_to k i u.input; unknown = sym (named (input_at (op_at ops k) i).digest) ∙ u.unknown }

  bad_to : (k i : ℕ) → IsBadIndex (plan B ops t s) k i → IsBadIndex (plan R ops t s) k i
  bad_to k i b = record {
    asked = elim b.asked [ inl h ↦ inl (input_to k i h) | inr h ↦ inr h ];
    bad = subst (λ (o : Option ℕ). ¬ IsBelow (output_count (op_at ops (unwrap_or o 0))) (input_at (op_at ops k) i).index)
        (named (input_at (op_at ops k) i).digest) b.bad;
  }

foremost_to : (P Q : ℕ → ℕ → Type 0) → ((k i : ℕ) → P k i → Q k i) → ((k i : ℕ) → Q k i → P k i) → (k i : ℕ) → Foremost P k i → Foremost Q k i
foremost_to P Q to from k i f = record { holds = to k i f.holds; least = λ j h q. f.least j h (from j h q) }

-- ---- two plans of the same ops, whose rows have the same names and are apart in both

module _ (B R : List Row) (ops : List Op) (t s : ℕ) (named : (d : List ℕ) → row_named B t d ≡ row_named R t d)
    (links : graph_of B t ops ≡ graph_of R t ops) (bare : IsApart B) (apart : IsApart R) (terminal : IsTerminal R t) where
  back : (k : ℕ) → ReachedRow (plan R ops t s) k → ReachedRow (plan B ops t s) k
  back = reached_to R B ops t s (λ d. sym (named d)) (sym links)

  there : (k : ℕ) → ReachedRow (plan B ops t s) k → ReachedRow (plan R ops t s) k
  there = reached_to B R ops t s named links

  unknown_back : (k i : ℕ) → IsUnknown (plan R ops t s) k i → IsUnknown (plan B ops t s) k i
  unknown_back = unknown_to R B ops t s (λ d. sym (named d)) (sym links)

  bad_back : (k i : ℕ) → IsBadIndex (plan R ops t s) k i → IsBadIndex (plan B ops t s) k i
  bad_back = bad_to R B ops t s (λ d. sym (named d)) (sym links)

  result_to : HasResult (plan B ops t s) → HasResult (plan R ops t s)
  result_to h = record { apart = apart; terminal = terminal; input = h.input }

  started_to : IsStarted (plan B ops t s) → IsStarted (plan R ops t s)
  started_to h = record { result = result_to h.result; start = sym (named (input_at (op_at ops t) 0).digest) ∙ h.start }

  named_to : IsNamed (plan B ops t s) → IsNamed (plan R ops t s)
  named_to h = record { started = started_to h.started; named = λ k i u. h.named k i (unknown_back k i u) }

  ordered_to : (order : List ℕ) → IsOrdered (plan B ops t s) order → IsOrdered (plan R ops t s) order
  ordered_to order h = record { named = named_to h.named; numbering = subst (λ (g : List (List ℕ)). IsNumbering g s order) links h.numbering }

  supported_to : (order : List ℕ) → IsSupported (plan B ops t s) order → IsSupported (plan R ops t s) order
  supported_to order h = record { ordered = ordered_to order h.ordered; featureless = λ k r. h.featureless k (back k r) }

  valid_to : (order : List ℕ) → IsValid (plan B ops t s) order → IsValid (plan R ops t s) order
  valid_to order h = record { supported = supported_to order h.supported; valid = λ k r. h.valid k (back k r) }

  whole_to : (order : List ℕ) → IsWhole (plan B ops t s) order → IsWhole (plan R ops t s) order
  whole_to order h = record { valid = valid_to order h.valid; indexes = λ k i b. h.indexes k i (bad_back k i b) }

  unsupported_to : (k : ℕ) (f : Feature) → IsUnsupported (plan B ops t s) k f → IsUnsupported (plan R ops t s) k f
  unsupported_to k f u = record { reached = there k u.reached; feature = u.feature; least = λ j l r. u.least j l (back j r) }

  invalid_to : (k : ℕ) (r : Rule) → IsInvalid (plan B ops t s) k r → IsInvalid (plan R ops t s) k r
  invalid_to k r u = record { reached = there k u.reached; broken = u.broken; least = λ j l x. u.least j l (back j x) }

  no_start_to : (k i : ℕ) → HasNoStart (plan B ops t s) k i → HasNoStart (plan R ops t s) k i
  no_start_to k i h = record {
    result = result_to h.result;
    unknown = sym (named (input_at (op_at ops t) 0).digest) ∙ h.unknown;
    row = h.row;
    input = h.input;
  }

  refuses_to : (e : LoadFault) → Refuses (plan B ops t s) e → Refuses (plan R ops t s) e
  refuses_to (fault.Definition f) r = r
  refuses_to (fault.Entry k f) r = r
  refuses_to fault.TooFew r = absurd (bare.several r)
  refuses_to (fault.Collision k) (a, r) = absurd (bare.apart k r.holds)
  refuses_to fault.NoResult (a, b, r) = (apart, terminal, r)
  refuses_to (fault.UnknownDigest k i) (inl r) = inl (no_start_to k i r)
  refuses_to (fault.UnknownDigest k i) (inr (a, r)) = inr (
    started_to a,
    foremost_to (IsUnknown (plan B ops t s)) (IsUnknown (plan R ops t s)) (unknown_to B R ops t s named links) unknown_back k i r,
  )
  refuses_to fault.Cycle (a, r) = (named_to a, subst (λ (g : List (List ℕ)). HasCycle g s) links r)
  refuses_to (fault.Unsupported k f) (order, a, r) = (order, ordered_to order a, unsupported_to k f r)
  refuses_to (fault.Invalid k f) (order, a, r) = (order, supported_to order a, invalid_to k f r)
  refuses_to (fault.BadIndex k i) (order, a, r) = (
    order,
    valid_to order a,
    foremost_to (IsBadIndex (plan B ops t s)) (IsBadIndex (plan R ops t s)) (bad_to B R ops t s named links) bad_back k i r,
  )
  refuses_to fault.Memory r = r

  module _ (same : (k : ℕ) → (row_at B k).digest ≡ (row_at R k).digest) (order : List ℕ) where
    edge_same : (i : Input) → edge_of (plan B ops t s) order i ≡ edge_of (plan R ops t s) order i
    edge_same i = ap (λ (o : Option ℕ). let e : Edge = record { vertex = rank_in order (unwrap_or o 0); index = nat_abs i.index } in e) (named i.digest)

    vertex_same : (k : ℕ) → vertex_of (plan B ops t s) order k ≡ vertex_of (plan R ops t s) order k
    vertex_same k = ap (λ (d : List ℕ). let v : Vertex = record {
      digest = d;
      op = op_at ops k;
      script = script_in (op_at ops k);
      inputs = map (edge_of (plan B ops t s) order) (op_at ops k).inputs;
      steps = step_count (op_at ops k);
      outputs = output_count (op_at ops k);
    } in v) (same k) ∙ ap (λ (es : List Edge). let v : Vertex = record {
      digest = (row_at R k).digest;
      op = op_at ops k;
      script = script_in (op_at ops k);
      inputs = es;
      steps = step_count (op_at ops k);
      outputs = output_count (op_at ops k);
    } in v) (maps_same (edge_of (plan B ops t s) order) (edge_of (plan R ops t s) order) edge_same (op_at ops k).inputs)

    numbered_to : numbered_of (plan B ops t s) order ≡ numbered_of (plan R ops t s) order
    numbered_to = ap (λ (vs : List Vertex). let n : Numbered = record {
      vertices = vs;
      result = edge_of (plan B ops t s) order (input_at (op_at ops t) 0);
    } in n) (maps_same (vertex_of (plan B ops t s) order) (vertex_of (plan R ops t s) order) vertex_same order)
        ∙ ap (λ (e : Edge). let n : Numbered = record {
          vertices = map (vertex_of (plan R ops t s) order) order;
          result = e;
        } in n) (edge_same (input_at (op_at ops t) 0))

-- ---- from the plans to the rows

-- where no row collides and not all are the same, the terminal is the one that a search finds
terminal_found : (R : List Row) → IsApart R → 0 < length R → IsTerminal R (terminal_in R)
terminal_found R apart some = terminal_is R (terminal_in R) some apart.apart
    (value_there (first_with R (row_at R (length R - 1)).digest) (λ e. last_there R some e))

-- if not all rows are the same, there is at least one row
pub some_rows : (R : List Row) → IsApart R → 0 < length R
some_rows R apart = elim (cases_lt 0 (length R)) [
  | inl l ↦ l
  | inr g ↦ absurd (apart.several (λ k h. absurd (omega (arith, h, g))))
]

module _ (B R : List Row) (ops : List Op) (len : length B ≡ length R) (same : (k : ℕ) → (row_at B k).digest ≡ (row_at R k).digest)
    (bare : IsApart B) (apart : IsApart R) where
  planned : plan_of B ops ≡ plan B ops (terminal_in R) (start_in R ops)
  planned = ap (λ (t : ℕ). plan B ops t (start_in B ops)) (terminal_same B R len same) ∙ ap (plan B ops (terminal_in R)) (start_same B R len same ops)

  -- what refuses bare rows refuses the rows
  pub refused_rows : (e : LoadFault) → Refused B ops e → Refused R ops e
  refused_rows e r = refuses_to B R ops (terminal_in R) (start_in R ops) (named_same B R len same (terminal_in R))
      (links_same B R len same (terminal_in R) ops) bare apart (terminal_found R apart (some_rows R apart)) e
      (subst (λ (p : Plan). Refuses p e) planned r)

  -- the graph of bare rows is that of the rows
  pub graph_rows : (g : Numbered) → GraphOf B ops g → GraphOf R ops g
  graph_rows g x = record {
    order = x.order;
    whole = whole_to B R ops (terminal_in R) (start_in R ops) (named_same B R len same (terminal_in R))
        (links_same B R len same (terminal_in R) ops) bare apart (terminal_found R apart (some_rows R apart)) x.order
        (subst (λ (p : Plan). IsWhole p x.order) planned x.whole);
    graph = x.graph ∙ ap (λ (p : Plan). numbered_of p x.order) planned
        ∙ numbered_to B R ops (terminal_in R) (start_in R ops) (named_same B R len same (terminal_in R))
        (links_same B R len same (terminal_in R) ops) bare apart (terminal_found R apart (some_rows R apart)) same x.order;
  }

-- what refuses linked rows refuses those that they are linked from
pub refused_from : (rows : List Row) (l : Linked) (e : LoadFault) → IsLinkedFrom rows l → Refused l.rows.items l.ops.items e → IsRefusalOf rows e
refused_from rows l e from r = inr (
  l.ops.items,
  from.ops,
  refused_rows l.rows.items rows l.ops.items from.len from.digests from.linked.named.started.result.apart from.apart e r,
)

-- the graph of linked rows is that of the rows that they are linked from
pub graph_from : (rows : List Row) (l : Linked) (g : Numbered) → IsLinkedFrom rows l → GraphOf l.rows.items l.ops.items g → IsGraphOf rows g
graph_from rows l g from x = (
  l.ops.items,
  from.ops,
  graph_rows l.rows.items rows l.ops.items from.len from.digests from.linked.named.started.result.apart from.apart g x,
)
