-- From what the checks find among linked rows to the refusals of the rows.
use Rattle.std.proofs.Common.{◌≡◌, ◌↔◌, ℕ, ◌<◌, ◌≤◌, Bool, true, false, IsTrue, List, [], length, map, get_or}
use Rattle.std.proofs.Common.{Option, Some, None, IfSome, refl, inl, inr, sym, ◌∙◌, ap, subst, arith}
use Rattle.std.proofs.lemmas.List.{length-map, get_or_default}
use Rattle.std.specs.List.{All}
use Rattle.std.specs.Option.{IfNone}
use Rattle.std.specs.Global.{Vec}
use Rattle.llb_ops.specs.OpsWithinLimits.{IsWithinLimits}
use Rattle.llb_ops.specs.declared.op.Op.{Op}
use Rattle.llb_loader.specs.declared.row.Row.{Row}
use Rattle.llb_loader.specs.declared.graph.Edge.{Edge}
use Rattle.llb_loader.specs.declared.graph.Vertex.{Vertex}
use Rattle.llb_loader.specs.declared.fault.LoadFault.{LoadFault}
use Rattle.llb_loader.specs.declared.fault.LoadFault.TheVariants.{UnknownDigest, Cycle}
use Rattle.llb_loader.specs.declared.graph_of_rows.Linked.{Linked}
use Rattle.llb_loader.specs.Graph.{Numbered, IsGraph}
use Rattle.llb_loader.specs.ReachedRows.{lists, inputs, InRange, Reached}
use Rattle.llb_loader.specs.WaitingRows.{IsMarked}
use Rattle.llb_loader.specs.Numbering.{IsNumbering, HasCycle}
use Rattle.llb_loader.specs.RowLookup.{AllSame, Collides, IsTerminal, terminal_in, row_named, rows_named, graph_of}
use Rattle.llb_loader.specs.Features.{feature_of}
use Rattle.llb_loader.specs.Rules.{IsBelow, output_count, MeetsRules}
use Rattle.llb_loader.specs.GraphOfRows.{Plan, plan, numbered_of, op_at, input_at, links_in, Refused, GraphOf}
use Rattle.llb_loader.specs.GraphOfRows.{IsApart, IsStarted, IsNamed, IsPlanOf, ReachedRow, IsOrdered, IsSupported, IsValid, IsWhole}
use Rattle.llb_loader.specs.ReachedRowChecks.{NamesAll, RefusesStart, RefusesUnknown, RefusesFeature, RefusesRule, RefusesIndex, FitsAll, asked_of}
use Rattle.llb_loader.specs.VertexBuilding.{IsBuildable, AreBuilt, edge_to}
use Rattle.llb_loader.specs.GraphOfRowsStages.{plan_in, IsLinked}
use Rattle.llb_loader.proofs.OpAndInputReads.{op_read}
use Rattle.llb_loader.proofs.InputRowPlaces.{in_range}
use Rattle.llb_loader.proofs.PlanRefusals.{started_below, planned, unplanned, refused_by, refuses_unknown, all_named}
use Rattle.llb_loader.proofs.PlanRefusals.{refuses_feature, refuses_rule, refuses_index, asked_linked, asked_there, indexes_fit}
use Rattle.llb_loader.proofs.BuiltGraphs.{row_reached, in_ops, index_small, buildable, is_graph, vertices_same, result_same}

-- there is a list of links for each row
pub graph_len : (rows : List Row) (ops : List Op) (t : ℕ) (links : List (Vec ℕ)) → length ops ≡ length rows → lists links ≡ graph_of rows t ops
    → length links ≡ length rows
graph_len rows ops t links len same =
    let a = length-map links (λ (r : Vec ℕ). r.items) in
    let b = length-map ops (rows_named rows t) in
    let d = ap (λ (xs : List (List ℕ)). length xs) same in
    omega (arith, a, b, d)

-- each link leads to a row
pub graph_below : (rows : List Row) (ops : List Op) (t : ℕ) (links : List (Vec ℕ)) → lists links ≡ graph_of rows t ops → (n : ℕ) → length rows ≡ n
    → InRange (lists links) n
graph_below rows ops t links same n h = subst (λ (g : List (List ℕ)). InRange g n) (sym same)
    (subst (λ (m : ℕ). InRange (graph_of rows t ops) m) h (in_range rows t ops))

-- ---- the checks of linked rows, whose parts are read as these lists

module _ (l : Linked) (is : IsLinked l) (ops : List Op) (links : List (Vec ℕ)) (seen : List Bool)
    (same_ops : ops ≡ l.ops.items) (same_links : links ≡ l.links.items) (same_seen : seen ≡ l.seen.items) where
  planned_links : lists links ≡ links_in (plan_in l)
  planned_links = ap (λ (xs : List (Vec ℕ)). lists xs) same_links ∙ is.links

  exact : (k : ℕ) → IsMarked seen k ↔ ReachedRow (plan_in l) k
  exact = subst (λ (xs : List Bool). (k : ℕ) → IsMarked xs k ↔ ReachedRow (plan_in l) k) (sym same_seen) is.exact

  -- the marked rows are the reached ones
  pub marked : (k : ℕ) → IsMarked seen k ↔ Reached (lists links) l.start k
  marked = subst (λ (g : List (List ℕ)). (k : ℕ) → IsMarked seen k ↔ Reached g l.start k) (sym planned_links) exact

  -- there is a list of links, a mark and an op for each row, and they are few
  pub lens : (length links ≡ length ops) × (length seen ≡ length ops) × (length ops ≤ 65_536)
  lens =
      let a = graph_len l.rows.items l.ops.items l.terminal l.links.items is.len is.links in
      let b = ap (λ (xs : List Op). length xs) same_ops in
      let d = ap (λ (xs : List (Vec ℕ)). length xs) same_links in
      let e = ap (λ (xs : List Bool). length xs) same_seen in
      let f = is.len in
      let g = is.seen in
      let h = is.few in
      (omega (arith, a, b, d, f), omega (arith, b, e, f, g), omega (arith, b, f, h))

  -- each link leads to a row
  pub below : (n : ℕ) → length ops ≡ n → InRange (lists links) n
  below n h = subst (λ (xs : List (Vec ℕ)). InRange (lists xs) n) (sym same_links) (graph_below l.rows.items l.ops.items l.terminal l.links.items is.links n
      (let a = ap (λ (xs : List Op). length xs) same_ops in let b = is.len in omega (arith, a, b, h)))

  -- the ops are within the limits
  pub limited : All IsWithinLimits ops
  limited = subst (λ (xs : List Op). All IsWithinLimits xs) (sym same_ops) is.within

  -- each input that is looked at has its link
  pub asked : (k : ℕ) → asked_of ops seen l.terminal k ≤ length (inputs (lists links) k)
  asked k = subst (λ (xs : List Op). asked_of xs seen l.terminal k ≤ length (inputs (lists links) k)) (sym same_ops)
      (subst (λ (g : List (List ℕ)). asked_of l.ops.items seen l.terminal k ≤ length (inputs g k)) (sym planned_links)
      (asked_linked (plan_in l) seen exact is.named k))

  -- each input that is looked at is there
  pub there : (k : ℕ) → asked_of ops seen l.terminal k ≤ length (op_at ops k).inputs
  there k = subst (λ (xs : List Op). asked_of xs seen l.terminal k ≤ length (op_at xs k).inputs) (sym same_ops)
      (asked_there (plan_in l) seen exact is.named.started.result k)

  -- a cycle refuses the rows
  pub cyclic : (found : Option (Vec ℕ)) → found ≡ None → IfNone found (HasCycle (lists links) l.start) → Refused l.rows.items l.ops.items Cycle
  cyclic found none h = refused_by l.rows.items l.ops.items (plan_in l) Cycle is.planned (
    is.named,
    subst (λ (g : List (List ℕ)). HasCycle g l.start) planned_links
        (subst (λ (o : Option (Vec ℕ)). IfNone o (HasCycle (lists links) l.start)) none h),
  )

  module _ (found : Option (Vec ℕ)) (order : Vec ℕ) (some : found ≡ Some order)
      (numbering : IfSome found (λ o. IsNumbering (lists links) l.start o.items)) where
    ordered : IsOrdered (plan_in l) order.items
    ordered = record {
      named = is.named;
      numbering = subst (λ (g : List (List ℕ)). IsNumbering g l.start order.items) planned_links
          (subst (λ (o : Option (Vec ℕ)). IfSome o (λ v. IsNumbering (lists links) l.start v.items)) some numbering);
    }

    -- the first feature among the marked rows refuses the rows
    pub unsupported : (e : LoadFault) → RefusesFeature ops (IsMarked seen) e → Refused l.rows.items l.ops.items e
    unsupported e r = refused_by l.rows.items l.ops.items (plan_in l) e is.planned (refuses_feature (plan_in l) order.items (IsMarked seen) ordered exact e
        (subst (λ (xs : List Op). RefusesFeature xs (IsMarked seen) e) same_ops r))

    module _ (free : (k : ℕ) → IsMarked seen k → feature_of (op_at ops k) ≡ None) where
      supported : IsSupported (plan_in l) order.items
      supported = record {
        ordered = ordered;
        featureless = λ k r. subst (λ (xs : List Op). feature_of (op_at xs k) ≡ None) same_ops (free k ((exact k).1 r));
      }

      -- the first rule that a marked row breaks refuses the rows
      pub invalid : (e : LoadFault) → RefusesRule ops (IsMarked seen) e → Refused l.rows.items l.ops.items e
      invalid e r = refused_by l.rows.items l.ops.items (plan_in l) e is.planned (refuses_rule (plan_in l) order.items (IsMarked seen) supported exact e
          (subst (λ (xs : List Op). RefusesRule xs (IsMarked seen) e) same_ops r))

      module _ (met : (k : ℕ) → IsMarked seen k → MeetsRules (op_at ops k)) (counts : List ℕ) (same_counts : counts ≡ map output_count ops) where
        valid : IsValid (plan_in l) order.items
        valid = record {
          supported = supported;
          valid = λ k r. subst (λ (xs : List Op). MeetsRules (op_at xs k)) same_ops (met k ((exact k).1 r));
        }

        -- the first index that is no output's refuses the rows
        pub bad_index : (e : LoadFault) → RefusesIndex ops (lists links) counts seen l.terminal e → Refused l.rows.items l.ops.items e
        bad_index e r = refused_by l.rows.items l.ops.items (plan_in l) e is.planned (refuses_index (plan_in l) order.items seen valid is.len exact e
            (subst (λ (xs : List Op). RefusesIndex xs (links_in (plan_in l)) (map output_count xs) seen l.terminal e) same_ops
            (subst (λ (g : List (List ℕ)). RefusesIndex ops g (map output_count ops) seen l.terminal e) planned_links
            (subst (λ (ns : List ℕ). RefusesIndex ops (lists links) ns seen l.terminal e) same_counts r))))

        -- where each index is an output's, no refusal applies
        pub whole_order : ((k : ℕ) → k < length ops → FitsAll counts (inputs (lists links) k) (op_at ops k) (asked_of ops seen l.terminal k))
            → IsWhole (plan_in l) order.items
        whole_order fits = record {
          valid = valid;
          indexes = indexes_fit (plan_in l) seen exact is.named is.len
              (subst (λ (xs : List Op). (k : ℕ) → k < length xs → FitsAll (map output_count xs) (inputs (links_in (plan_in l)) k) (op_at xs k)
              (asked_of xs seen l.terminal k)) same_ops
              (subst (λ (g : List (List ℕ)). (k : ℕ) → k < length ops → FitsAll (map output_count ops) (inputs g k) (op_at ops k)
              (asked_of ops seen l.terminal k)) planned_links
              (subst (λ (ns : List ℕ). (k : ℕ) → k < length ops → FitsAll ns (inputs (lists links) k) (op_at ops k)
              (asked_of ops seen l.terminal k)) same_counts fits)));
        }

-- ---- the names in the rows

module _ (rows : List Row) (ops : List Op) (t : ℕ) (several : AllSame rows → IsTrue false) (apart : (k : ℕ) → ¬ Collides rows k)
    (terminal : IsTerminal rows t) (found : t ≡ terminal_in rows) (len : length ops ≡ length rows) (op : Op) (at : op ≡ get_or ops t op) where
  last : op_at ops t ≡ op
  last = op_read ops t op (let h = terminal.holds.0 in omega (arith, h, len)) at

  are_apart : IsApart rows
  are_apart = record { several = λ a. (let t : IsTrue false = several a in let x : false ≡ true = t in cc); apart = apart }

  start_refuses : (e : LoadFault) → RefusesStart rows t (op_at ops t) e → Refused rows ops e
  start_refuses e (inl (same, none)) = subst (λ (x : LoadFault). Refused rows ops x) (sym same) (
    are_apart,
    subst (λ (n : ℕ). IsTerminal rows n) found terminal,
    subst (λ (n : ℕ). (op_at ops n).inputs ≡ []) found none,
  )
  start_refuses e (inr (same, some, none)) = subst (λ (x : LoadFault). Refused rows ops x) (sym same)
      (refused_by rows ops (plan rows ops t 0) (UnknownDigest t 0) (unplanned rows ops t found none) (inl (record {
        result = record { apart = are_apart; terminal = terminal; input = some };
        unknown = none;
        row = refl;
        input = refl;
      })))

  -- where the terminal has no input, or its first one names no row, the rows are refused
  pub refused_start : (e : LoadFault) → RefusesStart rows t op e → Refused rows ops e
  refused_start e r = start_refuses e (subst (λ (o : Op). RefusesStart rows t o e) (sym last) r)

  module _ (s : ℕ) (some : 0 < length op.inputs) (named : row_named rows t (input_at op 0).digest ≡ Some s)
      (links : List (Vec ℕ)) (same : lists links ≡ graph_of rows t ops) (seen : List Bool) (marked : (k : ℕ) → IsMarked seen k ↔ Reached (lists links) s k)
      (read : List Op) (same_ops : read ≡ ops) (marks : List Bool) (same_marks : marks ≡ seen) where
    started : IsStarted (plan rows ops t s)
    started = record {
      result = record { apart = are_apart; terminal = terminal; input = subst (λ (o : Op). 0 < length o.inputs) (sym last) some };
      start = subst (λ (o : Op). row_named rows t (input_at o 0).digest ≡ Some s) (sym last) named;
    }

    reached_rows : (k : ℕ) → IsMarked seen k ↔ ReachedRow (plan rows ops t s) k
    reached_rows = subst (λ (g : List (List ℕ)). (k : ℕ) → IsMarked seen k ↔ Reached g s k) same marked

    is_plan : IsPlanOf rows ops (plan rows ops t s)
    is_plan = planned rows ops t s found started.start

    -- the first input of a marked row that names no row refuses the rows
    pub refused_unknown : (e : LoadFault) → RefusesUnknown rows t read (IsMarked marks) e → Refused rows ops e
    refused_unknown e r = refused_by rows ops (plan rows ops t s) e is_plan (refuses_unknown (plan rows ops t s) (IsMarked seen) started reached_rows e
        (subst (λ (xs : List Op). RefusesUnknown rows t xs (IsMarked seen) e) same_ops
        (subst (λ (xs : List Bool). RefusesUnknown rows t read (IsMarked xs) e) same_marks r)))

    -- where each input of each marked row names a row, so does each input of each reached row, and the plan is that of the rows
    pub resolved : ((k : ℕ) → IsMarked marks k → NamesAll rows t (op_at read k) (length (op_at read k).inputs))
        → IsPlanOf rows ops (plan rows ops t s) × IsNamed (plan rows ops t s) × ((k : ℕ) → IsMarked seen k ↔ ReachedRow (plan rows ops t s) k)
    resolved names = (
      is_plan,
      all_named (plan rows ops t s) (IsMarked seen) started reached_rows
          (subst (λ (xs : List Op). (k : ℕ) → IsMarked seen k → NamesAll rows t (op_at xs k) (length (op_at xs k).inputs)) same_ops
          (subst (λ (xs : List Bool). (k : ℕ) → IsMarked xs k → NamesAll rows t (op_at read k) (length (op_at read k).inputs)) same_marks names)),
      reached_rows,
    )

-- ---- the graph of linked rows in which nothing is refused

-- the terminal has an op
pub terminal_there : (l : Linked) → IsLinked l → l.terminal < length l.ops.items
terminal_there l is = let t = is.named.started.result.terminal.holds.0 in let n = is.len in omega (arith, t, n)

-- there is a list of links for each row
pub links_there : (l : Linked) → IsLinked l → length l.links.items ≡ length l.rows.items
links_there l is = graph_len l.rows.items l.ops.items l.terminal l.links.items is.len is.links

-- the result's row is one of the rows
pub start_there : (l : Linked) → IsLinked l → l.start < length l.rows.items
start_there l is = started_below (plan_in l) is.named.started

module _ (l : Linked) (is : IsLinked l) (order : List ℕ) (whole : IsWhole (plan_in l) order) (short : length order ≤ length l.rows.items) where
  -- each row of the order is one of the rows
  pub order_below : (n : ℕ) → length l.rows.items ≡ n → All (λ k. k < n) order
  order_below n same k d h =
      let b = in_ops (plan_in l) order whole is.len is.within (get_or order k 0) (row_reached (plan_in l) order whole is.len is.within k h) in
      let e = get_or_default order k d 0 h in
      let o = is.len in
      omega (arith, b, e, o, same)

  -- the terminal has an input, with a small index
  pub last_input : (op : Op) → op_at l.ops.items l.terminal ≡ op → (0 < length op.inputs) × IsBelow 1_025 (input_at op 0).index
  last_input op read = subst (λ (o : Op). (0 < length o.inputs) × IsBelow 1_025 (input_at o 0).index) read
      (is.named.started.result.input, index_small (plan_in l) order whole is.len is.within l.terminal 0 (inr (refl, refl)))

  -- the ops of the order can be built
  pub ops_buildable : (i : ℕ) → i < length order → IsBuildable (op_at l.ops.items (get_or order i 0)) (inputs (lists l.links.items) (get_or order i 0))
  ops_buildable i h = subst (λ (g : List (List ℕ)). IsBuildable (op_at l.ops.items (get_or order i 0)) (inputs g (get_or order i 0)))
      (sym is.links) (buildable (plan_in l) order whole is.len is.within i h)

  module _ (ranks : List ℕ) (inverse : (i : ℕ) → i < length order → get_or ranks (get_or order i 0) 0 ≡ i) (vs : List Vertex)
      (vs_len : length vs ≡ length order) (built : AreBuilt l.rows.items l.ops.items (lists l.links.items) ranks order vs (length order))
      (x : Edge) (result : x ≡ edge_to (get_or ranks l.start 0) (input_at (op_at l.ops.items l.terminal) 0)) where
    built_in : AreBuilt l.rows.items l.ops.items (links_in (plan_in l)) ranks order vs (length order)
    built_in = subst (λ (g : List (List ℕ)). AreBuilt l.rows.items l.ops.items g ranks order vs (length order)) is.links built

    -- the vertices and the result are a graph
    pub is_numbered : IsGraph (record { vertices = vs; result = x })
    is_numbered = is_graph (plan_in l) order whole is.len is.within ranks inverse vs vs_len built_in x result is.few short

    -- the vertices and the result are the graph of the rows
    pub graph_of_rows : (g : Numbered) → g ≡ record { vertices = vs; result = x } → GraphOf l.rows.items l.ops.items g
    graph_of_rows g same = record {
      order = order;
      whole = subst (λ (q : Plan). IsWhole q order) is.planned.same whole;
      graph = same
          ∙ ap (λ (ys : List Vertex). let n : Numbered = record { vertices = ys; result = x } in n)
          (vertices_same (plan_in l) order whole is.len is.within ranks inverse vs vs_len built_in)
          ∙ ap (λ (y : Edge). let n : Numbered = record { vertices = (numbered_of (plan_in l) order).vertices; result = y } in n)
          (result_same (plan_in l) order whole is.len is.within ranks inverse vs vs_len built_in x result)
          ∙ ap (λ (q : Plan). numbered_of q order) is.planned.same;
    }
