-- The vertices that are built of a whole plan are a graph, and the one that the plan says.
use Rattle.std.proofs.Common.{◌≡◌, ◌≢◌, ℕ, zero, suc, ◌<◌, ◌≤◌, ◌^◌, Bool, true, false, cond, not, ◌||◌, nat_eq, List, [], ◌∷◌, ◌++◌, ◌⊎◌}
use Rattle.std.proofs.Common.{inl, inr, Option, Some, None, IsSome, length, get_or, drop, map, codes, refl, sym, ◌∙◌, ap, subst, arith, pos}
use Rattle.std.proofs.lemmas.Bool.{cases_lt}
use Rattle.std.proofs.lemmas.Bool.Decides.{Decides-eqb}
use Rattle.std.proofs.lemmas.Slice.Eq.{starts_is}
use Rattle.std.proofs.lemmas.List.{get_or-map, get_or_past, get_or_default, get_or-take, length-map, length-take-le, same_lists, append-nil}
use Rattle.std.proofs.lemmas.List.Elements.{All-get_or, All-nil, All-cons, Contains-get_or}
use Rattle.std.proofs.lemmas.List.Sums.{count_by-le-length}
use Rattle.std.specs.List.{All, Contains, filter_map, cons_option, list_any, find, starts_with}
use Rattle.std.specs.Option.{unwrap_or}
use Rattle.llb_ops.specs.declared.op.Op.{Op}
use Rattle.llb_ops.specs.declared.op.Input.{Input}
use Rattle.llb_ops.specs.declared.op.Kind.{Kind}
use Rattle.llb_ops.specs.declared.op.Kind.TheVariants.{Exec, Source, File, Build, Merge, Diff}
use Rattle.llb_ops.specs.declared.file_op.Action.{Action}
use Rattle.llb_ops.specs.declared.file_op.ActionKind.{ActionKind}
use Rattle.llb_ops.specs.declared.exec.Mount.{Mount}
use Rattle.llb_ops.specs.OpsWithinLimits.{IsKindWithin, IsWithinLimits}
use Rattle.llb_loader.specs.declared.graph.Edge.{Edge}
use Rattle.llb_loader.specs.declared.graph.Vertex.{Vertex}
use Rattle.llb_loader.specs.Numbering.{rank_in}
use Rattle.llb_loader.specs.ReachedRows.{inputs, HasEdge, Walk}
use Rattle.llb_loader.specs.RowLookup.{row_at, row_named}
use Rattle.llb_loader.specs.Features.{is_nameless, has, features, feature_of}
use Rattle.llb_applet.specs.declared.joined_commands.Joined.{Joined}
use Rattle.llb_loader.specs.LocalSources.{behind}
use Rattle.llb_loader.specs.Mounts.{secret, ssh, has_type}
use Rattle.llb_loader.specs.Scripts.{kind_script, script_in}
use Rattle.llb_loader.specs.Rules.{kind_steps, kind_outputs, is_output, owner_of, owner_by_name, outputs_of, mount_outputs, step_count}
use Rattle.llb_loader.specs.Rules.{output_count, IsBelow, MeetsAll, MeetsRules, rules_on}
use Rattle.llb_loader.specs.Graph.{links, LeadsBelow, IsEdgeOfInput, HasInputs, IsVertex, IsVertexOf, IsGraph}
use Rattle.llb_loader.specs.GraphOfRows.{Plan, op_at, input_at, links_in, input_row, ReachedRow, HasInput, outputs_there, IsNamed, IsWhole, edge_of, vertex_of}
use Rattle.llb_loader.specs.VertexBuilding.{IsBuildable, AreBuilt, edge_at, vertex_at, edge_to}
use Rattle.llb_loader.proofs.ReachabilitySearch.{reached_step}
use Rattle.llb_loader.proofs.UniqueNumbering.{rank_at}
use Rattle.llb_loader.proofs.ScriptLengths.{commands_short}
use Rattle.llb_loader.proofs.ExecVertices.{exec_vertex}
use Rattle.llb_loader.proofs.InputRowPlaces.{graph_at, NamedAt, named_at, below_cases, below_wider, below_abs, below_pos, value_there, IsFirstRow}
use Rattle.llb_loader.proofs.InputRowPlaces.{named_first, same_first, reached_first, named_digest}
use Rattle.llb_loader.proofs.PlanRefusals.{reached_in, input_named}

-- ---- one op

or_parts : (a b : Bool) → (a || b) ≡ false → (a ≡ false) × (b ≡ false)
or_parts false b e = (refl, e)
or_parts true b e = absurd (let x : true ≡ false = e in cc)

all_false : {X : Type 0} (p : X → Bool) (xs : List X) → list_any p xs ≡ false → All (λ x. p x ≡ false) xs
all_false p [] e = All-nil (λ x. p x ≡ false)
all_false p (x ∷ xs) e = let b = or_parts (p x) (list_any p xs) e in All-cons (λ x. p x ≡ false) x xs b.0 (all_false p xs b.1)

-- an action that has a member
member_there : (k : Option ActionKind) → is_nameless k ≡ false → IsSome k
member_there (Some k) e = refl
member_there None e = absurd (let x : true ≡ false = e in cc)

-- where nothing is found, no test holds
not_found : {X : Type 0} (p : X → Bool) (x : X) (xs : List X) → find p (x ∷ xs) ≡ None → (p x ≡ false) × (find p xs ≡ None)
not_found {X} p x xs e = not_found_at (p x) x (find p xs) e
  where
    not_found_at : (b : Bool) (x : X) (rest : Option X) → cond b (Some x) rest ≡ None → (b ≡ false) × (rest ≡ None)
    not_found_at true x rest e = absurd (let y : ◌≡◌ {A = Option X} (Some x) None = e in cc)
    not_found_at false x rest e = (refl, e)

abbrev pub NoneOf : {X : Type 0} → (X → Bool) → List X → Type 0
NoneOf p [] = Unit {0}
NoneOf p (x ∷ xs) = (p x ≡ false) × NoneOf p xs

none_found : {X : Type 0} (p : X → Bool) (xs : List X) → find p xs ≡ None → NoneOf p xs
none_found p [] e = tt
none_found p (x ∷ xs) e = let f = not_found p x xs e in (f.0, none_found p xs f.1)

-- a text that begins with a prefix and is not this prefix has something after it
behind_front : (front text : List ℕ) → starts_with nat_eq text front ≡ true → text ≢ front
    → (text ≡ front ++ drop (length front) text) × (0 < length (drop (length front) text)) × (behind front text ≡ Some (drop (length front) text))
behind_front front text e n =
    let same = (starts_is Decides-eqb text front (starts_with nat_eq text front) refl).0 e in
    (same, longer (drop (length front) text) same, ap (λ (b : Bool). cond b (Some (drop (length front) text)) None) e)
  where
    longer : (rest : List ℕ) → text ≡ front ++ rest → 0 < length rest
    longer [] same = absurd (n (same ∙ append-nil front))
    longer (x ∷ xs) same = omega arith

-- the limits of a message

kind_count_within : (kind : Option Kind) → IsKindWithin kind → kind_outputs kind ≤ 1_024
kind_count_within (Some (File f)) w =
    let c = count_by-le-length is_output (outputs_of f.actions) in
    let l = length-map f.actions (λ (x : Action). x.output) in
    let a = w.actions in
    omega (arith, a, c, l)
kind_count_within (Some (Exec x)) w =
    let c = count_by-le-length is_output (mount_outputs x.mounts) in
    let l = length-map x.mounts (λ (x : Mount). x.output) in
    let m = w.mounts in
    omega (arith, m, c, l)
kind_count_within (Some (Source x)) w = omega arith
kind_count_within (Some (Merge x)) w = omega arith
kind_count_within (Some (Build x)) w = omega arith
kind_count_within (Some (Diff x)) w = omega arith
kind_count_within None w = omega arith

kind_steps_within : (kind : Option Kind) → IsKindWithin kind → kind_steps kind < 2 ^ 25
kind_steps_within (Some (File f)) w = let a = w.actions in omega (arith, a)
kind_steps_within (Some (Merge x)) w = omega (arith, w)
kind_steps_within (Some (Source x)) w = omega arith
kind_steps_within (Some (Exec x)) w = commands_short x.meta w.meta
kind_steps_within (Some (Build x)) w = omega arith
kind_steps_within (Some (Diff x)) w = omega arith
kind_steps_within None w = omega arith

-- a vertex of an op without features that meets the rules, by its kind
kind_vertex : (v : Vertex) (kind : Option Kind) → find (has kind) features ≡ None → MeetsAll v.op.inputs kind (rules_on kind) → IsKindWithin kind
    → length v.inputs ≡ length v.op.inputs → v.script ≡ kind_script kind → v.steps ≡ kind_steps kind → v.outputs ≡ kind_outputs kind → IsVertexOf v kind
kind_vertex v (Some (Source s)) free met within inputs script steps outputs =
    let r = none_found (has (Some (Source s))) features free in
    let local : starts_with nat_eq s.identifier (codes "local://") ≡ true = not_false (starts_with nat_eq s.identifier (codes "local://")) r.1.1.0 in
    let b = behind_front (codes "local://") s.identifier local met.1.0 in
    record { name = drop (length (codes "local://")) s.identifier; local = b.2; some = b.1; identifier = b.0; steps = steps; outputs = outputs }
  where
    not_false : (b : Bool) → not b ≡ false → b ≡ true
    not_false true e = refl
    not_false false e = absurd (let x : true ≡ false = e in cc)
kind_vertex v (Some (File f)) free met within inputs script steps outputs =
    let r = none_found (has (Some (File f))) features free in
    let named = all_false (λ (a : Action). is_nameless a.kind) f.actions r.1.1.1.1.1.1.0 in
    record {
      some = met.1.1.0;
      few = within.actions;
      members = λ a d h. member_there (get_or f.actions a d).kind (named a d h);
      numbered = all_false (λ (a : Action). owner_by_name (owner_of a.kind)) f.actions r.1.1.1.1.1.1.1.1.1.0;
      action_inputs = met.1.1.1.0.first;
      second_inputs = met.1.1.1.0.second;
      action_outputs = met.1.1.1.1.0;
      inputs = inputs;
      steps = steps;
      outputs = outputs;
    }
kind_vertex v (Some (Merge m)) free met within inputs script steps outputs = record {
  few = within;
  merge_inputs = met.1.1.1.1.1.1.1.1.1.1.1.1.1.1.1.1.1.1.0;
  inputs = inputs;
  steps = steps;
  outputs = outputs;
}
kind_vertex v (Some (Exec x)) free met within inputs script steps outputs =
    let r = none_found (has (Some (Exec x))) features free in
    exec_vertex v x (all_false (has_type secret) x.mounts r.1.1.1.0) (all_false (has_type ssh) x.mounts r.1.1.1.1.0) met within inputs script steps outputs
kind_vertex v (Some (Diff x)) free met within inputs script steps outputs =
    absurd (let r = (none_found (has (Some (Diff x))) features free).0 in let y : true ≡ false = r in cc)
kind_vertex v (Some (Build x)) free met within inputs script steps outputs =
    absurd (let r = (none_found (has (Some (Build x))) features free).1.0 in let y : true ≡ false = r in cc)
kind_vertex v None free met within inputs script steps outputs = absurd (let y : false ≡ true = met.0 in cc)

cons_le : (o : Option ℕ) (ys : List ℕ) (n : ℕ) → length ys ≤ n → length (cons_option o ys) ≤ suc n
cons_le None ys n l = omega (arith, l)
cons_le (Some y) ys n l = omega (arith, l)

filter_map_le : {X : Type 0} (h : X → Option ℕ) (xs : List X) → length (filter_map h xs) ≤ length xs
filter_map_le h [] = omega arith
filter_map_le h (x ∷ xs) = cons_le (h x) (filter_map h xs) (length xs) (filter_map_le h xs)

same_vertex : (v w : Vertex) → v.digest ≡ w.digest → v.op ≡ w.op → v.script ≡ w.script → v.inputs ≡ w.inputs → v.steps ≡ w.steps → v.outputs ≡ w.outputs → v ≡ w
same_vertex v w a b s c d e =
    ap (λ (x : List ℕ). let r : Vertex = record { digest = x; op = v.op; script = v.script; inputs = v.inputs; steps = v.steps; outputs = v.outputs } in r) a
    ∙ ap (λ (x : Op). let r : Vertex = record { digest = w.digest; op = x; script = v.script; inputs = v.inputs; steps = v.steps; outputs = v.outputs } in r) b
    ∙ ap (λ (x : Option (List Joined)). let r : Vertex = record {
      digest = w.digest;
      op = w.op;
      script = x;
      inputs = v.inputs;
      steps = v.steps;
      outputs = v.outputs;
    } in r) s
    ∙ ap (λ (x : List Edge). let r : Vertex = record {
      digest = w.digest;
      op = w.op;
      script = w.script;
      inputs = x;
      steps = v.steps;
      outputs = v.outputs;
    } in r) c
    ∙ ap (λ (x : ℕ). let r : Vertex = record { digest = w.digest; op = w.op; script = w.script; inputs = w.inputs; steps = x; outputs = v.outputs } in r) d
    ∙ ap (λ (x : ℕ). let r : Vertex = record { digest = w.digest; op = w.op; script = w.script; inputs = w.inputs; steps = w.steps; outputs = x } in r) e

-- ---- a plan in which nothing is refused

module _ (p : Plan) (order : List ℕ) (whole : IsWhole p order) (len : length p.ops ≡ length p.rows) (within : All IsWithinLimits p.ops) where
  named_in : IsNamed p
  named_in = whole.valid.supported.ordered.named

  pub row_reached : (k : ℕ) → k < length order → ReachedRow p (get_or order k 0)
  row_reached k h = (whole.valid.supported.ordered.numbering.each k h).ready.reached

  pub in_ops : (k : ℕ) → ReachedRow p k → k < length p.ops
  in_ops k r = let h = reached_in p named_in.started k r in omega (arith, h, len)

  pub within_at : (k : ℕ) → ReachedRow p k → IsWithinLimits (op_at p.ops k)
  within_at k r = All-get_or IsWithinLimits p.ops k (record { inputs = []; kind = None; extra = [] }) (in_ops k r) within

  count_small : (k : ℕ) → output_count (op_at p.ops k) ≤ 1_024
  count_small k = elim (cases_lt k (length p.ops)) [
    | inl l ↦ kind_count_within (op_at p.ops k).kind (All-get_or IsWithinLimits p.ops k (record { inputs = []; kind = None; extra = [] }) l within).kind
    | inr g ↦ (let e = ap output_count (get_or_past p.ops k (record { inputs = []; kind = None; extra = [] }) g) in omega (arith, e))
  ]

  pub index_below : (k i : ℕ) → HasInput p k i ⊎ ((k ≡ p.terminal) × (i ≡ 0)) → IsBelow (outputs_there p k i) (input_at (op_at p.ops k) i).index
  index_below k i asked = elim (below_cases (outputs_there p k i) (input_at (op_at p.ops k) i).index) [
    | inl b ↦ b
    | inr n ↦ absurd (whole.indexes k i (record { asked = asked; bad = n }))
  ]

  pub index_small : (k i : ℕ) → HasInput p k i ⊎ ((k ≡ p.terminal) × (i ≡ 0)) → IsBelow 1_025 (input_at (op_at p.ops k) i).index
  index_small k i asked = below_wider (outputs_there p k i) 1_025 (input_at (op_at p.ops k) i).index
      (let c = count_small (unwrap_or (input_row p k i) 0) in omega (arith, c)) (index_below k i asked)

  places : (k : ℕ) → ReachedRow p k → NamedAt (λ (i : Input). row_named p.rows p.terminal i.digest) (op_at p.ops k).inputs
      (record { digest = []; index = pos 0; extra = [] }) (length (op_at p.ops k).inputs)
  places k r = named_at (λ (i : Input). row_named p.rows p.terminal i.digest) (op_at p.ops k).inputs
      (record { digest = []; index = pos 0; extra = [] }) (length (op_at p.ops k).inputs) (omega arith)
      (λ i l. input_named p named_in k i (record { reached = r; here = l }))

  pub full : (k : ℕ) → ReachedRow p k → length (inputs (links_in p) k) ≡ length (op_at p.ops k).inputs
  full k r =
      let e = ap (λ (xs : List ℕ). length xs) (graph_at p.rows p.terminal p.ops k) in
      let a = (places k r).0 in
      let b = filter_map_le (λ (i : Input). row_named p.rows p.terminal i.digest) (op_at p.ops k).inputs in
      omega (arith, e, a, b)

  pub linked : (k i : ℕ) → ReachedRow p k → i < length (op_at p.ops k).inputs → get_or (inputs (links_in p) k) i 0 ≡ unwrap_or (input_row p k i) 0
  linked k i r l = ap (λ (xs : List ℕ). get_or xs i 0) (graph_at p.rows p.terminal p.ops k) ∙ (places k r).1 i l

  pub buildable : (i : ℕ) → i < length order → IsBuildable (op_at p.ops (get_or order i 0)) (inputs (links_in p) (get_or order i 0))
  buildable i h = record {
    steps = kind_steps_within (op_at p.ops (get_or order i 0)).kind (within_at (get_or order i 0) (row_reached i h)).kind;
    outputs = count_small (get_or order i 0);
    len = full (get_or order i 0) (row_reached i h);
    indexes = λ j l. index_small (get_or order i 0) j (inl (record { reached = row_reached i h; here = l }));
  }

  first_row : (k : ℕ) → ReachedRow p k → IsFirstRow p.rows k
  first_row k r = reached_first p.rows p.terminal p.ops p.start k
      (named_first p.rows p.terminal (input_at (op_at p.ops p.terminal) 0).digest p.start named_in.started.start) r

  -- ---- with the numbers of rows

  module _ (ranks : List ℕ) (inverse : (i : ℕ) → i < length order → get_or ranks (get_or order i 0) 0 ≡ i) where
    place : (b : ℕ) → ReachedRow p b → (i : ℕ) × (i < length order) × (get_or order i 0 ≡ b) × (get_or ranks b 0 ≡ i)
    place b r =
        let c = whole.valid.supported.ordered.numbering.whole b r in
        let e = get_or_default order c.0 0 b c.1 ∙ c.2 in
        (c.0, c.1, e, sym (ap (λ (x : ℕ). get_or ranks x 0) e) ∙ inverse c.0 c.1)

    rank_is : (b : ℕ) → ReachedRow p b → get_or ranks b 0 ≡ rank_in order b
    rank_is b r =
        let c = place b r in
        let a = rank_at order b c.0 c.1 c.2 in
        sym (ap (λ (x : ℕ). get_or ranks x 0) a.1) ∙ inverse (rank_in order b) a.0

    module _ (vs : List Vertex) (built_len : length vs ≡ length order) (built : AreBuilt p.rows p.ops (links_in p) ranks order vs (length order)) where
      vertex_is : (k : ℕ) (d : Vertex) → k < length order → get_or vs k d ≡ vertex_at vs k
      vertex_is k d h = get_or_default vs k d _ (let e = built_len in omega (arith, h, e))

      leads : (m b j : ℕ) (x : Edge) (inp : Input) → x ≡ edge_to (get_or ranks b 0) inp → j < length order → get_or order j 0 ≡ b → get_or ranks b 0 ≡ j → j < m
          → IsBelow (output_count (op_at p.ops b)) inp.index → LeadsBelow vs m x
      leads m b j x inp e h at rank low below =
          subst (λ (y : Edge). LeadsBelow vs m y) (sym (e ∙ ap (λ (n : ℕ). edge_to n inp) rank)) (record {
            lower = low;
            index = λ d.
                let a = below_abs (output_count (op_at p.ops b)) inp.index below in
                let o = (built j h).outputs in
                let q = ap (λ (v : Vertex). v.outputs) (vertex_is j d h) in
                let s = ap (λ (n : ℕ). output_count (op_at p.ops n)) at in
                omega (arith, a, o, q, s);
          })

      input_below : (k i : ℕ) → ReachedRow p k → i < length (op_at p.ops k).inputs
          → IsBelow (output_count (op_at p.ops (get_or (inputs (links_in p) k) i 0))) (input_at (op_at p.ops k) i).index
      input_below k i r l = subst (λ (n : ℕ). IsBelow (output_count (op_at p.ops n)) (input_at (op_at p.ops k) i).index)
          (sym (linked k i r l)) (index_below k i (inl (record { reached = r; here = l })))

      edge_leads : (k i : ℕ) (h : k < length order) → i < length (op_at p.ops (get_or order k 0)).inputs → LeadsBelow vs k (edge_at (vertex_at vs k).inputs i)
      edge_leads k i h l =
          let r = get_or order k 0 in
          let b = get_or (inputs (links_in p) (get_or order k 0)) i 0 in
          let f = full (get_or order k 0) (row_reached k h) in
          let li : i < length (inputs (links_in p) (get_or order k 0)) = omega (arith, l, f) in
          let c = (whole.valid.supported.ordered.numbering.each k h).ready.inputs_done i 0 li in
          let n = length-take-le k order (omega (arith, h)) in
          let low : c.0 < k = (let m = c.1 in omega (arith, m, n)) in
          let at : get_or order c.0 0 ≡ get_or (inputs (links_in p) (get_or order k 0)) i 0 =
          get_or_default order c.0 0 (get_or (inputs (links_in p) (get_or order k 0)) i 0) (omega (arith, low, h))
          ∙ sym (get_or-take k order c.0 (get_or (inputs (links_in p) (get_or order k 0)) i 0) low) ∙ c.2 in
          leads k (get_or (inputs (links_in p) (get_or order k 0)) i 0) c.0 (edge_at (vertex_at vs k).inputs i) (input_at (op_at p.ops (get_or order k 0)) i)
          ((built k h).edges i l) (omega (arith, low, h)) at (sym (ap (λ (x : ℕ). get_or ranks x 0) at) ∙ inverse c.0 (omega (arith, low, h))) low
          (input_below (get_or order k 0) i (row_reached k h) l)

      down : (k : ℕ) (d : Vertex) → k < length vs → All (LeadsBelow vs k) (get_or vs k d).inputs
      down k d hv =
          let h : k < length order = (let e = built_len in omega (arith, hv, e)) in
          subst (λ (v : Vertex). All (LeadsBelow vs k) v.inputs) (sym (vertex_is k d h)) (λ i e l.
          let m : i < length (op_at p.ops (get_or order k 0)).inputs = (let b = (built k h).len in omega (arith, l, b)) in
          subst (λ (x : Edge). LeadsBelow vs k x) (get_or_default (vertex_at vs k).inputs i _ e l) (edge_leads k i h m))

      start_reached : ReachedRow p p.start
      start_reached = (0, refl)

      result_leads : (x : Edge) → x ≡ edge_to (get_or ranks p.start 0) (input_at (op_at p.ops p.terminal) 0) → LeadsBelow vs (length vs) x
      result_leads x e =
          let c = place p.start start_reached in
          leads (length vs) p.start c.0 x (input_at (op_at p.ops p.terminal) 0) e c.1 c.2 c.3 (let l = c.1 in let b = built_len in omega (arith, l, b))
          (subst (λ (n : ℕ). IsBelow (output_count (op_at p.ops n)) (input_at (op_at p.ops p.terminal) 0).index)
          (ap (λ (o : Option ℕ). unwrap_or o 0) named_in.started.start) (index_below p.terminal 0 (inr (refl, refl))))

      -- an edge between rows is one between their vertices
      link_at : (k i : ℕ) → k < length order → i < length (inputs (links_in p) (get_or order k 0))
          → HasEdge (links vs) k (get_or ranks (get_or (inputs (links_in p) (get_or order k 0)) i 0) 0)
      link_at k i h l =
          let f = full (get_or order k 0) (row_reached k h) in
          let m : i < length (op_at p.ops (get_or order k 0)).inputs = omega (arith, l, f) in
          let n : i < length (vertex_at vs k).inputs = (let b = (built k h).len in omega (arith, m, b)) in
          let row : inputs (links vs) k ≡ map (λ (e : Edge). e.vertex) (vertex_at vs k).inputs =
          get_or-map (λ (v : Vertex). map (λ (e : Edge). e.vertex) v.inputs) vs k _ [] (let b = built_len in omega (arith, h, b)) in
          let at : get_or (map (λ (e : Edge). e.vertex) (vertex_at vs k).inputs) i 0 ≡ get_or ranks (get_or (inputs (links_in p) (get_or order k 0)) i 0) 0 =
          get_or-map (λ (e : Edge). e.vertex) (vertex_at vs k).inputs i _ 0 n ∙ ap (λ (e : Edge). e.vertex) ((built k h).edges i m) in
          let long : i < length (map (λ (e : Edge). e.vertex) (vertex_at vs k).inputs) =
          (let z = length-map (vertex_at vs k).inputs (λ (e : Edge). e.vertex) in omega (arith, n, z)) in
          subst (λ (xs : List ℕ). Contains xs (get_or ranks (get_or (inputs (links_in p) (get_or order k 0)) i 0) 0)) (sym row)
          (subst (λ (y : ℕ). Contains (map (λ (e : Edge). e.vertex) (vertex_at vs k).inputs) y) at
          (Contains-get_or (map (λ (e : Edge). e.vertex) (vertex_at vs k).inputs) i 0 long))

      link_edge : (a b : ℕ) → ReachedRow p a → HasEdge (links_in p) a b → HasEdge (links vs) (get_or ranks a 0) (get_or ranks b 0)
      link_edge a b r e =
          let c = place a r in
          let i : e.0 < length (inputs (links_in p) (get_or order c.0 0)) = subst (λ (n : ℕ). e.0 < length (inputs (links_in p) n)) (sym c.2) e.1 in
          let x = link_at c.0 e.0 c.1 i in
          let to : get_or (inputs (links_in p) (get_or order c.0 0)) e.0 0 ≡ b = ap (λ (n : ℕ). get_or (inputs (links_in p) n) e.0 0) c.2
          ∙ get_or_default (inputs (links_in p) a) e.0 0 b e.1 ∙ e.2 in
          subst (λ (n : ℕ). HasEdge (links vs) n (get_or ranks b 0)) (sym c.3) (subst (λ (n : ℕ). HasEdge (links vs) c.0 (get_or ranks n 0)) to x)

      walk_up : (b n : ℕ) → Walk (links_in p) p.start b n → Walk (links vs) (get_or ranks p.start 0) (get_or ranks b 0) n
      walk_up b zero w = ap (λ (x : ℕ). get_or ranks x 0) w
      walk_up b (suc n) (c, w, e) = (get_or ranks c 0, walk_up c n w, link_edge c b (n, w) e)

      -- what is true of each vertex
      is_vertex : (k : ℕ) → k < length order → IsVertex (vertex_at vs k)
      is_vertex k h =
          let b = built k h in
          let r = row_reached k h in
          record {
            within = subst (λ (o : Op). IsWithinLimits o) (sym b.op) (within_at (get_or order k 0) r);
            featureless = ap feature_of b.op ∙ whole.valid.supported.featureless (get_or order k 0) r;
            valid = subst (λ (o : Op). MeetsRules o) (sym b.op) (whole.valid.valid (get_or order k 0) r);
            script = b.script ∙ sym (ap script_in b.op);
            steps = b.steps ∙ sym (ap step_count b.op);
            outputs = b.outputs ∙ sym (ap output_count b.op);
            few_steps = (let w = kind_steps_within (op_at p.ops (get_or order k 0)).kind (within_at (get_or order k 0) r).kind in let e =
                b.steps in omega (arith, w, e));
            few_outputs = (let w = kind_count_within (op_at p.ops (get_or order k 0)).kind (within_at (get_or order k 0) r).kind in let e =
                b.outputs in omega (arith, w, e));
          }

      of_kind : (k : ℕ) → k < length order → IsVertexOf (vertex_at vs k) (vertex_at vs k).op.kind
      of_kind k h =
          let v = is_vertex k h in
          kind_vertex (vertex_at vs k) (vertex_at vs k).op.kind v.featureless v.valid v.within.kind
          ((built k h).len ∙ sym (ap (λ (o : Op). length o.inputs) (built k h).op)) v.script v.steps v.outputs

      stands_for : (k i : ℕ) → k < length order → i < length (op_at p.ops (get_or order k 0)).inputs
          → IsEdgeOfInput vs (input_at (op_at p.ops (get_or order k 0)) i) (edge_at (vertex_at vs k).inputs i)
      stands_for k i h l =
          let r = row_reached k h in
          let f = full (get_or order k 0) (row_reached k h) in
          let li : i < length (inputs (links_in p) (get_or order k 0)) = omega (arith, l, f) in
          let b = reached_step (links_in p) p.start (get_or order k 0) (get_or (inputs (links_in p) (get_or order k 0)) i 0)
          (row_reached k h) (Contains-get_or (inputs (links_in p) (get_or order k 0)) i 0 li) in
          let c = place (get_or (inputs (links_in p) (get_or order k 0)) i 0) b in
          let e = (built k h).edges i l ∙ ap (λ (n : ℕ). edge_to n (input_at (op_at p.ops (get_or order k 0)) i)) c.3 in
          let named = value_there (input_row p (get_or order k 0) i) (input_named p named_in (get_or order k 0) i (record { reached = r; here = l })) in
          subst (λ (x : Edge). IsEdgeOfInput vs (input_at (op_at p.ops (get_or order k 0)) i) x) (sym e) (record {
            digest = λ d.
                ap (λ (v : Vertex). v.digest) (vertex_is c.0 d c.1)
                ∙ (built c.0 c.1).digest
                ∙ ap (λ (n : ℕ). (row_at p.rows n).digest) (c.2 ∙ linked (get_or order k 0) i r l)
                ∙ named_digest p.rows p.terminal (input_at (op_at p.ops (get_or order k 0)) i).digest (unwrap_or (input_row p (get_or order k 0) i) 0) named;
            index = below_pos (outputs_there p (get_or order k 0) i) (input_at (op_at p.ops (get_or order k 0)) i).index
                (index_below (get_or order k 0) i (inl (record { reached = r; here = l })));
          })

      has_inputs : (k : ℕ) → k < length order → HasInputs vs (vertex_at vs k)
      has_inputs k h =
          let b = built k h in
          record {
            len = b.len ∙ sym (ap (λ (o : Op). length o.inputs) b.op);
            each = λ i input e l.
                let m : i < length (op_at p.ops (get_or order k 0)).inputs = (let n = b.len in omega (arith, l, n)) in
                subst (λ (x : Edge). IsEdgeOfInput vs (get_or (vertex_at vs k).op.inputs i input) x) (get_or_default (vertex_at vs k).inputs i _ e l)
                (subst (λ (o : Op). IsEdgeOfInput vs (get_or o.inputs i input) (edge_at (vertex_at vs k).inputs i)) (sym b.op)
                (subst (λ (x : Input). IsEdgeOfInput vs x (edge_at (vertex_at vs k).inputs i))
                (get_or_default (op_at p.ops (get_or order k 0)).inputs i _ input m) (stands_for k i h m)));
          }

      distinct : (a b : ℕ) → a < length order → b < length order → (vertex_at vs a).digest ≡ (vertex_at vs b).digest → a ≡ b
      distinct a b la lb e =
          let same = same_first p.rows (get_or order a 0) (get_or order b 0) (first_row (get_or order a 0) (row_reached a la))
          (first_row (get_or order b 0) (row_reached b lb))
          (sym (built a la).digest ∙ e ∙ (built b lb).digest) in
          sym (inverse a la) ∙ ap (λ (n : ℕ). get_or ranks n 0) same ∙ inverse b lb

      pub is_graph : (x : Edge) → x ≡ edge_to (get_or ranks p.start 0) (input_at (op_at p.ops p.terminal) 0) → length p.rows ≤ 65_536
          → length order ≤ length p.rows
          → IsGraph (record { vertices = vs; result = x })
      is_graph x e few short = record {
        down = down;
        result = result_leads x e;
        whole = λ k h.
            let l : k < length order = (let b = built_len in omega (arith, h, b)) in
            let r = row_reached k l in (
              r.0,
              subst (λ (n : ℕ). Walk (links vs) x.vertex n r.0) (inverse k l)
                  (subst (λ (n : ℕ). Walk (links vs) n (get_or ranks (get_or order k 0) 0) r.0) (sym (ap (λ (y : Edge). y.vertex) e))
                  (walk_up (get_or order k 0) r.0 r.1)),
            );
        vertex = λ k d h.
            let l : k < length order = (let b = built_len in omega (arith, h, b)) in
            subst (λ (v : Vertex). IsVertex v) (sym (vertex_is k d l)) (is_vertex k l);
        inputs = λ k d h.
            let l : k < length order = (let b = built_len in omega (arith, h, b)) in
            subst (λ (v : Vertex). HasInputs vs v) (sym (vertex_is k d l)) (has_inputs k l);
        distinct = λ a b d ha hb e.
            let la : a < length order = (let n = built_len in omega (arith, ha, n)) in
            let lb : b < length order = (let n = built_len in omega (arith, hb, n)) in
            distinct a b la lb (sym (ap (λ (v : Vertex). v.digest) (vertex_is a d la)) ∙ e ∙ ap (λ (v : Vertex). v.digest) (vertex_is b d lb));
        kind = λ k d h.
            let l : k < length order = (let b = built_len in omega (arith, h, b)) in
            subst (λ (v : Vertex). IsVertexOf v v.op.kind) (sym (vertex_is k d l)) (of_kind k l);
        few = (let b = built_len in omega (arith, b, few, short));
      }

      -- ---- the graph is the one that the plan says

      edge_same : (k i : ℕ) → k < length order → i < length (op_at p.ops (get_or order k 0)).inputs
          → edge_at (vertex_at vs k).inputs i ≡ edge_of p order (input_at (op_at p.ops (get_or order k 0)) i)
      edge_same k i h l =
          let f = full (get_or order k 0) (row_reached k h) in
          let li : i < length (inputs (links_in p) (get_or order k 0)) = omega (arith, l, f) in
          let b = reached_step (links_in p) p.start (get_or order k 0) (get_or (inputs (links_in p) (get_or order k 0)) i 0)
          (row_reached k h) (Contains-get_or (inputs (links_in p) (get_or order k 0)) i 0 li) in
          (built k h).edges i l
          ∙ ap (λ (n : ℕ). edge_to n (input_at (op_at p.ops (get_or order k 0)) i))
          (rank_is (get_or (inputs (links_in p) (get_or order k 0)) i 0) b
          ∙ ap (λ (n : ℕ). rank_in order n) (linked (get_or order k 0) i (row_reached k h) l))

      inputs_same : (k : ℕ) → k < length order → (vertex_at vs k).inputs ≡ map (edge_of p order) (op_at p.ops (get_or order k 0)).inputs
      inputs_same k h = same_lists (vertex_at vs k).inputs (map (edge_of p order) (op_at p.ops (get_or order k 0)).inputs)
          ((built k h).len ∙ sym (length-map (op_at p.ops (get_or order k 0)).inputs (edge_of p order)))
          (λ i d l. let m : i < length (op_at p.ops (get_or order k 0)).inputs = (let b = (built k h).len in omega (arith, l, b)) in
          get_or_default (vertex_at vs k).inputs i d _ l ∙ edge_same k i h m
          ∙ sym (get_or-map (edge_of p order) (op_at p.ops (get_or order k 0)).inputs i _ d m))

      pub vertices_same : vs ≡ map (vertex_of p order) order
      vertices_same = same_lists vs (map (vertex_of p order) order) (built_len ∙ sym (length-map order (vertex_of p order))) (λ k d h.
          let l : k < length order = (let b = built_len in omega (arith, h, b)) in
          vertex_is k d l
          ∙ same_vertex (vertex_at vs k) (vertex_of p order (get_or order k 0)) (built k l).digest (built k l).op (built k l).script
          (inputs_same k l) (built k l).steps (built k l).outputs
          ∙ sym (get_or-map (vertex_of p order) order k 0 d l))

      pub result_same : (x : Edge) → x ≡ edge_to (get_or ranks p.start 0) (input_at (op_at p.ops p.terminal) 0)
          → x ≡ edge_of p order (input_at (op_at p.ops p.terminal) 0)
      result_same x e = e ∙ ap (λ (n : ℕ). edge_to n (input_at (op_at p.ops p.terminal) 0))
          (rank_is p.start start_reached ∙ sym (ap (λ (o : Option ℕ). rank_in order (unwrap_or o 0)) named_in.started.start))
