-- The faults of rows, and what linking says of them: there are none where the rows make a graph, and the fault with which they are refused is the first.
use Rattle.std.proofs.Common.{◌≡◌, inl, inr, ℕ, ◌<◌, pos, true, false, List, [], ◌∷◌, ◌++◌, map}
use Rattle.std.proofs.Common.{length, Option, Some, None, Result, refl, sym, ◌∙◌, ap, subst, arith}
use Rattle.std.specs.Prelude.{IsOk}
use Rattle.std.specs.Option.{unwrap_or}
use Rattle.std.specs.List.{Contains}
use Rattle.std.proofs.lemmas.List.Elements.{Contains-append_left, Contains-append_right}
use Rattle.llb_ops.specs.declared.op.Op.{Op}
use Rattle.llb_ops.specs.declared.op.Input.{Input}
use Rattle.llb_ops.specs.declared.fault.OpFault.{OpFault}
use Rattle.llb_loader.specs.declared.row.Row.{Row}
use Rattle.llb_loader.specs.declared.fault.LoadFault.{LoadFault}
use Rattle.llb_loader.specs.declared.fault.LoadFault.TheVariants.{Definition, Entry, TooFew, Collision, NoResult, UnknownDigest, Cycle}
use Rattle.llb_loader.specs.declared.fault.LoadFault.TheVariants.{Unsupported, Invalid, BadIndex, Memory}
use Rattle.llb_loader.specs.declared.fault.Rule.{Rule}
use Rattle.llb_loader.specs.Numbering.{HasCycle, rank_in}
use Rattle.llb_loader.specs.RowLookup.{AllSame, Collides, row_named}
use Rattle.llb_loader.specs.Features.{has, features, feature_of}
use Rattle.llb_loader.specs.Rules.{IsBelow, MeetsRules, Breaks, rules_on, output_count}
use Rattle.llb_loader.specs.GraphOfRows.{Plan, plan_of, op_at, input_at, links_in, input_row, ReachedRow, HasInput, IsUnknown, IsBadIndex}
use Rattle.llb_loader.specs.GraphOfRows.{IsApart, HasResult, IsStarted, IsNamed, IsOrdered, IsSupported, IsValid, IsWhole, Foremost, Refuses}
use Rattle.llb_loader.specs.Graph.{Numbered}
use Rattle.llb_loader.specs.RowReading.{IsUnread}
use Rattle.llb_loader.specs.GraphOfRowsResult.{IsGraphOf, IsRefusalOf}
use Rattle.llb_findings.specs.Selections.{AreThose, joined_below}
use Rattle.llb_findings.specs.Findings.{fault_or_none, reading_at, plan_for, IsAsked}
use Rattle.llb_findings.specs.Findings.{IsFaultIn, at_inputs, entry_faults, collisions, unknown_digests, unsupported, invalid, bad_indexes, linked_faults}
use Rattle.llb_findings.specs.Findings.{possible}
use Rattle.llb_findings.specs.Findings.{AreFindings, BeginsAsLink}
use Rattle.llb_findings.proofs.SelectionParts.{none_of, none_joined, none_map, one_not, IsFirst, first_of, first_left, first_right, first_here, first_joined}
use Rattle.llb_findings.proofs.SelectionParts.{first_find, joined_has, contains_map, those_each, those_all}
use Rattle.llb_loader.proofs.InputRowPlaces.{graph_at, value_there}
use Rattle.llb_loader.proofs.PlanRefusals.{reached_in, input_named}
use Rattle.llb_loader.proofs.ReachabilitySearch.{reached_step}
use Rattle.llb_loader.proofs.UniqueNumbering.{numbering_down}
use Rattle.llb_loader.proofs.ResultUniqueness.{one_answer}
use Rattle.llb_findings.proofs.OpsAndRules.{reading_is, err_not_ok, ops_read, rows_read, feature_listed, no_feature, rule_listed}
use Rattle.llb_findings.proofs.OpsAndRules.{unbroken, looked, broken_not_met, counted_kind, filter_map_has}

-- ---- one plan

module _ (p : Plan) where
  input_reached : (k i j : ℕ) → HasInput p k i → input_row p k i ≡ Some j → ReachedRow p j
  input_reached k i j h e = reached_step (links_in p) p.start k j h.reached (subst (λ (xs : List ℕ). Contains xs j)
      (sym (graph_at p.rows p.terminal p.ops k))
      (filter_map_has (λ (x : Input). row_named p.rows p.terminal x.digest) (op_at p.ops k).inputs i (record { digest = []; index = pos 0; extra = [] }) j
      h.here e))

  -- the terminal's first input names the row of the result
  first_input : (k i : ℕ) → IsStarted p → k ≡ p.terminal → i ≡ 0 → input_row p k i ≡ Some p.start
  first_input k i s kt iz = ap (λ (a : ℕ). input_row p a i) kt ∙ ap (λ (b : ℕ). input_row p p.terminal b) iz ∙ s.start

  unknown_where : (k i : ℕ) → IsStarted p → IsFaultIn p (UnknownDigest k i) → IsUnknown p k i
  unknown_where k i s (asked, none) = elim asked [
    | inl a ↦ record { input = a.1; unknown = none }
    | inr a ↦ absurd (let x : ◌≡◌ {A = Option ℕ} (Some p.start) None = sym (first_input k i s a.1 a.2) ∙ none in cc)
  ]

  bad_where : (k i : ℕ) → IsFaultIn p (BadIndex k i) → IsBadIndex p k i
  bad_where k i (asked, (j, named, counted, out)) = record {
    asked = elim asked [ inl a ↦ inl a.1 | inr a ↦ inr (a.1, a.2) ];
    bad = subst (λ (o : Option ℕ). ¬ IsBelow (output_count (op_at p.ops (unwrap_or o 0))) (input_at (op_at p.ops k) i).index) (sym named) out;
  }

  bad_back : (order : List ℕ) (k i : ℕ) → IsValid p order → IsBadIndex p k i → IsFaultIn p (BadIndex k i)
  bad_back order k i v b =
      let named = v.supported.ordered.named in
      elim b.asked [
        | inl h ↦ (
            let j = unwrap_or (input_row p k i) 0 in
            let e : input_row p k i ≡ Some j = value_there (input_row p k i) (input_named p named k i h) in
            let r = input_reached k i j h e in
            (inl (named.started, h), (j, e, counted_kind (op_at p.ops j).inputs (op_at p.ops j).kind (v.supported.featureless j r) (v.valid j r), b.bad)))
        | inr a ↦ (
            let e = first_input k i named.started a.0 a.1 in
            let r : ReachedRow p p.start = (0, refl) in (
              inr (named.started.result, a.0, a.1),
              (
                p.start,
                e,
                counted_kind (op_at p.ops p.start).inputs (op_at p.ops p.start).kind (v.supported.featureless p.start r) (v.valid p.start r),
                subst (λ (o : Option ℕ). ¬ IsBelow (output_count (op_at p.ops (unwrap_or o 0))) (input_at (op_at p.ops k) i).index) e b.bad,
              ),
            ))
      ]

  -- ---- there is no fault where the rows make a graph

  module _ (read : (k : ℕ) → k < length p.rows → IsOk (reading_at p.rows k)) where
    nothing : (order : List ℕ) (e : LoadFault) → IsWhole p order → ¬ IsFaultIn p e
    nothing order (Definition f) w s = s
    nothing order Memory w s = s
    nothing order (Entry k f) w s = err_not_ok (reading_at p.rows k) f s.1 (read k s.0)
    nothing order TooFew w s = w.valid.supported.ordered.named.started.result.apart.several s
    nothing order (Collision k) w s = w.valid.supported.ordered.named.started.result.apart.apart k s
    nothing order NoResult w s =
        let some = w.valid.supported.ordered.named.started.result.input in
        let l = ap (λ (xs : List Input). length xs) s.2 in omega (arith, some, l)
    nothing order (UnknownDigest k i) w s = w.valid.supported.ordered.named.named k i (unknown_where k i w.valid.supported.ordered.named.started s)
    nothing order Cycle w s = s.1 (rank_in order) (numbering_down (links_in p) p.start order w.valid.supported.ordered.numbering)
    nothing order (Unsupported k f) w s = no_feature (op_at p.ops k) f (w.valid.supported.featureless k s.1) s.2
    nothing order (Invalid k r) w s = unbroken (op_at p.ops k) r (w.valid.valid k s.1) s.3
    nothing order (BadIndex k i) w s = w.indexes k i (bad_where k i s)

    -- ---- what is no fault before a fault

    none_entries : AreThose (IsFaultIn p) (entry_faults p) []
    unfolding entry_faults
    none_entries = none_joined (IsFaultIn p) (length p.rows) (λ k. Entry k (fault_or_none (reading_at p.rows k)) ∷ []) (λ k l.
        one_not (IsFaultIn p) (Entry k (fault_or_none (reading_at p.rows k)))
        (λ s. err_not_ok (reading_at p.rows k) (fault_or_none (reading_at p.rows k)) s.1 (read k l)))

    none_collisions : ((k : ℕ) → ¬ Collides p.rows k) → AreThose (IsFaultIn p) (collisions p) []
    unfolding collisions
    none_collisions h = none_joined (IsFaultIn p) (length p.rows) (λ k. Collision k ∷ []) (λ k l. one_not (IsFaultIn p) (Collision k) (λ s. h k s))

    none_result : HasResult p → AreThose (IsFaultIn p) (NoResult ∷ []) []
    none_result r = one_not (IsFaultIn p) NoResult (λ s.
        let some = r.input in let l = ap (λ (xs : List Input). length xs) s.2 in omega (arith, some, l))

    none_at_inputs : (fault : ℕ → ℕ → LoadFault) (k : ℕ) → ((i : ℕ) → ¬ IsFaultIn p (fault k i)) → AreThose (IsFaultIn p) (at_inputs p fault k) []
    none_at_inputs fault k h = none_joined (IsFaultIn p) (length (op_at p.ops k).inputs) (λ i. fault k i ∷ []) (λ i l. one_not (IsFaultIn p) (fault k i) (h i))

    none_unknown : IsNamed p → AreThose (IsFaultIn p) (unknown_digests p) []
    unfolding unknown_digests
    none_unknown n = none_joined (IsFaultIn p) (length p.rows) (at_inputs p (λ k i. UnknownDigest k i)) (λ k l.
        none_at_inputs (λ a i. UnknownDigest a i) k (λ i s. n.named k i (unknown_where k i n.started s)))

    none_cycle : (order : List ℕ) → IsOrdered p order → AreThose (IsFaultIn p) (Cycle ∷ []) []
    none_cycle order o = one_not (IsFaultIn p) Cycle (λ s. s.1 (rank_in order) (numbering_down (links_in p) p.start order o.numbering))

    no_features : (k : ℕ) → (ReachedRow p k → feature_of (op_at p.ops k) ≡ None) → AreThose (IsFaultIn p) (map (λ f. Unsupported k f) features) []
    no_features k h = none_map (IsFaultIn p) (λ f. Unsupported k f) features (λ f s. no_feature (op_at p.ops k) f (h s.1) s.2)

    none_features : (order : List ℕ) → IsSupported p order → AreThose (IsFaultIn p) (unsupported p) []
    unfolding unsupported
    none_features order t = none_joined (IsFaultIn p) (length p.rows) (λ k. map (λ f. Unsupported k f) features) (λ k l. no_features k (t.featureless k))

    no_rules : (k : ℕ) → (ReachedRow p k → MeetsRules (op_at p.ops k)) → AreThose (IsFaultIn p) (map (λ r. Invalid k r) (rules_on (op_at p.ops k).kind)) []
    no_rules k h = none_map (IsFaultIn p) (λ r. Invalid k r) (rules_on (op_at p.ops k).kind) (λ r s. unbroken (op_at p.ops k) r (h s.1) s.3)

    none_rules : (order : List ℕ) → IsValid p order → AreThose (IsFaultIn p) (invalid p) []
    unfolding invalid
    none_rules order v = none_joined (IsFaultIn p) (length p.rows) (λ k. map (λ r. Invalid k r) (rules_on (op_at p.ops k).kind)) (λ k l. no_rules k (v.valid k))

    -- ---- the first of a part is the first of all

    first_few : IsFirst (IsFaultIn p) (TooFew ∷ []) TooFew → IsFirst (IsFaultIn p) (possible p) TooFew
    unfolding possible
    first_few f = first_right (IsFaultIn p) (entry_faults p) _ TooFew none_entries (first_left (IsFaultIn p) (TooFew ∷ []) _ TooFew f)

    first_collision : (e : LoadFault) → (¬ AllSame p.rows) → IsFirst (IsFaultIn p) (collisions p) e → IsFirst (IsFaultIn p) (possible p) e
    unfolding possible
    first_collision e several f = first_right (IsFaultIn p) (entry_faults p) _ e none_entries
        (first_right (IsFaultIn p) (TooFew ∷ []) _ e (one_not (IsFaultIn p) TooFew several) (first_left (IsFaultIn p) (collisions p) (linked_faults p) e f))

    first_linked : (e : LoadFault) → IsApart p.rows → IsFirst (IsFaultIn p) (linked_faults p) e → IsFirst (IsFaultIn p) (possible p) e
    unfolding possible
    first_linked e apart f = first_right (IsFaultIn p) (entry_faults p) _ e none_entries
        (first_right (IsFaultIn p) (TooFew ∷ []) _ e (one_not (IsFaultIn p) TooFew apart.several)
        (first_right (IsFaultIn p) (collisions p) (linked_faults p) e (none_collisions apart.apart) f))

    first_result : IsApart p.rows → IsFaultIn p NoResult → IsFirst (IsFaultIn p) (possible p) NoResult
    unfolding linked_faults
    first_result apart s = first_linked NoResult apart (first_left (IsFaultIn p) (NoResult ∷ []) _ NoResult (first_here (IsFaultIn p) NoResult s))

    first_unknown : (e : LoadFault) → HasResult p → IsFirst (IsFaultIn p) (unknown_digests p) e → IsFirst (IsFaultIn p) (possible p) e
    unfolding linked_faults
    first_unknown e r f = first_linked e r.apart (first_right (IsFaultIn p) (NoResult ∷ []) _ e (none_result r)
        (first_left (IsFaultIn p) (unknown_digests p) _ e f))

    first_cycle : IsNamed p → HasCycle (links_in p) p.start → IsFirst (IsFaultIn p) (possible p) Cycle
    unfolding linked_faults
    first_cycle n c = first_linked Cycle n.started.result.apart (first_right (IsFaultIn p) (NoResult ∷ []) _ Cycle (none_result n.started.result)
        (first_right (IsFaultIn p) (unknown_digests p) _ Cycle (none_unknown n)
        (first_left (IsFaultIn p) (Cycle ∷ []) _ Cycle (first_here (IsFaultIn p) Cycle (n.started, c)))))

    first_feature : (order : List ℕ) (e : LoadFault) → IsOrdered p order → IsFirst (IsFaultIn p) (unsupported p) e → IsFirst (IsFaultIn p) (possible p) e
    unfolding linked_faults
    first_feature order e o f = first_linked e o.named.started.result.apart (first_right (IsFaultIn p) (NoResult ∷ []) _ e (none_result o.named.started.result)
        (first_right (IsFaultIn p) (unknown_digests p) _ e (none_unknown o.named)
        (first_right (IsFaultIn p) (Cycle ∷ []) _ e (none_cycle order o)
        (first_left (IsFaultIn p) (unsupported p) (invalid p ++ bad_indexes p) e f))))

    first_rule : (order : List ℕ) (e : LoadFault) → IsSupported p order → IsFirst (IsFaultIn p) (invalid p ++ bad_indexes p) e
        → IsFirst (IsFaultIn p) (possible p) e
    unfolding linked_faults
    first_rule order e t f = let o = t.ordered in
        first_linked e o.named.started.result.apart (first_right (IsFaultIn p) (NoResult ∷ []) _ e (none_result o.named.started.result)
        (first_right (IsFaultIn p) (unknown_digests p) _ e (none_unknown o.named)
        (first_right (IsFaultIn p) (Cycle ∷ []) _ e (none_cycle order o)
        (first_right (IsFaultIn p) (unsupported p) (invalid p ++ bad_indexes p) e (none_features order t) f))))

    first_at_inputs : (fault : ℕ → ℕ → LoadFault) (k i : ℕ) → k < length p.rows → i < length (op_at p.ops k).inputs → IsFaultIn p (fault k i)
        → ((j h : ℕ) → j < k → ¬ IsFaultIn p (fault j h)) → ((h : ℕ) → h < i → ¬ IsFaultIn p (fault k h))
        → IsFirst (IsFaultIn p) (joined_below (length p.rows) (at_inputs p fault)) (fault k i)
    first_at_inputs fault k i l m s rows here = first_joined (IsFaultIn p) (length p.rows) (at_inputs p fault) k (fault k i) l
        (λ j b. none_at_inputs fault j (λ h. rows j h b))
        (first_joined (IsFaultIn p) (length (op_at p.ops k).inputs) (λ h. fault k h ∷ []) i (fault k i) m
        (λ h b. one_not (IsFaultIn p) (fault k h) (here h b)) (first_here (IsFaultIn p) (fault k i) s))

    foremost_first : (fault : ℕ → ℕ → LoadFault) (P : ℕ → ℕ → Type 0) (k i : ℕ) → k < length p.rows → i < length (op_at p.ops k).inputs
        → Foremost P k i → IsFaultIn p (fault k i) → ((j h : ℕ) → IsFaultIn p (fault j h) → P j h)
        → IsFirst (IsFaultIn p) (joined_below (length p.rows) (at_inputs p fault)) (fault k i)
    foremost_first fault P k i l m f s where' = first_at_inputs fault k i l m s
        (λ j h b t. elim (f.least j h (where' j h t)) [ inl x ↦ omega (arith, b, x) | inr x ↦ (let e = x.0 in omega (arith, b, e)) ])
        (λ h b t. elim (f.least k h (where' k h t)) [ inl x ↦ omega (arith, x) | inr x ↦ (let e = x.1 in omega (arith, b, e)) ])

    terminal_below : HasResult p → p.terminal < length p.rows
    terminal_below r = r.terminal.holds.0

    start_unknown : HasResult p → input_row p p.terminal 0 ≡ None → IsFirst (IsFaultIn p) (unknown_digests p) (UnknownDigest p.terminal 0)
    unfolding unknown_digests
    start_unknown r none = first_at_inputs (λ k i. UnknownDigest k i) p.terminal 0 (terminal_below r) r.input (inr (r, refl, refl), none)
        (λ j h b s. elim s.0 [
          | inl a ↦ (let x : ◌≡◌ {A = Option ℕ} None (Some p.start) = sym none ∙ a.0.start in cc)
          | inr a ↦ (let e = a.1 in omega (arith, b, e))
        ])
        (λ h b s. omega (arith, b))

    broken_first : (k : ℕ) (rs : List Rule) (b : Rule) → IsFaultIn p (Invalid k b) → Breaks (op_at p.ops k).inputs (op_at p.ops k).kind rs b
        → IsFirst (IsFaultIn p) (map (λ r. Invalid k r) rs) (Invalid k b)
    broken_first k [] b s h = absurd h
    broken_first k (r ∷ rs) b s h = elim h [
      | inl x ↦ inl (subst (λ (q : Rule). IsFaultIn p (Invalid k q)) x.0 s, ap (λ (q : Rule). Invalid k q) x.0)
      | inr y ↦ inr (λ t. t.3.1 y.0, broken_first k rs b s y.1)
    ]

    first_fault : (e : LoadFault) → Refuses p e → IsFirst (IsFaultIn p) (possible p) e
    unfolding unknown_digests collisions unsupported invalid bad_indexes
    first_fault (Definition f) r = absurd r
    first_fault (Entry k f) r = absurd r
    first_fault Memory r = absurd r
    first_fault TooFew r = first_few (first_here (IsFaultIn p) TooFew r)
    first_fault (Collision k) r = first_collision (Collision k) r.0
        (first_joined (IsFaultIn p) (length p.rows) (λ j. Collision j ∷ []) k (Collision k) r.1.holds.here
        (λ j b. one_not (IsFaultIn p) (Collision j) (λ s. r.1.least j b s)) (first_here (IsFaultIn p) (Collision k) r.1.holds))
    first_fault NoResult r = first_result r.0 (r.0, read p.terminal r.1.holds.0, r.2)
    first_fault (UnknownDigest k i) (inl h) = subst (λ (e : LoadFault). IsFirst (IsFaultIn p) (possible p) e)
        (sym (ap (λ (x : ℕ). UnknownDigest x i) h.row ∙ ap (λ (x : ℕ). UnknownDigest p.terminal x) h.input))
        (first_unknown (UnknownDigest p.terminal 0) h.result (start_unknown h.result h.unknown))
    first_fault (UnknownDigest k i) (inr r) =
        let u = r.1.holds in
        first_unknown (UnknownDigest k i) r.0.result
        (foremost_first (λ a b. UnknownDigest a b) (IsUnknown p) k i (reached_in p r.0 k u.input.reached) u.input.here r.1
        (inl (r.0, u.input), u.unknown) (λ j h s. unknown_where j h r.0 s))
    first_fault Cycle r = first_cycle r.0 r.1
    first_fault (Unsupported k f) r =
        let started = r.1.named.started in
        first_feature r.0 (Unsupported k f) r.1
        (first_joined (IsFaultIn p) (length p.rows) (λ j. map (λ g. Unsupported j g) features) k (Unsupported k f) (reached_in p started k r.2.reached)
        (λ j b. no_features j (r.2.least j b))
        (first_find (IsFaultIn p) (λ g. Unsupported k g) (has (op_at p.ops k).kind) features f r.2.feature
        (λ g h. (started, r.2.reached, h)) (λ g n s. let h = s.2 in let z : true ≡ false = sym h ∙ n in cc)))
    first_fault (Invalid k b) r =
        let started = r.1.ordered.named.started in
        let op = op_at p.ops k in
        first_rule r.0 (Invalid k b) r.1 (first_left (IsFaultIn p) (invalid p) (bad_indexes p) (Invalid k b)
        (first_joined (IsFaultIn p) (length p.rows) (λ j. map (λ q. Invalid j q) (rules_on (op_at p.ops j).kind)) k (Invalid k b)
        (reached_in p started k r.2.reached) (λ j m. no_rules j (r.2.least j m))
        (broken_first k (rules_on op.kind) b (
          started,
          r.2.reached,
          read k (reached_in p started k r.2.reached),
          (looked op.inputs op.kind b r.2.broken, broken_not_met op.inputs op.kind (rules_on op.kind) b r.2.broken),
        ) r.2.broken)))
    first_fault (BadIndex k i) r =
        let v = r.1 in
        let started = v.supported.ordered.named.started in
        let result = started.result in
        let b = r.2.holds in
        let here : (k < length p.rows) × (i < length (op_at p.ops k).inputs) = elim b.asked [
          | inl h ↦ (reached_in p started k h.reached, h.here)
          | inr a ↦ (
            (let x = terminal_below result in let e = a.0 in omega (arith, x, e)),
            (let x = result.input in let e : length (op_at p.ops k).inputs ≡ length (op_at p.ops p.terminal).inputs =
                ap (λ (n : ℕ). length (op_at p.ops n).inputs) a.0 in let z = a.1 in omega (arith, x, e, z)),
          )
        ] in
        first_rule r.0 (BadIndex k i) v.supported (first_right (IsFaultIn p) (invalid p) (bad_indexes p) (BadIndex k i) (none_rules r.0 v)
        (foremost_first (λ a c. BadIndex a c) (IsBadIndex p) k i here.0 here.1 r.2 (bad_back r.0 k i v b) (λ j h s. bad_where j h s)))

  -- ---- each fault is among what is looked for

  part_entries : (e : LoadFault) → Contains (entry_faults p) e → Contains (possible p) e
  unfolding possible
  part_entries e c = Contains-append_left (entry_faults p) _ e c

  part_few : Contains (possible p) TooFew
  unfolding possible
  part_few = Contains-append_right (entry_faults p) _ TooFew (Contains-append_left (TooFew ∷ []) _ TooFew (0, omega arith, refl))

  part_collisions : (e : LoadFault) → Contains (collisions p) e → Contains (possible p) e
  unfolding possible
  part_collisions e c = Contains-append_right (entry_faults p) _ e (Contains-append_right (TooFew ∷ []) _ e
      (Contains-append_left (collisions p) (linked_faults p) e c))

  part_linked : (e : LoadFault) → Contains (linked_faults p) e → Contains (possible p) e
  unfolding possible
  part_linked e c = Contains-append_right (entry_faults p) _ e (Contains-append_right (TooFew ∷ []) _ e
      (Contains-append_right (collisions p) (linked_faults p) e c))

  part_result : Contains (possible p) NoResult
  unfolding linked_faults
  part_result = part_linked NoResult (Contains-append_left (NoResult ∷ []) _ NoResult (0, omega arith, refl))

  part_unknown : (e : LoadFault) → Contains (unknown_digests p) e → Contains (possible p) e
  unfolding linked_faults
  part_unknown e c = part_linked e (Contains-append_right (NoResult ∷ []) _ e (Contains-append_left (unknown_digests p) _ e c))

  part_cycle : (e : LoadFault) → Contains ((Cycle ∷ []) ++ (unsupported p ++ (invalid p ++ bad_indexes p))) e → Contains (possible p) e
  unfolding linked_faults
  part_cycle e c = part_linked e (Contains-append_right (NoResult ∷ []) _ e (Contains-append_right (unknown_digests p) _ e c))

  has_input_fault : (fault : ℕ → ℕ → LoadFault) (k i : ℕ) → k < length p.rows → i < length (op_at p.ops k).inputs
      → Contains (joined_below (length p.rows) (at_inputs p fault)) (fault k i)
  has_input_fault fault k i l m = joined_has (length p.rows) (at_inputs p fault) k (fault k i) l
      (joined_has (length (op_at p.ops k).inputs) (λ h. fault k h ∷ []) i (fault k i) m (0, omega arith, refl))

  asked_here : (k i : ℕ) → IsAsked p k i → (k < length p.rows) × (i < length (op_at p.ops k).inputs)
  asked_here k i (inl a) = (reached_in p a.0 k a.1.reached, a.1.here)
  asked_here k i (inr a) = (
    (let x = a.0.terminal.holds.0 in let e = a.1 in omega (arith, x, e)),
    (let x = a.0.input in let e : length (op_at p.ops k).inputs ≡ length (op_at p.ops p.terminal).inputs =
        ap (λ (n : ℕ). length (op_at p.ops n).inputs) a.1 in let z = a.2 in omega (arith, x, e, z)),
  )

  listed : (e : LoadFault) → IsFaultIn p e → Contains (possible p) e
  unfolding entry_faults collisions unknown_digests unsupported invalid bad_indexes
  listed (Definition f) s = absurd s
  listed Memory s = absurd s
  listed (Entry k f) s = part_entries (Entry k f) (joined_has (length p.rows) (λ j. Entry j (fault_or_none (reading_at p.rows j)) ∷ []) k (Entry k f) s.0
      (0, omega arith, ap (λ (r : Result Op OpFault). Entry k (fault_or_none r)) s.1))
  listed TooFew s = part_few
  listed (Collision k) s = part_collisions (Collision k) (joined_has (length p.rows) (λ j. Collision j ∷ []) k (Collision k) s.here (0, omega arith, refl))
  listed NoResult s = part_result
  listed (UnknownDigest k i) s = let h = asked_here k i s.0 in
      part_unknown (UnknownDigest k i) (has_input_fault (λ a b. UnknownDigest a b) k i h.0 h.1)
  listed Cycle s = part_cycle Cycle (Contains-append_left (Cycle ∷ []) _ Cycle (0, omega arith, refl))
  listed (Unsupported k f) s = part_cycle (Unsupported k f) (Contains-append_right (Cycle ∷ []) _ (Unsupported k f)
      (Contains-append_left (unsupported p) (invalid p ++ bad_indexes p) (Unsupported k f)
      (joined_has (length p.rows) (λ j. map (λ g. Unsupported j g) features) k (Unsupported k f) (reached_in p s.0 k s.1)
      (contains_map (λ g. Unsupported k g) features f (feature_listed f)))))
  listed (Invalid k r) s = part_cycle (Invalid k r) (Contains-append_right (Cycle ∷ []) _ (Invalid k r)
      (Contains-append_right (unsupported p) (invalid p ++ bad_indexes p) (Invalid k r)
      (Contains-append_left (invalid p) (bad_indexes p) (Invalid k r)
      (joined_has (length p.rows) (λ j. map (λ q. Invalid j q) (rules_on (op_at p.ops j).kind)) k (Invalid k r) (reached_in p s.0 k s.1)
      (contains_map (λ q. Invalid k q) (rules_on (op_at p.ops k).kind) r (rule_listed (op_at p.ops k).kind r s.3.0))))))
  listed (BadIndex k i) s = let h = asked_here k i s.0 in
      part_cycle (BadIndex k i) (Contains-append_right (Cycle ∷ []) _ (BadIndex k i)
      (Contains-append_right (unsupported p) (invalid p ++ bad_indexes p) (BadIndex k i)
      (Contains-append_right (invalid p) (bad_indexes p) (BadIndex k i) (has_input_fault (λ a b. BadIndex a b) k i h.0 h.1))))

-- ---- rows

-- the fault of a row that can't be read is the first, if no earlier row has one
unread_first : (rows : List Row) (k : ℕ) (f : OpFault) → IsUnread rows k f → IsFirst (IsFaultIn (plan_for rows)) (possible (plan_for rows)) (Entry k f)
unfolding possible entry_faults
unread_first rows k f u =
    let p = plan_for rows in
    let s : IsFaultIn p (Entry k f) = (u.here, reading_is rows k ∙ u.fault) in
    let e : Entry k f ≡ Entry k (fault_or_none (reading_at rows k)) = sym (ap (λ (r : Result Op OpFault). Entry k (fault_or_none r)) s.1) in
    first_left (IsFaultIn p) (entry_faults p) _ (Entry k f)
    (first_joined (IsFaultIn p) (length rows) (λ j. Entry j (fault_or_none (reading_at rows j)) ∷ []) k (Entry k f) u.here
    (λ j b. one_not (IsFaultIn p) (Entry j (fault_or_none (reading_at rows j))) (λ t. err_not_ok (reading_at rows j) (fault_or_none (reading_at rows j)) t.1
    (subst (λ (r : Result Op OpFault). IsOk r) (sym (reading_is rows j)) (u.before j b))))
    (inl (subst (λ (x : LoadFault). IsFaultIn p x) e s, e)))

-- the fault with which linking refuses rows is the first
pub refusal_first : (rows : List Row) (e : LoadFault) → IsRefusalOf rows e → IsFirst (IsFaultIn (plan_for rows)) (possible (plan_for rows)) e
refusal_first rows e (inl (k, f, same, unread)) =
    subst (λ (x : LoadFault). IsFirst (IsFaultIn (plan_for rows)) (possible (plan_for rows)) x) (sym same) (unread_first rows k f unread)
refusal_first rows e (inr (ops, read, refused)) =
    first_fault (plan_for rows) (rows_read rows ops read) e (subst (λ (os : List Op). Refuses (plan_of rows os) e) (ops_read rows ops read) refused)

-- rows that make a graph have no fault
pub no_fault : (rows : List Row) (g : Numbered) (e : LoadFault) → IsGraphOf rows g → ¬ IsFaultIn (plan_for rows) e
no_fault rows g e (ops, read, graph) =
    nothing (plan_for rows) (rows_read rows ops read) graph.order e
    (subst (λ (os : List Op). IsWhole (plan_of rows os) graph.order) (ops_read rows ops read) graph.whole)

pub none_found : (rows : List Row) (g : Numbered) → IsGraphOf rows g → AreFindings rows []
none_found rows g h = record {
  those = none_of (IsFaultIn (plan_for rows)) (possible (plan_for rows)) (λ e s. no_fault rows g e h s);
  each = λ e. (λ c. absurd (let l = c.1 in omega (arith, l)), λ s. absurd (no_fault rows g e h s));
}

pub none_begins : (rows : List Row) (g : Numbered) → IsGraphOf rows g → BeginsAsLink rows []
none_begins rows g h = record {
  none = (λ _. (g, h), λ _. refl);
  first = λ e rest same. absurd (let l = ap (λ (xs : List LoadFault). length xs) same in omega (arith, l));
}

pub some_found : (rows : List Row) (found : List LoadFault) → AreThose (IsFaultIn (plan_for rows)) (possible (plan_for rows)) found → AreFindings rows found
some_found rows found those = record {
  those = those;
  each = λ e. (
    those_each (IsFaultIn (plan_for rows)) (possible (plan_for rows)) found those e,
    λ s. those_all (IsFaultIn (plan_for rows)) (possible (plan_for rows)) found those e (listed (plan_for rows) e s) s,
  );
}

pub some_begins : (rows : List Row) (e : LoadFault) (found : List LoadFault) → IsRefusalOf rows e → AreFindings rows found → BeginsAsLink rows found
some_begins rows e found refused are =
    let f = first_of (IsFaultIn (plan_for rows)) (possible (plan_for rows)) found e are.those (refusal_first rows e refused) in
    record {
      none = (
        λ empty. absurd (let l = ap (λ (xs : List LoadFault). length xs) (sym empty ∙ f.1) in omega (arith, l)),
        λ graph. absurd ((one_answer rows).apart graph.0 e graph.1 refused),
      );
      first = λ x rest same.
          let both : ◌≡◌ {A = List LoadFault} (e ∷ f.0) (x ∷ rest) = sym f.1 ∙ same in
          let heads : e ≡ x = cc in
          subst (λ (y : LoadFault). IsRefusalOf rows y) heads refused;
    }
