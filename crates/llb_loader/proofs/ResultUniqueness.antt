-- There is at most one result: the refusals come one after another, and each applies where all before it do not.
use Rattle.std.proofs.Common.{◌≡◌, ℕ, zero, suc, ◌+◌, ◌<◌, ◌≤◌, List, [], ◌∷◌, inl, inr, ◌-◌, Option, Some, None, Result, Ok, Err, length}
use Rattle.std.proofs.Common.{refl, sym, ◌∙◌, ap, subst, arith, true, false}
use Rattle.std.specs.Prelude.{IsOk}
use Rattle.std.specs.Result.{is_ok}
use Rattle.std.proofs.lemmas.Bool.{cases_order}
use Rattle.std.proofs.lemmas.List.{get_or_default, same_lists}
use Rattle.llb_ops.specs.declared.op.Op.{Op}
use Rattle.llb_ops.specs.declared.op.Input.{Input}
use Rattle.llb_ops.specs.declared.op.Kind.{Kind}
use Rattle.llb_ops.specs.declared.fault.OpFault.{OpFault}
use Rattle.llb_ops.specs.Messages.{op_of}
use Rattle.llb_ops.specs.Definition.{definition_of}
use Rattle.llb_loader.specs.declared.row.Row.{Row}
use Rattle.llb_loader.specs.declared.fault.LoadFault.{LoadFault}
use Rattle.llb_loader.specs.declared.fault.LoadFault.TheVariants.{Definition, Entry, TooFew, Collision, NoResult, UnknownDigest, Cycle}
use Rattle.llb_loader.specs.declared.fault.LoadFault.TheVariants.{Unsupported, Invalid, BadIndex, Memory}
use Rattle.llb_loader.specs.declared.fault.Feature.{Feature}
use Rattle.llb_loader.specs.declared.fault.Rule.{Rule}
use Rattle.llb_loader.specs.Numbering.{HasCycle, rank_in}
use Rattle.llb_loader.specs.RowLookup.{row_at, AllSame, Collides, Least}
use Rattle.llb_loader.specs.Features.{feature_of}
use Rattle.llb_loader.specs.Rules.{MeetsAll, Breaks, BreaksFirst, rules_on}
use Rattle.llb_loader.specs.Graph.{Numbered}
use Rattle.llb_loader.specs.GraphOfRows.{Plan, plan_of, op_at, links_in, input_row, Foremost, IsApart, HasResult, IsStarted, IsNamed, IsOrdered}
use Rattle.llb_loader.specs.GraphOfRows.{IsSupported, IsValid, IsWhole, IsUnknown, IsBadIndex, IsUnsupported, IsInvalid, Refuses, Refused, GraphOf}
use Rattle.llb_loader.specs.GraphOfRows.{numbered_of}
use Rattle.llb_loader.specs.RowReading.{AreOps, IsUnread, RefusesRow}
use Rattle.llb_loader.specs.GraphOfRowsResult.{IsGraphOf, IsRefusalOf}
use Rattle.llb_loader.specs.LoadResult.{rows_from}
use Rattle.llb_loader.specs.UniqueResult.{HasOneAnswer, HasOneAnswerIn}
use Rattle.llb_loader.proofs.UniqueNumbering.{one_numbering, numbering_down}

-- ---- at most one number is the least

least_one : (P : ℕ → Type 0) (j k : ℕ) → Least P j → Least P k → j ≡ k
least_one P j k a b = elim (cases_order j k) [
  | inl e ↦ e
  | inr o ↦ elim o [ inl l ↦ absurd (b.least j l a.holds) | inr l ↦ absurd (a.least k l b.holds) ]
]

foremost_one : (P : ℕ → ℕ → Type 0) (k i j h : ℕ) → Foremost P k i → Foremost P j h → (k ≡ j) × (i ≡ h)
foremost_one P k i j h a b = elim (a.least j h b.holds) [
  | inl l ↦ elim (b.least k i a.holds) [ inl m ↦ absurd (omega (arith, l, m)) | inr s ↦ absurd (let e = s.0 in omega (arith, l, e)) ]
  | inr s ↦ elim (b.least k i a.holds) [
    | inl m ↦ absurd (let e = s.0 in omega (arith, m, e))
    | inr t ↦ (s.0, let l = s.1 in let m = t.1 in omega (arith, l, m))
  ]
]

not_both : (is : List Input) (kind : Option Kind) (rs : List Rule) (b : Rule) → Breaks is kind rs b → MeetsAll is kind rs → ⊥
not_both is kind [] b h met = h
not_both is kind (r ∷ rs) b h met = elim h [ inl here ↦ here.1 met.0 | inr later ↦ not_both is kind rs b later.1 met.1 ]

broken_one : (is : List Input) (kind : Option Kind) (rs : List Rule) (a b : Rule) → Breaks is kind rs a → Breaks is kind rs b → a ≡ b
broken_one is kind [] a b h g = absurd h
broken_one is kind (r ∷ rs) a b h g = elim h [
  | inl x ↦ elim g [ inl y ↦ x.0 ∙ sym y.0 | inr y ↦ absurd (x.1 y.0) ]
  | inr x ↦ elim g [ inl y ↦ absurd (y.1 x.0) | inr y ↦ broken_one is kind rs a b x.1 y.1 ]
]

-- ---- the refusals of a plan, one after another

module _ (p : Plan) where
  -- what holds of a plan if none of the first n + 1 refusals applies to it
  abbrev Passes : ℕ → Type 0
  Passes zero = ¬ AllSame p.rows
  Passes (suc zero) = IsApart p.rows
  Passes (suc (suc zero)) = HasResult p
  Passes (suc (suc (suc zero))) = IsStarted p
  Passes (suc (suc (suc (suc zero)))) = IsNamed p
  Passes (suc (suc (suc (suc (suc zero))))) = (order : List ℕ) × IsOrdered p order
  Passes (suc (suc (suc (suc (suc (suc zero)))))) = (order : List ℕ) × IsSupported p order
  Passes (suc (suc (suc (suc (suc (suc (suc zero))))))) = (order : List ℕ) × IsValid p order
  Passes (suc (suc (suc (suc (suc (suc (suc (suc n)))))))) = (order : List ℕ) × IsWhole p order

  -- refusal n, counted from 0, applies with fault e, and none of those before it applies
  abbrev Stops : ℕ → LoadFault → Type 0
  Stops zero e = (e ≡ TooFew) × AllSame p.rows
  Stops (suc zero) e = (k : ℕ) × (e ≡ Collision k) × (¬ AllSame p.rows) × Least (Collides p.rows) k
  Stops (suc (suc zero)) e = (e ≡ NoResult) × IsApart p.rows × ((op_at p.ops p.terminal).inputs ≡ [])
  Stops (suc (suc (suc zero))) e = (e ≡ UnknownDigest p.terminal 0) × HasResult p × (input_row p p.terminal 0 ≡ None)
  Stops (suc (suc (suc (suc zero)))) e = (k : ℕ) × (i : ℕ) × (e ≡ UnknownDigest k i) × IsStarted p × Foremost (IsUnknown p) k i
  Stops (suc (suc (suc (suc (suc zero))))) e = (e ≡ Cycle) × IsNamed p × HasCycle (links_in p) p.start
  Stops (suc (suc (suc (suc (suc (suc zero)))))) e = (order : List ℕ) × (k : ℕ) × (f : Feature) × (e ≡ Unsupported k f) × IsOrdered p order
      × IsUnsupported p k f
  Stops (suc (suc (suc (suc (suc (suc (suc zero))))))) e = (order : List ℕ) × (k : ℕ) × (r : Rule) × (e ≡ Invalid k r) × IsSupported p order × IsInvalid p k r
  Stops (suc (suc (suc (suc (suc (suc (suc (suc zero)))))))) e = (order : List ℕ) × (k : ℕ) × (i : ℕ) × (e ≡ BadIndex k i)
      × IsValid p order × Foremost (IsBadIndex p) k i
  Stops (suc (suc (suc (suc (suc (suc (suc (suc (suc n))))))))) e = ⊥

  passed_before : (n : ℕ) → Passes (suc n) → Passes n
  passed_before zero a = a.several
  passed_before (suc zero) s = s.apart
  passed_before (suc (suc zero)) s = s.result
  passed_before (suc (suc (suc zero))) s = s.started
  passed_before (suc (suc (suc (suc zero)))) s = s.1.named
  passed_before (suc (suc (suc (suc (suc zero))))) s = (s.0, s.1.ordered)
  passed_before (suc (suc (suc (suc (suc (suc zero)))))) s = (s.0, s.1.supported)
  passed_before (suc (suc (suc (suc (suc (suc (suc zero))))))) s = (s.0, s.1.valid)
  passed_before (suc (suc (suc (suc (suc (suc (suc (suc n)))))))) s = s

  passed_below : (m d : ℕ) → Passes (d + m) → Passes m
  passed_below m zero s = subst (λ (n : ℕ). Passes n) (let e : zero + m ≡ m = omega arith in e) s
  passed_below m (suc d) s = passed_below m d (passed_before (d + m) (subst (λ (n : ℕ). Passes n) (let e : suc d + m ≡ suc (d + m) = omega arith in e) s))

  -- a refusal applies only where all before it do not
  stopped_after : (n : ℕ) (e : LoadFault) → Stops (suc n) e → Passes n
  stopped_after zero e s = s.2
  stopped_after (suc zero) e s = s.1
  stopped_after (suc (suc zero)) e s = s.1
  stopped_after (suc (suc (suc zero))) e s = s.3
  stopped_after (suc (suc (suc (suc zero)))) e s = s.1
  stopped_after (suc (suc (suc (suc (suc zero))))) e s = (s.0, s.4)
  stopped_after (suc (suc (suc (suc (suc (suc zero)))))) e s = (s.0, s.4)
  stopped_after (suc (suc (suc (suc (suc (suc (suc zero))))))) e s = (s.0, s.4)
  stopped_after (suc (suc (suc (suc (suc (suc (suc (suc n)))))))) e s = absurd s

  -- a refusal that applies in its turn is not passed
  stopped_fails : (n : ℕ) (e : LoadFault) → Stops n e → ¬ Passes n
  stopped_fails zero e s a = a s.1
  stopped_fails (suc zero) e s a = a.apart s.0 s.3.holds
  stopped_fails (suc (suc zero)) e s a = let some = a.input in let l = ap (λ (xs : List Input). length xs) s.2 in omega (arith, some, l)
  stopped_fails (suc (suc (suc zero))) e s a = let x : ◌≡◌ {A = Option ℕ} None (Some p.start) = sym s.2 ∙ a.start in cc
  stopped_fails (suc (suc (suc (suc zero)))) e s a = a.named s.0 s.1 s.4.holds
  stopped_fails (suc (suc (suc (suc (suc zero))))) e s a = s.2 (rank_in a.0) (numbering_down (links_in p) p.start a.0 a.1.numbering)
  stopped_fails (suc (suc (suc (suc (suc (suc zero)))))) e s a =
      let x : ◌≡◌ {A = Option Feature} None (Some s.2) = sym (a.1.featureless s.1 s.5.reached) ∙ s.5.feature in cc
  stopped_fails (suc (suc (suc (suc (suc (suc (suc zero))))))) e s a =
      not_both (op_at p.ops s.1).inputs (op_at p.ops s.1).kind (rules_on (op_at p.ops s.1).kind) s.2 s.5.broken (a.1.valid s.1 s.5.reached)
  stopped_fails (suc (suc (suc (suc (suc (suc (suc (suc zero)))))))) e s a = a.1.indexes s.1 s.2 s.5.holds
  stopped_fails (suc (suc (suc (suc (suc (suc (suc (suc (suc n))))))))) e s a = s

  -- two refusals that apply in the same turn are equal
  stopped_one : (n : ℕ) (e f : LoadFault) → Stops n e → Stops n f → e ≡ f
  stopped_one zero e f s t = s.0 ∙ sym t.0
  stopped_one (suc zero) e f s t = s.1 ∙ ap (λ (k : ℕ). Collision k) (least_one (Collides p.rows) s.0 t.0 s.3 t.3) ∙ sym t.1
  stopped_one (suc (suc zero)) e f s t = s.0 ∙ sym t.0
  stopped_one (suc (suc (suc zero))) e f s t = s.0 ∙ sym t.0
  stopped_one (suc (suc (suc (suc zero)))) e f s t =
      let at = foremost_one (IsUnknown p) s.0 s.1 t.0 t.1 s.4 t.4 in
      s.2 ∙ ap (λ (k : ℕ). UnknownDigest k s.1) at.0 ∙ ap (λ (i : ℕ). UnknownDigest t.0 i) at.1 ∙ sym t.2
  stopped_one (suc (suc (suc (suc (suc zero))))) e f s t = s.0 ∙ sym t.0
  stopped_one (suc (suc (suc (suc (suc (suc zero)))))) e f s t =
      let at : s.1 ≡ t.1 = elim (cases_order s.1 t.1) [
        | inl x ↦ x
        | inr o ↦ elim o [
          | inl l ↦ absurd (let x : ◌≡◌ {A = Option Feature} None (Some s.2) = sym (t.5.least s.1 l s.5.reached) ∙ s.5.feature in cc)
          | inr l ↦ absurd (let x : ◌≡◌ {A = Option Feature} None (Some t.2) = sym (s.5.least t.1 l t.5.reached) ∙ t.5.feature in cc)
        ]
      ] in
      let some : ◌≡◌ {A = Option Feature} (Some s.2) (Some t.2) = sym s.5.feature ∙ ap (λ (k : ℕ). feature_of (op_at p.ops k)) at ∙ t.5.feature in
      let feature : s.2 ≡ t.2 = cc in
      s.3 ∙ ap (λ (k : ℕ). Unsupported k s.2) at ∙ ap (λ (x : Feature). Unsupported t.1 x) feature ∙ sym t.3
  stopped_one (suc (suc (suc (suc (suc (suc (suc zero))))))) e f s t =
      let at : s.1 ≡ t.1 = elim (cases_order s.1 t.1) [
        | inl x ↦ x
        | inr o ↦ elim o [
          | inl l ↦ absurd (not_both (op_at p.ops s.1).inputs (op_at p.ops s.1).kind (rules_on (op_at p.ops s.1).kind) s.2 s.5.broken
              (t.5.least s.1 l s.5.reached))
          | inr l ↦ absurd (not_both (op_at p.ops t.1).inputs (op_at p.ops t.1).kind (rules_on (op_at p.ops t.1).kind) t.2 t.5.broken
              (s.5.least t.1 l t.5.reached))
        ]
      ] in
      let rule = broken_one (op_at p.ops s.1).inputs (op_at p.ops s.1).kind (rules_on (op_at p.ops s.1).kind) s.2 t.2 s.5.broken
      (subst (λ (k : ℕ). BreaksFirst (op_at p.ops k) t.2) (sym at) t.5.broken) in
      s.3 ∙ ap (λ (k : ℕ). Invalid k s.2) at ∙ ap (λ (x : Rule). Invalid t.1 x) rule ∙ sym t.3
  stopped_one (suc (suc (suc (suc (suc (suc (suc (suc zero)))))))) e f s t =
      let at = foremost_one (IsBadIndex p) s.1 s.2 t.1 t.2 s.5 t.5 in
      s.3 ∙ ap (λ (k : ℕ). BadIndex k s.2) at.0 ∙ ap (λ (i : ℕ). BadIndex t.1 i) at.1 ∙ sym t.3
  stopped_one (suc (suc (suc (suc (suc (suc (suc (suc (suc n))))))))) e f s t = absurd s

  -- no two refusals apply in different turns
  not_earlier : (m n : ℕ) (e f : LoadFault) → m < n → Stops m e → Stops n f → ⊥
  not_earlier m zero e f l s t = omega (arith, l)
  not_earlier m (suc n) e f l s t =
      stopped_fails m e s (passed_below m (n - m) (subst (λ (k : ℕ). Passes k) (let x : n ≡ (n - m) + m = omega (arith, l) in x) (stopped_after n f t)))

  stops_alike : (m n : ℕ) (e f : LoadFault) → Stops m e → Stops n f → e ≡ f
  stops_alike m n e f s t = elim (cases_order m n) [
    | inl x ↦ stopped_one n e f (subst (λ (k : ℕ). Stops k e) x s) t
    | inr o ↦ elim o [ inl l ↦ absurd (not_earlier m n e f l s t) | inr l ↦ absurd (not_earlier n m f e l t s) ]
  ]

  stops_within : (n : ℕ) (e : LoadFault) → Stops n e → n ≤ 8
  stops_within zero e s = omega arith
  stops_within (suc zero) e s = omega arith
  stops_within (suc (suc zero)) e s = omega arith
  stops_within (suc (suc (suc zero))) e s = omega arith
  stops_within (suc (suc (suc (suc zero)))) e s = omega arith
  stops_within (suc (suc (suc (suc (suc zero))))) e s = omega arith
  stops_within (suc (suc (suc (suc (suc (suc zero)))))) e s = omega arith
  stops_within (suc (suc (suc (suc (suc (suc (suc zero))))))) e s = omega arith
  stops_within (suc (suc (suc (suc (suc (suc (suc (suc zero)))))))) e s = omega arith
  stops_within (suc (suc (suc (suc (suc (suc (suc (suc (suc n))))))))) e s = absurd s

  -- where the plan is whole, no refusal applies
  not_whole : (n : ℕ) (e : LoadFault) → Stops n e → ¬ ((order : List ℕ) × IsWhole p order)
  not_whole n e s w =
      stopped_fails n e s (passed_below n (8 - n)
      (subst (λ (k : ℕ). Passes k) (let h = stops_within n e s in let x : 8 ≡ (8 - n) + n = omega (arith, h) in x) w))

  -- each refusal has its turn
  refusal_stops : (e : LoadFault) → Refuses p e → (n : ℕ) × Stops n e
  refusal_stops TooFew r = (0, (refl, r))
  refusal_stops (Collision k) r = (1, (k, refl, r.0, r.1))
  refusal_stops NoResult r = (2, (refl, r.0, r.2))
  refusal_stops (UnknownDigest k i) r = elim r [
    | inl a ↦ (3, (ap (λ (x : ℕ). UnknownDigest x i) a.row ∙ ap (λ (x : ℕ). UnknownDigest p.terminal x) a.input, a.result, a.unknown))
    | inr a ↦ (4, (k, i, refl, a.0, a.1))
  ]
  refusal_stops Cycle r = (5, (refl, r.0, r.1))
  refusal_stops (Unsupported k f) r = (6, (r.0, k, f, refl, r.1, r.2))
  refusal_stops (Invalid k x) r = (7, (r.0, k, x, refl, r.1, r.2))
  refusal_stops (BadIndex k i) r = (8, (r.0, k, i, refl, r.1, r.2))
  refusal_stops (Definition f) r = absurd r
  refusal_stops (Entry k f) r = absurd r
  refusal_stops Memory r = absurd r

  one_refusal : (e f : LoadFault) → Refuses p e → Refuses p f → e ≡ f
  one_refusal e f r t = let s = refusal_stops e r in let u = refusal_stops f t in stops_alike s.0 u.0 e f s.1 u.1

  whole_not_refused : (order : List ℕ) (e : LoadFault) → IsWhole p order → ¬ Refuses p e
  whole_not_refused order e w r = let s = refusal_stops e r in not_whole s.0 e s.1 (order, w)

  one_order : (xs ys : List ℕ) → IsWhole p xs → IsWhole p ys → xs ≡ ys
  one_order xs ys a b = one_numbering (links_in p) p.start xs ys a.valid.supported.ordered.numbering b.valid.supported.ordered.numbering

graph_one : (rows : List Row) (ops : List Op) (g h : Numbered) → GraphOf rows ops g → GraphOf rows ops h → g ≡ h
graph_one rows ops g h a b =
    a.graph ∙ ap (λ (o : List ℕ). numbered_of (plan_of rows ops) o) (one_order (plan_of rows ops) a.order b.order a.whole b.whole) ∙ sym b.graph

-- ---- rows, readable or not

ops_one : (rows : List Row) (xs ys : List Op) → AreOps rows xs → AreOps rows ys → xs ≡ ys
ops_one rows xs ys a b = same_lists xs ys (a.len ∙ sym b.len) (λ k d l.
    let h : k < length rows = (let e = a.len in omega (arith, l, e)) in
    let m : k < length ys = (let e = b.len in omega (arith, h, e)) in
    let ok : ◌≡◌ {A = Result Op OpFault} (Ok (op_at xs k)) (Ok (op_at ys k)) = sym (a.each k h) ∙ b.each k h in
    let same : op_at xs k ≡ op_at ys k = cc in
    get_or_default xs k d (record { inputs = []; kind = None; extra = [] }) l ∙ same
    ∙ sym (get_or_default ys k d (record { inputs = []; kind = None; extra = [] }) m))

not_read : (r : Result Op OpFault) (f : OpFault) → r ≡ Err f → ¬ IsOk r
not_read r f e ok = let x : is_ok r ≡ false = ap (λ (y : Result Op OpFault). is_ok y) e in let z : true ≡ false = sym ok ∙ x in cc

unread_one : (rows : List Row) (k j : ℕ) (f g : OpFault) → IsUnread rows k f → IsUnread rows j g → ◌≡◌ {A = LoadFault} (Entry k f) (Entry j g)
unread_one rows k j f g a b =
    let at : k ≡ j = elim (cases_order k j) [
      | inl x ↦ x
      | inr o ↦ elim o [ inl l ↦ absurd (not_read _ f a.fault (b.before k l)) | inr l ↦ absurd (not_read _ g b.fault (a.before j l)) ]
    ] in
    let err : ◌≡◌ {A = Result Op OpFault} (Err f) (Err g) = sym a.fault ∙ ap (λ (i : ℕ). op_of (row_at rows i).bytes) at ∙ b.fault in
    let fault : f ≡ g = cc in
    ap (λ (i : ℕ). Entry i f) at ∙ ap (λ (x : OpFault). Entry j x) fault

not_unread : (rows : List Row) (ops : List Op) (e : LoadFault) → AreOps rows ops → ¬ RefusesRow rows e
not_unread rows ops e a r = let x : ◌≡◌ {A = Result Op OpFault} (Ok (op_at ops r.0)) (Err r.1) = sym (a.each r.0 r.3.here) ∙ r.3.fault in cc

refusal_one : (rows : List Row) (e f : LoadFault) → IsRefusalOf rows e → IsRefusalOf rows f → e ≡ f
refusal_one rows e f r t = elim r [
  | inl a ↦ elim t [ inl b ↦ a.2 ∙ unread_one rows a.0 b.0 a.1 b.1 a.3 b.3 ∙ sym b.2 | inr b ↦ absurd (not_unread rows b.0 e b.1 a) ]
  | inr a ↦ elim t [
    | inl b ↦ absurd (not_unread rows a.0 f a.1 b)
    | inr b ↦ one_refusal (plan_of rows a.0) e f a.2 (subst (λ (ops : List Op). Refused rows ops f) (ops_one rows b.0 a.0 b.1 a.1) b.2)
  ]
]

pub one_answer : (rows : List Row) → HasOneAnswer rows
one_answer rows = record {
  graphs = λ g h a b. graph_one rows a.0 g h a.2 (subst (λ (ops : List Op). GraphOf rows ops h) (ops_one rows b.0 a.0 b.1 a.1) b.2);
  refusals = refusal_one rows;
  apart = λ g e a r. elim r [
    | inl b ↦ not_unread rows a.0 e a.1 b
    | inr b ↦ whole_not_refused (plan_of rows a.0) a.2.order e a.2.whole (subst (λ (ops : List Op). Refused rows ops e) (ops_one rows b.0 a.0 b.1 a.1) b.2)
  ];
}

-- ---- definitions

entries_one : (bytes : List ℕ) (xs ys : List (List ℕ)) → definition_of bytes ≡ Ok xs → definition_of bytes ≡ Ok ys → xs ≡ ys
entries_one bytes xs ys a b = let ok : ◌≡◌ {A = Result (List (List ℕ)) OpFault} (Ok xs) (Ok ys) = sym a ∙ b in cc

not_readable : (bytes : List ℕ) (xs : List (List ℕ)) (f : OpFault) → definition_of bytes ≡ Ok xs → definition_of bytes ≡ Err f → ⊥
not_readable bytes xs f a b = let x : ◌≡◌ {A = Result (List (List ℕ)) OpFault} (Ok xs) (Err f) = sym a ∙ b in cc

pub one_answer_in : (bytes : List ℕ) → HasOneAnswerIn bytes
one_answer_in bytes = record {
  graphs = λ g h a b. (one_answer (rows_from a.0)).graphs g h a.2
      (subst (λ (es : List (List ℕ)). IsGraphOf (rows_from es) h) (entries_one bytes b.0 a.0 b.1 a.1) b.2);
  refusals = λ e f r t. elim r [
    | inl a ↦ elim t [
      | inl b ↦ (let err : ◌≡◌ {A = Result (List (List ℕ)) OpFault} (Err a.0) (Err b.0) = sym a.1 ∙ b.1 in let same : a.0 ≡ b.0 = cc in a.2
          ∙ ap (λ (f : OpFault). Definition f) same ∙ sym b.2)
      | inr b ↦ absurd (not_readable bytes b.0 a.0 b.1 a.1)
    ]
    | inr a ↦ elim t [
      | inl b ↦ absurd (not_readable bytes a.0 b.0 a.1 b.1)
      | inr b ↦ (one_answer (rows_from a.0)).refusals e f a.2
          (subst (λ (es : List (List ℕ)). IsRefusalOf (rows_from es) f) (entries_one bytes b.0 a.0 b.1 a.1) b.2)
    ]
  ];
  apart = λ g e a r. elim r [
    | inl b ↦ not_readable bytes a.0 b.0 a.1 b.1
    | inr b ↦ (one_answer (rows_from a.0)).apart g e a.2 (subst (λ (es : List (List ℕ)). IsRefusalOf (rows_from es) e) (entries_one bytes b.0 a.0 b.1 a.1) b.2)
  ];
}
