-- From what the checks find among the marked rows to the refusals of the plan.
use Rattle.std.proofs.Common.{◌≡◌, ◌≢◌, ℕ, ◌<◌, ◌≤◌, Bool, false, cond, eqb, List, [], ◌⊎◌, ◌↔◌, inl, inr, Option, Some, None, length}
use Rattle.std.proofs.Common.{get_or, map, refl, sym, ◌∙◌, ap, subst, arith, pos}
use Rattle.std.proofs.lemmas.Bool.{cases_eq, cases_lt, cases_Bool, eq-eqb, ne_eqb}
use Rattle.std.proofs.lemmas.List.{get_or-map}
use Rattle.std.specs.Option.{unwrap_or}
use Rattle.llb_ops.specs.declared.op.Op.{Op}
use Rattle.llb_ops.specs.declared.op.Input.{Input}
use Rattle.llb_loader.specs.declared.row.Row.{Row}
use Rattle.llb_loader.specs.declared.fault.LoadFault.{LoadFault}
use Rattle.llb_loader.specs.ReachedRows.{inputs}
use Rattle.llb_loader.specs.WaitingRows.{IsMarked}
use Rattle.llb_loader.specs.RowLookup.{row_named, terminal_in}
use Rattle.llb_loader.specs.Rules.{IsBelow, output_count}
use Rattle.llb_loader.specs.GraphOfRows.{op_at, input_at, Plan, plan, links_in, input_row, ReachedRow, HasInput, outputs_there, IsBadIndex}
use Rattle.llb_loader.specs.GraphOfRows.{Foremost, HasResult, IsStarted, IsNamed, IsOrdered, IsSupported, IsValid, start_in, IsPlanOf, Refuses}
use Rattle.llb_loader.specs.GraphOfRows.{Refused}
use Rattle.llb_loader.specs.ReachedRowChecks.{NamesAll, RefusesUnknown, RefusesFeature, RefusesRule, RefusesIndex, FitsAll, FirstBad, asked_of, count_there}
use Rattle.llb_loader.proofs.InputRowPlaces.{named_below, in_range, graph_at, row_below, NamedAt, named_at}

-- ---- the rows of a plan

-- the result's row is one of the rows, as an input names it
pub started_below : (p : Plan) → IsStarted p → p.start < length p.rows
started_below p s = named_below p.rows p.terminal (input_at (op_at p.ops p.terminal) 0).digest p.start s.start

-- each reached row is one of the rows
pub reached_in : (p : Plan) → IsStarted p → (k : ℕ) → ReachedRow p k → k < length p.rows
reached_in p s k r = row_below (links_in p) (length p.rows) p.start k (in_range p.rows p.terminal p.ops) (started_below p s) r

-- where no input is unknown, each input of a reached row names a row
pub input_named : (p : Plan) → IsNamed p → (k i : ℕ) → HasInput p k i → input_row p k i ≢ None
input_named p n k i h e = n.named k i (record { input = h; unknown = e })

pub first_named : (p : Plan) → IsStarted p → input_row p p.terminal 0 ≢ None
first_named p s e = let x : None ≡ Some p.start = sym e ∙ s.start in cc

-- ---- the plan of rows and ops

-- the terminal that was found, and the row that its first input names, make the plan of the rows
pub planned : (rows : List Row) (ops : List Op) (t s : ℕ) → t ≡ terminal_in rows
    → row_named rows t (input_at (op_at ops t) 0).digest ≡ Some s → IsPlanOf rows ops (plan rows ops t s)
planned rows ops t s terminal found =
    let start : s ≡ start_in rows ops =
    ap (λ (o : Option ℕ). unwrap_or o 0) (sym found) ∙ ap (λ (x : ℕ). unwrap_or (row_named rows x (input_at (op_at ops x) 0).digest) 0) terminal in
    record { same = ap (λ (x : ℕ). plan rows ops x s) terminal ∙ ap (λ (y : ℕ). plan rows ops (terminal_in rows) y) start }

-- where the terminal's first input names nothing, the plan of the rows has 0 in the place of the result's row
pub unplanned : (rows : List Row) (ops : List Op) (t : ℕ) → t ≡ terminal_in rows
    → row_named rows t (input_at (op_at ops t) 0).digest ≡ None → IsPlanOf rows ops (plan rows ops t 0)
unplanned rows ops t terminal none =
    let start : 0 ≡ start_in rows ops =
    ap (λ (o : Option ℕ). unwrap_or o 0) (sym none) ∙ ap (λ (x : ℕ). unwrap_or (row_named rows x (input_at (op_at ops x) 0).digest) 0) terminal in
    record { same = ap (λ (x : ℕ). plan rows ops x 0) terminal ∙ ap (λ (y : ℕ). plan rows ops (terminal_in rows) y) start }

-- what refuses the plan of the rows refuses the rows
pub refused_by : (rows : List Row) (ops : List Op) (p : Plan) (e : LoadFault) → IsPlanOf rows ops p → Refuses p e → Refused rows ops e
refused_by rows ops p e of r = subst (λ (q : Plan). Refuses q e) of.same r

-- ---- the first refusals

-- where the marked rows are the reached ones, the first input of theirs that names no row refuses the plan
pub refuses_unknown : (p : Plan) (Marked : ℕ → Type 0) → IsStarted p
    → ((k : ℕ) → Marked k ↔ ReachedRow p k) → (e : LoadFault) → RefusesUnknown p.rows p.terminal p.ops Marked e → Refuses p e
refuses_unknown p Marked started exact e (k, i, same, marked, first, before) =
    subst (λ (x : LoadFault). Refuses p x) (sym same) (inr (
      started,
      record {
        holds = record { input = record { reached = (exact k).0 marked; here = first.here }; unknown = first.unknown };
        least = λ j h u. elim (cases_lt k j) [
          | inl l ↦ inl l
          | inr g ↦ elim (cases_eq j k) [
            | inl q ↦ inr (
              sym q,
              (elim (cases_lt h i) [
                | inl l ↦ absurd (first.before h l (subst (λ (n : ℕ). row_named p.rows p.terminal (input_at (op_at p.ops n) h).digest ≡ None) q u.unknown))
                | inr m ↦ m
              ]),
            )
            | inr n ↦ absurd (before j (let l : j < k = omega (arith, g, n) in l) ((exact j).1 u.input.reached) h u.input.here u.unknown)
          ]
        ];
      },
    ))

-- where the inputs of each marked row name rows, those of each reached one do
pub all_named : (p : Plan) (Marked : ℕ → Type 0) → IsStarted p
    → ((k : ℕ) → Marked k ↔ ReachedRow p k) → ((k : ℕ) → Marked k → NamesAll p.rows p.terminal (op_at p.ops k) (length (op_at p.ops k).inputs))
    → IsNamed p
all_named p Marked started exact named = record {
  started = started;
  named = λ k i u. named k ((exact k).1 u.input.reached) i u.input.here u.unknown;
}

-- where the marked rows are the reached ones, the first of them that has a feature refuses the plan
pub refuses_feature : (p : Plan) (order : List ℕ) (Marked : ℕ → Type 0) → IsOrdered p order
    → ((k : ℕ) → Marked k ↔ ReachedRow p k) → (e : LoadFault) → RefusesFeature p.ops Marked e → Refuses p e
refuses_feature p order Marked ordered exact e (k, f, same, marked, feature, before) =
    subst (λ (x : LoadFault). Refuses p x) (sym same) (
      order,
      ordered,
      record {
        reached = (exact k).0 marked;
        feature = feature;
        least = λ j l r. before j l ((exact j).1 r);
      },
    )

-- where the marked rows are the reached ones, the first of them that breaks a rule refuses the plan
pub refuses_rule : (p : Plan) (order : List ℕ) (Marked : ℕ → Type 0) → IsSupported p order
    → ((k : ℕ) → Marked k ↔ ReachedRow p k) → (e : LoadFault) → RefusesRule p.ops Marked e → Refuses p e
refuses_rule p order Marked taken exact e (k, r, same, marked, broken, before) =
    subst (λ (x : LoadFault). Refuses p x) (sym same) (
      order,
      taken,
      record {
        reached = (exact k).0 marked;
        broken = broken;
        least = λ j l q. before j l ((exact j).1 q);
      },
    )

-- ---- the inputs that are looked at

terminal_asked : (k t i : ℕ) → i < cond (eqb k t) 1 0 → (k ≡ t) × (i ≡ 0)
terminal_asked k t i l = elim (cases_eq k t) [
  | inl e ↦ (e, (let m = subst (λ (b : Bool). i < cond b 1 0) (eq-eqb k t e) l in omega (arith, m)))
  | inr n ↦ absurd (let m = subst (λ (b : Bool). i < cond b 1 0) (ne_eqb k t n) l in omega (arith, m))
]

-- an input is looked at where it is a reached row's, or the terminal's first
module _ (p : Plan) (seen : List Bool) (exact : (k : ℕ) → IsMarked seen k ↔ ReachedRow p k) where
  pub asked_cases : (k i : ℕ) → i < asked_of p.ops seen p.terminal k → HasInput p k i ⊎ ((k ≡ p.terminal) × (i ≡ 0))
  asked_cases k i l = elim (cases_Bool (get_or seen k false)) [
    | inl m ↦ inl (record {
      reached = (exact k).0 m;
      here = subst (λ (b : Bool). i < cond b (length (op_at p.ops k).inputs) (cond (eqb k p.terminal) 1 0)) m l;
    })
    | inr m ↦ inr (terminal_asked k p.terminal i (subst (λ (b : Bool). i < cond b (length (op_at p.ops k).inputs) (cond (eqb k p.terminal) 1 0)) m l))
  ]

  pub asked_from : HasResult p → (k i : ℕ) → HasInput p k i ⊎ ((k ≡ p.terminal) × (i ≡ 0)) → i < asked_of p.ops seen p.terminal k
  asked_from r k i (inl h) = subst (λ (b : Bool). i < cond b (length (op_at p.ops k).inputs) (cond (eqb k p.terminal) 1 0)) (sym ((exact k).1 h.reached)) h.here
  asked_from r k i (inr q) = elim (cases_Bool (get_or seen k false)) [
    | inl m ↦ subst (λ (b : Bool). i < cond b (length (op_at p.ops k).inputs) (cond (eqb k p.terminal) 1 0)) (sym m)
        (let h = r.input in let e : length (op_at p.ops k).inputs ≡ length (op_at p.ops p.terminal).inputs =
        ap (λ (n : ℕ). length (op_at p.ops n).inputs) q.0 in let z = q.1 in omega (arith, h, e, z))
    | inr m ↦ subst (λ (b : Bool). i < cond b (length (op_at p.ops k).inputs) (cond (eqb k p.terminal) 1 0)) (sym m)
        (subst (λ (b : Bool). i < cond b 1 0) (sym (eq-eqb k p.terminal q.0)) (let z = q.1 in omega (arith, z)))
  ]

  pub asked_named : IsNamed p → (k i : ℕ) → i < asked_of p.ops seen p.terminal k → input_row p k i ≢ None
  asked_named n k i l = elim (asked_cases k i l) [
    | inl h ↦ input_named p n k i h
    | inr q ↦ λ e. first_named p n.started (sym (ap (λ (a : ℕ). input_row p a 0) q.0) ∙ sym (ap (λ (b : ℕ). input_row p k b) q.1) ∙ e)
  ]

  pub asked_there : HasResult p → (k : ℕ) → asked_of p.ops seen p.terminal k ≤ length (op_at p.ops k).inputs
  asked_there r k = elim (cases_lt (length (op_at p.ops k).inputs) (asked_of p.ops seen p.terminal k)) [
    | inr g ↦ g
    | inl l ↦ elim (asked_cases k (length (op_at p.ops k).inputs) l) [
      | inl h ↦ absurd (let x = h.here in omega (arith, x))
      | inr q ↦ absurd (let x = r.input in let e : length (op_at p.ops k).inputs ≡ length (op_at p.ops p.terminal).inputs =
          ap (λ (n : ℕ). length (op_at p.ops n).inputs) q.0 in let z = q.1 in omega (arith, x, e, z))
    ]
  ]

  named_places : IsNamed p → (k : ℕ) → NamedAt (λ (i : Input). row_named p.rows p.terminal i.digest) (op_at p.ops k).inputs
      (record { digest = []; index = pos 0; extra = [] }) (asked_of p.ops seen p.terminal k)
  named_places n k = named_at (λ (i : Input). row_named p.rows p.terminal i.digest) (op_at p.ops k).inputs (record { digest = []; index = pos 0; extra = [] })
      (asked_of p.ops seen p.terminal k) (asked_there n.started.result k) (asked_named n k)

  -- each input that is looked at has its link in the graph
  pub asked_linked : IsNamed p → (k : ℕ) → asked_of p.ops seen p.terminal k ≤ length (inputs (links_in p) k)
  asked_linked n k = subst (λ (xs : List ℕ). asked_of p.ops seen p.terminal k ≤ length xs) (sym (graph_at p.rows p.terminal p.ops k)) (named_places n k).0

  pub linked_row : IsNamed p → (k i : ℕ) → i < asked_of p.ops seen p.terminal k → get_or (inputs (links_in p) k) i 0 ≡ unwrap_or (input_row p k i) 0
  linked_row n k i l = ap (λ (xs : List ℕ). get_or xs i 0) (graph_at p.rows p.terminal p.ops k) ∙ (named_places n k).1 i l

  row_under : (o : Option ℕ) → o ≢ None → ((b : ℕ) → o ≡ Some b → b < length p.rows) → unwrap_or o 0 < length p.rows
  row_under None f h = absurd (f refl)
  row_under (Some b) f h = h b refl

  pub count_is : IsNamed p → length p.ops ≡ length p.rows → (k i : ℕ) → i < asked_of p.ops seen p.terminal k
      → count_there (map output_count p.ops) (inputs (links_in p) k) i ≡ outputs_there p k i
  count_is n len k i l =
      let b : unwrap_or (input_row p k i) 0 < length p.rows = row_under (input_row p k i) (asked_named n k i l)
      (λ b e. named_below p.rows p.terminal (input_at (op_at p.ops k) i).digest b e) in
      ap (λ (r : ℕ). get_or (map output_count p.ops) r 0) (linked_row n k i l)
      ∙ get_or-map output_count p.ops (unwrap_or (input_row p k i) 0) (record { inputs = []; kind = None; extra = [] }) 0 (let m = len in omega (arith, b, m))

  -- where the indexes of all rows passed their test, no input asks for an output that isn't there
  pub indexes_fit : IsNamed p → length p.ops ≡ length p.rows
      → ((k : ℕ) → k < length p.ops → FitsAll (map output_count p.ops) (inputs (links_in p) k) (op_at p.ops k) (asked_of p.ops seen p.terminal k))
      → (k i : ℕ) → ¬ IsBadIndex p k i
  indexes_fit n len fits k i b =
      let l = asked_from n.started.result k i b.asked in
      let h : k < length p.ops = elim b.asked [
        | inl x ↦ (let y = reached_in p n.started k x.reached in omega (arith, y, len))
        | inr q ↦ (let y = n.started.result.terminal.holds.0 in let z = q.0 in omega (arith, y, len, z))
      ] in
      b.bad (subst (λ (m : ℕ). IsBelow m (input_at (op_at p.ops k) i).index) (count_is n len k i l) (fits k h i l))

  pub bad_index : IsNamed p → length p.ops ≡ length p.rows → (k i : ℕ)
      → FirstBad (map output_count p.ops) (inputs (links_in p) k) (op_at p.ops k) (asked_of p.ops seen p.terminal k) i → IsBadIndex p k i
  bad_index n len k i f = record {
    asked = asked_cases k i f.here;
    bad = λ b. f.bad (subst (λ (m : ℕ). IsBelow m (input_at (op_at p.ops k) i).index) (sym (count_is n len k i f.here)) b);
  }

  pub fits_not_bad : IsNamed p → length p.ops ≡ length p.rows → (j h : ℕ)
      → IsBelow (count_there (map output_count p.ops) (inputs (links_in p) j) h) (input_at (op_at p.ops j) h).index
      → h < asked_of p.ops seen p.terminal j → ¬ IsBadIndex p j h
  fits_not_bad n len j h f l b = b.bad (subst (λ (m : ℕ). IsBelow m (input_at (op_at p.ops j) h).index) (count_is n len j h l) f)

  pub foremost_bad : IsNamed p → length p.ops ≡ length p.rows → (k i : ℕ)
      → FirstBad (map output_count p.ops) (inputs (links_in p) k) (op_at p.ops k) (asked_of p.ops seen p.terminal k) i
      → ((j : ℕ) → j < k → FitsAll (map output_count p.ops) (inputs (links_in p) j) (op_at p.ops j) (asked_of p.ops seen p.terminal j))
      → Foremost (IsBadIndex p) k i
  foremost_bad n len k i f before = record {
    holds = bad_index n len k i f;
    least = λ j h b.
        let l = asked_from n.started.result j h b.asked in
        elim (cases_lt k j) [
          | inl x ↦ inl x
          | inr g ↦ elim (cases_eq j k) [
            | inl q ↦ inr (
              sym q,
              (elim (cases_lt h i) [
                | inl m ↦ absurd (fits_not_bad n len j h
                    (subst (λ (a : ℕ). IsBelow (count_there (map output_count p.ops) (inputs (links_in p) a) h)
                    (input_at (op_at p.ops a) h).index) (sym q) (f.before h m)) l b)
                | inr m ↦ m
              ]),
            )
            | inr x ↦ absurd (fits_not_bad n len j h (before j (let y : j < k = omega (arith, g, x) in y) h l) l b)
          ]
        ];
  }

-- where the marked rows are the reached ones, the first input looked at that has the index of no output refuses the plan
pub refuses_index : (p : Plan) (order : List ℕ) (seen : List Bool) → IsValid p order
    → length p.ops ≡ length p.rows
    → ((k : ℕ) → IsMarked seen k ↔ ReachedRow p k) → (e : LoadFault)
    → RefusesIndex p.ops (links_in p) (map output_count p.ops) seen p.terminal e → Refuses p e
refuses_index p order seen valid len exact e (k, i, same, h, first, before) =
    subst (λ (x : LoadFault). Refuses p x) (sym same)
    (order, valid, foremost_bad p seen exact valid.supported.ordered.named len k i first before)
