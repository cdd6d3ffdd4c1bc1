-- The row of the result, the rows on which it depends, and their faults put together.
use Rattle.std.proofs.Common.{◌≡◌, ◌↔◌, inl, inr, ℕ, ◌<◌, Bool, true, false, cond, eqb, IsTrue, List, [], ◌∷◌, ◌++◌, length, get_or, replicate}
use Rattle.std.proofs.Common.{Option, Some, None, refl, sym, ◌∙◌, ap, subst, arith, append-nil}
use Rattle.std.specs.Prelude.{◌&&◌}
use Rattle.std.specs.Option.{unwrap_or, IfSome, IfNone}
use Rattle.std.specs.Global.{Vec}
use Rattle.std.proofs.lemmas.Bool.{cases_eq, cases_lt, eq-eqb, ne_eqb}
use Rattle.std.proofs.lemmas.List.{length-replicate, get_or-replicate, get_or_past}
use Rattle.llb_ops.specs.declared.op.Op.{Op}
use Rattle.llb_ops.specs.declared.op.Input.{Input}
use Rattle.llb_loader.specs.declared.row.Row.{Row}
use Rattle.llb_loader.specs.declared.fault.LoadFault.{LoadFault}
use Rattle.llb_loader.specs.declared.fault.LoadFault.TheVariants.{NoResult, Cycle}
use Rattle.llb_loader.specs.ReachedRows.{lists, Reached}
use Rattle.llb_loader.specs.Numbering.{IsNumbering, HasCycle, rank_in}
use Rattle.llb_loader.specs.WaitingRows.{IsMarked}
use Rattle.llb_loader.specs.RowLookup.{IsTerminal, terminal_in, row_named, graph_of}
use Rattle.llb_loader.specs.GraphOfRows.{op_at, input_at, input_row, links_in, IsStarted}
use Rattle.llb_findings.specs.Findings.{ops_in, plan_for, IsFaultIn, unknown_digests, unsupported, invalid, bad_indexes, linked_faults}
use Rattle.llb_findings.specs.FindingSteps.{AreReadMarks, AreReached, HasTerminal, start_by, start_for}
use Rattle.llb_findings.specs.Selections.{Adds}
use Rattle.llb_findings.proofs.OpsAndRules.{ops_len}
use Rattle.llb_findings.proofs.SelectionParts.{one_not, one_here, adds_both, adds_if}
use Rattle.llb_loader.proofs.OpAndInputReads.{op_read}
use Rattle.llb_loader.proofs.RefusalsOfRows.{graph_len}
use Rattle.llb_loader.proofs.UniqueNumbering.{numbering_down}

all_false : (n k : ℕ) → get_or (replicate n false) k false ≡ false
all_false n k = elim (cases_lt k n) [
  | inl l ↦ get_or-replicate n k false false l
  | inr g ↦ get_or_past (replicate n false) k false (let l = length-replicate n false in omega (arith, g, l))
]

module _ (rows : List Row) (t : ℕ) (has' : HasTerminal rows t) where
  pub started : (s : ℕ) → start_for rows ≡ Some s → IsStarted (plan_for rows) × ((plan_for rows).start ≡ s)
  started s h = elim (cases_eq (length (op_at (ops_in rows) (terminal_in rows)).inputs) 0) [
    | inl z ↦ absurd (let x : ◌≡◌ {A = Option ℕ} None (Some s) = sym (ap (λ (b : Bool). cond b None (row_named rows (terminal_in rows)
        (input_at (op_at (ops_in rows) (terminal_in rows)) 0).digest)) (eq-eqb (length (op_at (ops_in rows) (terminal_in rows)).inputs) 0 z)) ∙ h in cc)
    | inr n ↦ (
        let e : input_row (plan_for rows) (terminal_in rows) 0 ≡ Some s = sym (ap (λ (b : Bool). cond b None (row_named rows (terminal_in rows)
        (input_at (op_at (ops_in rows) (terminal_in rows)) 0).digest)) (ne_eqb (length (op_at (ops_in rows) (terminal_in rows)).inputs) 0 n)) ∙ h in
        let same : (plan_for rows).start ≡ s = ap (λ (o : Option ℕ). unwrap_or o 0) e in (
          record {
            result = record {
              apart = has'.apart;
              terminal = subst (λ (k : ℕ). IsTerminal rows k) has'.same has'.last;
              input = omega (arith, n);
            };
            start = e ∙ sym (ap (λ (k : ℕ). Some k) same);
          },
          same,
        ))
  ]

  pub unstarted : start_for rows ≡ None → ¬ IsStarted (plan_for rows)
  unstarted h s = elim (cases_eq (length (op_at (ops_in rows) (terminal_in rows)).inputs) 0) [
    | inl z ↦ (let i = s.result.input in omega (arith, i, z))
    | inr n ↦ (
        let e : input_row (plan_for rows) (terminal_in rows) 0 ≡ None = sym (ap (λ (b : Bool). cond b None (row_named rows (terminal_in rows)
        (input_at (op_at (ops_in rows) (terminal_in rows)) 0).digest)) (ne_eqb (length (op_at (ops_in rows) (terminal_in rows)).inputs) 0 n)) ∙ h in
        let x : ◌≡◌ {A = Option ℕ} None (Some (plan_for rows).start) = sym e ∙ s.start in cc)
  ]

  -- there is no row of the result
  pub none_seen : (start : Option ℕ) (seen : List Bool) → start ≡ start_for rows → start ≡ None → seen ≡ replicate (length rows) false → AreReached rows seen
  none_seen start seen same none e = record {
    len = ap (λ (xs : List Bool). length xs) e ∙ length-replicate (length rows) false;
    exact = λ k. (
      λ m. absurd (let x : get_or seen k false ≡ false = ap (λ (xs : List Bool). get_or xs k false) e ∙ all_false (length rows) k in
          let z : true ≡ false = sym m ∙ x in cc),
      λ s. absurd (unstarted (sym same ∙ none) s.0),
    );
  }

  -- the marks of the rows that are reached from the row of the result
  pub all_seen : (start : Option ℕ) (s : ℕ) (links : List (Vec ℕ)) (seen : List Bool) → start ≡ start_for rows → start ≡ Some s
      → lists links ≡ links_in (plan_for rows) → length seen ≡ length links
      → ((k : ℕ) → IsMarked seen k ↔ Reached (lists links) s k) → AreReached rows seen
  all_seen start s links seen same is links_are len exact =
      let st = started s (sym same ∙ is) in
      record {
        len = len ∙ graph_len rows (ops_in rows) (terminal_in rows) links (ops_len rows) links_are;
        exact = λ k. (
          λ m. (
            st.0,
            subst (λ (a : ℕ). Reached (links_in (plan_for rows)) a k) (sym st.1)
                (subst (λ (g : List (List ℕ)). Reached g s k) links_are ((exact k).0 m)),
          ),
          λ r. (exact k).1 (subst (λ (g : List (List ℕ)). Reached g s k) (sym links_are)
              (subst (λ (a : ℕ). Reached (links_in (plan_for rows)) a k) st.1 r.1)),
        );
      }

  -- the marked rows are the reached ones, stated for the links that the numbering uses
  pub seen_exact : (s : ℕ) (links : List (Vec ℕ)) (seen : List Bool) → start_for rows ≡ Some s → lists links ≡ links_in (plan_for rows)
      → AreReached rows seen → (k : ℕ) → IsMarked seen k ↔ Reached (lists links) s k
  seen_exact s links seen is links_are are k =
      let st = started s is in (
        λ m. subst (λ (g : List (List ℕ)). Reached g s k) (sym links_are)
            (subst (λ (a : ℕ). Reached (links_in (plan_for rows)) a k) st.1 ((are.exact k).0 m).1),
        λ r. (are.exact k).1 (
          st.0,
          subst (λ (a : ℕ). Reached (links_in (plan_for rows)) a k) (sym st.1)
              (subst (λ (g : List (List ℕ)). Reached g s k) links_are r),
        ),
      )

  pub cycle_found : (s : ℕ) (links : List (Vec ℕ)) (answer : Option (Vec ℕ)) (before after : List LoadFault) → start_for rows ≡ Some s
      → lists links ≡ links_in (plan_for rows) → answer ≡ None → IfNone answer (HasCycle (lists links) s) → after ≡ before ++ Cycle ∷ []
      → Adds (IsFaultIn (plan_for rows)) (Cycle ∷ []) before after
  cycle_found s links answer before after is links_are none h e =
      let st = started s is in (
        Cycle ∷ [],
        e,
        one_here (IsFaultIn (plan_for rows)) Cycle (
          st.0,
          subst (λ (a : ℕ). HasCycle (links_in (plan_for rows)) a) (sym st.1)
              (subst (λ (g : List (List ℕ)). HasCycle g s) links_are (subst (λ (o : Option (Vec ℕ)). IfNone o (HasCycle (lists links) s)) none h)),
        ),
      )

  pub cycle_not : (s : ℕ) (links : List (Vec ℕ)) (answer : Option (Vec ℕ)) (order : Vec ℕ) (before : List LoadFault) → start_for rows ≡ Some s
      → lists links ≡ links_in (plan_for rows) → answer ≡ Some order → IfSome answer (λ o. IsNumbering (lists links) s o.items)
      → Adds (IsFaultIn (plan_for rows)) (Cycle ∷ []) before before
  cycle_not s links answer order before is links_are some h =
      let st = started s is in
      let n : IsNumbering (links_in (plan_for rows)) (plan_for rows).start order.items = subst (λ (a : ℕ). IsNumbering (links_in (plan_for rows)) a
      order.items) (sym st.1)
      (subst (λ (g : List (List ℕ)). IsNumbering g s order.items) links_are
      (subst (λ (o : Option (Vec ℕ)). IfSome o (λ v. IsNumbering (lists links) s v.items)) some h)) in (
        [],
        sym (append-nil before),
        one_not (IsFaultIn (plan_for rows)) Cycle (λ c. c.1 (rank_in order.items)
            (numbering_down (links_in (plan_for rows)) (plan_for rows).start order.items n)),
      )

  pub cycle_unasked : (start : Option ℕ) (before : List LoadFault) → start ≡ start_for rows → start ≡ None
      → Adds (IsFaultIn (plan_for rows)) (Cycle ∷ []) before before
  cycle_unasked start before same none = ([], sym (append-nil before), one_not (IsFaultIn (plan_for rows)) Cycle (λ c. unstarted (sym same ∙ none) c.0))

  no_inputs : (xs : List Input) → IsTrue (eqb (length xs) 0) → xs ≡ []
  no_inputs [] h = refl
  no_inputs (x ∷ xs) h = absurd (let z : true ≡ false = sym h ∙ ne_eqb (length (x ∷ xs)) 0 (omega arith) in cc)

  result_is : (marks : List Bool) (b : Bool) → AreReadMarks rows marks → get_or marks (terminal_in rows) false ≡ b
      → IsTrue (b && eqb (length (op_at (ops_in rows) (terminal_in rows)).inputs) 0) ↔ IsFaultIn (plan_for rows) NoResult
  result_is marks true are at = (
    λ h. (
      has'.apart,
      (are.exact (terminal_in rows) (subst (λ (k : ℕ). k < length rows) has'.same has'.last.holds.0)).0 at,
      no_inputs (op_at (ops_in rows)
          (terminal_in rows)).inputs h,
    ),
    λ s. eq-eqb (length (op_at (ops_in rows) (terminal_in rows)).inputs) 0 (ap (λ (xs : List Input). length xs) s.2),
  )
  result_is marks false are at = (
    λ h. absurd (let z : false ≡ true = h in cc),
    λ s. absurd (let m = (are.exact (terminal_in rows) (subst (λ (k : ℕ). k < length rows) has'.same has'.last.holds.0)).1 s.1 in
        let z : true ≡ false = sym m ∙ at in cc),
  )

  -- the first of the linked faults is added if the terminal was read, and has no input
  pub result_row : (marks : List Bool) (op : Op) (before after : List LoadFault) → AreReadMarks rows marks
      → op_at (ops_in rows) (terminal_in rows) ≡ op
      → after ≡ before ++ cond (get_or marks t false && eqb (length op.inputs) 0) (NoResult ∷ []) []
      → Adds (IsFaultIn (plan_for rows)) (NoResult ∷ []) before after
  result_row marks op before after are at e =
      adds_if (IsFaultIn (plan_for rows)) NoResult (get_or marks t false && eqb (length (op_at (ops_in rows) (terminal_in rows)).inputs) 0) before after
      (result_is marks (get_or marks t false) are (ap (λ (k : ℕ). get_or marks k false) (sym has'.same)))
      (e ∙ ap (λ (o : Op). before ++ cond (get_or marks t false && eqb (length o.inputs) 0) (NoResult ∷ []) []) (sym at))

-- what is read at the terminal's place is its op
pub terminal_op : (rows : List Row) (t : ℕ) (ops : List Op) (op : Op) → t < length ops → op ≡ get_or ops t op → ops ≡ ops_in rows → t ≡ terminal_in rows
    → op_at (ops_in rows) (terminal_in rows) ≡ op
terminal_op rows t ops op l is same at =
    ap (λ (k : ℕ). op_at (ops_in rows) k) (sym at) ∙ ap (λ (os : List Op). op_at os t) (sym same) ∙ op_read ops t op l is

pub links_here : (rows : List Row) (t : ℕ) (ops : List Op) (named links : List (Vec ℕ)) → named ≡ links → lists links ≡ graph_of rows t ops
    → ops ≡ ops_in rows → t ≡ terminal_in rows → lists named ≡ links_in (plan_for rows)
links_here rows t ops named links is are same at =
    ap (λ (xs : List (Vec ℕ)). lists xs) is ∙ are ∙ ap (λ (k : ℕ). graph_of rows k ops) at
    ∙ ap (λ (os : List Op). graph_of rows (terminal_in rows) os) same

pub start_here : (rows : List Row) (t : ℕ) (op : Op) (start : Option ℕ) → start ≡ start_by rows t op → t ≡ terminal_in rows
    → op_at (ops_in rows) (terminal_in rows) ≡ op → start ≡ start_for rows
start_here rows t op start is at read =
    is ∙ ap (λ (k : ℕ). start_by rows k op) at ∙ ap (λ (o : Op). start_by rows (terminal_in rows) o) (sym read)

pub linked_parts : (rows : List Row) (a b d e f g h : List LoadFault) → Adds (IsFaultIn (plan_for rows)) (NoResult ∷ []) a b
    → Adds (IsFaultIn (plan_for rows)) (unknown_digests (plan_for rows)) b d → Adds (IsFaultIn (plan_for rows)) (Cycle ∷ []) d e
    → Adds (IsFaultIn (plan_for rows)) (unsupported (plan_for rows)) e f → Adds (IsFaultIn (plan_for rows)) (invalid (plan_for rows)) f g
    → Adds (IsFaultIn (plan_for rows)) (bad_indexes (plan_for rows)) g h → Adds (IsFaultIn (plan_for rows)) (linked_faults (plan_for rows)) a h
unfolding linked_faults
linked_parts rows a b d e f g h u v w x y z =
    let p = plan_for rows in
    adds_both (IsFaultIn p) (NoResult ∷ []) _ a b h u (adds_both (IsFaultIn p) (unknown_digests p) _ b d h v (adds_both (IsFaultIn p) (Cycle ∷ []) _ d e h w
    (adds_both (IsFaultIn p) (unsupported p) _ e f h x (adds_both (IsFaultIn p) (invalid p) (bad_indexes p) f g h y z))))
