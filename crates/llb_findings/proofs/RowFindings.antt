-- The faults of rows, row by row.
use Rattle.std.proofs.Common.{◌≡◌, ◌↔◌, ℕ, ◌<◌, ◌+◌, Bool, true, false, cond, IsTrue, List, [], ◌∷◌, ◌++◌, map, length, get_or, refl, sym, ◌∙◌, ap, subst}
use Rattle.std.proofs.Common.{arith}
use Rattle.std.proofs.Common.{eqb, inl, inr, ℤ, pos, negsuc, Option, Some, None}
use Rattle.std.proofs.Common.{Result, Ok, Err}
use Rattle.std.specs.Prelude.{not, ◌&&◌, IsOk}
use Rattle.llb_ops.specs.declared.fault.OpFault.{OpFault}
use Rattle.llb_ops.specs.Messages.{op_of}
use Rattle.llb_loader.specs.WaitingRows.{IsMarked}
use Rattle.std.specs.Option.{is_some}
use Rattle.std.specs.List.{filter}
use Rattle.std.proofs.lemmas.Bool.{cases_eq, cases_lt, eq-eqb, ne_eqb, lt-ltb, le-ltb}
use Rattle.llb_ops.specs.declared.op.Op.{Op}
use Rattle.llb_loader.specs.declared.row.Row.{Row}
use Rattle.llb_loader.specs.declared.fault.LoadFault.{LoadFault}
use Rattle.llb_loader.specs.declared.fault.LoadFault.TheVariants.{Entry, Collision, UnknownDigest, BadIndex, Unsupported, Invalid}
use Rattle.llb_loader.specs.Features.{has, features}
use Rattle.llb_loader.specs.GraphOfRows.{op_at, input_at, HasResult}
use Rattle.llb_loader.specs.RowLookup.{IsTerminal, terminal_in, row_named}
use Rattle.llb_findings.specs.Findings.{op_or_none, fault_or_none, ops_in, plan_for, reading_at, entry_at, entry_faults, IsAsked, IsBroken}
use Rattle.llb_findings.specs.Findings.{IsCounted, IsFaultIn}
use Rattle.llb_findings.specs.Findings.{bad_indexes, collisions, unknown_digests, unsupported, invalid}
use Rattle.llb_findings.specs.FindingSteps.{AreReadMarks, AreReached, HasTerminal, AddsRules, unread, feature_faults, features_at, rules_at, unknown_at}
use Rattle.llb_findings.specs.FindingSteps.{asked_by, unknown_by}
use Rattle.llb_findings.specs.FindingSteps.{IsCount, AreCounts, is_out, is_out_at, index_by, indexes_at}
use Rattle.llb_loader.specs.Rules.{IsBelow, rules_on, output_count}
use Rattle.llb_loader.proofs.FirstRowOfDigest.{below_step, row_read}
use Rattle.llb_loader.proofs.InputRowPlaces.{named_below}
use Rattle.llb_loader.proofs.OutputNumbers.{below_at}
use Rattle.std.proofs.lemmas.Int.{ints}
use Rattle.std.proofs.lemmas.List.{get_or_append_left, get_or_push, get_or_default, same_lists}
use Rattle.llb_findings.specs.Selections.{AreThose, Adds, joined_below}
use Rattle.llb_loader.proofs.OpAndInputReads.{op_read}
use Rattle.llb_findings.proofs.OpsAndRules.{ops_len, op_here, reading_is}
use Rattle.llb_findings.proofs.SelectionParts.{none_map, those_map, those_map_filter, those_joined_by, one_here, one_not}

-- the op that the code reads is the op of the row
row_op : (rows : List Row) (ops : List Op) (k : ℕ) (op : Op) → ops ≡ ops_in rows → k < length rows → op ≡ get_or ops k op → op_at (ops_in rows) k ≡ op
row_op rows ops k op same l e = ap (λ (os : List Op). op_at os k) (sym same)
    ∙ op_read ops k op (let n = ops_len rows in let m = ap (λ (os : List Op). length os) same in omega (arith, l, n, m)) e

feature_case : (rows : List Row) (seen : List Bool) (k : ℕ) (op : Op) (b : Bool) (before after : List LoadFault) → AreReached rows seen
    → op_at (ops_in rows) k ≡ op → get_or seen k false ≡ b
    → after ≡ before ++ cond b (feature_faults k op.kind) []
    → Adds (IsFaultIn (plan_for rows)) (features_at k) before after
unfolding feature_faults
feature_case rows seen k op true before after are read mark e =
    let r = (are.exact k).0 mark in (
      map (λ f. Unsupported k f) (filter (has op.kind) features),
      e,
      those_map_filter (IsFaultIn (plan_for rows)) (λ f. Unsupported k f) (has op.kind)
          (λ f h. (r.0, r.1, subst (λ (o : Op). has o.kind f ≡ true) (sym read) h))
          (λ f s. subst (λ (o : Op). has o.kind f ≡ true) read s.2) features,
    )
feature_case rows seen k op false before after are read mark e = (
  [],
  e,
  none_map (IsFaultIn (plan_for rows)) (λ f. Unsupported k f) features
      (λ f s. let m = (are.exact k).1 (s.0, s.1) in let z : true ≡ false = sym m ∙ mark in cc),
)

pub feature_row : (rows : List Row) (ops : List Op) (seen : List Bool) (k : ℕ) (op : Op) (before after : List LoadFault) → ops ≡ ops_in rows
    → AreReached rows seen → k < length rows → op ≡ get_or ops k op
    → after ≡ before ++ cond (get_or seen k false) (feature_faults k op.kind) []
    → Adds (IsFaultIn (plan_for rows)) (features_at k) before after
feature_row rows ops seen k op before after same are l e new =
    feature_case rows seen k op (get_or seen k false) before after are (row_op rows ops k op same l e) refl new

pub all_features : (rows : List Row) (n : ℕ) (before after : List LoadFault) → n ≡ length rows
    → Adds (IsFaultIn (plan_for rows)) (joined_below n features_at) before after → Adds (IsFaultIn (plan_for rows)) (unsupported (plan_for rows)) before after
unfolding unsupported
all_features rows n before after same h = subst (λ (m : ℕ). Adds (IsFaultIn (plan_for rows)) (joined_below m features_at) before after) same h

rule_case : (rows : List Row) (read seen : List Bool) (k : ℕ) (op : Op) (b r : Bool) (before after : List LoadFault) → AreReadMarks rows read
    → AreReached rows seen → k < length rows → op_at (ops_in rows) k ≡ op → get_or seen k false ≡ b → get_or read k false ≡ r
    → AddsRules k op b r before after → Adds (IsFaultIn (plan_for rows)) (rules_at rows k) before after
rule_case rows read seen k op true true before after marks are l at mark ok (broken, those, e) =
    let s = (are.exact k).0 mark in
    let p = plan_for rows in
    let here : AreThose (IsBroken (op_at p.ops k).inputs (op_at p.ops k).kind) (rules_on (op_at p.ops k).kind) broken =
    subst (λ (o : Op). AreThose (IsBroken o.inputs o.kind) (rules_on o.kind) broken) (sym at) those in (
      map (λ q. Invalid k q) broken,
      e,
      those_map (IsBroken (op_at p.ops k).inputs (op_at p.ops k).kind) (IsFaultIn p) (λ q. Invalid k q)
          (λ q. (λ h. (s.0, s.1, (marks.exact k l).0 ok, h), λ t. t.3)) (rules_on (op_at p.ops k).kind) broken here,
    )
rule_case rows read seen k op true false before after marks are l at mark ok e = (
  [],
  e,
  none_map (IsFaultIn (plan_for rows)) (λ q. Invalid k q) (rules_on (op_at (ops_in rows) k).kind)
      (λ q s. let m = (marks.exact k l).1 s.2 in let z : true ≡ false = sym m ∙ ok in cc),
)
rule_case rows read seen k op false r before after marks are l at mark ok e = (
  [],
  not_added k op r before after e,
  none_map (IsFaultIn (plan_for rows)) (λ q. Invalid k q) (rules_on (op_at (ops_in rows) k).kind)
      (λ q s. let m = (are.exact k).1 (s.0, s.1) in let z : true ≡ false = sym m ∙ mark in cc),
)
  where
    not_added : (k : ℕ) (op : Op) (r : Bool) (before after : List LoadFault) → AddsRules k op false r before after → after ≡ before ++ []
    not_added k op true before after e = e
    not_added k op false before after e = e

pub rule_row : (rows : List Row) (ops : List Op) (read seen : List Bool) (k : ℕ) (op : Op) (before after : List LoadFault) → ops ≡ ops_in rows
    → AreReadMarks rows read → AreReached rows seen → k < length rows → op ≡ get_or ops k op
    → AddsRules k op (get_or seen k false) (get_or read k false) before after → Adds (IsFaultIn (plan_for rows)) (rules_at rows k) before after
rule_row rows ops read seen k op before after same marks are l e new =
    rule_case rows read seen k op (get_or seen k false) (get_or read k false) before after marks are l (row_op rows ops k op same l e) refl refl new

pub all_rules : (rows : List Row) (n : ℕ) (before after : List LoadFault) → n ≡ length rows
    → Adds (IsFaultIn (plan_for rows)) (joined_below n (rules_at rows)) before after → Adds (IsFaultIn (plan_for rows)) (invalid (plan_for rows)) before after
unfolding invalid
all_rules rows n before after same h = subst (λ (m : ℕ). Adds (IsFaultIn (plan_for rows)) (joined_below m (rules_at rows)) before after) same h

-- ---- inputs that are looked at

and_none : (a : Bool) (o : Option ℕ) (P : Type 0) → IsTrue a ↔ P → IsTrue (a && not (is_some o)) ↔ (P × (o ≡ None))
and_none true None P h = (λ _. (h.0 refl, refl), λ _. refl)
and_none true (Some j) P h = (λ e. absurd (let x : false ≡ true = e in cc), λ q. absurd (let x : ◌≡◌ {A = Option ℕ} (Some j) None = q.1 in cc))
and_none false o P h = (λ e. absurd (let x : false ≡ true = e in cc), λ q. h.1 q.0)

-- ---- reading

pub reading_row : (rows : List Row) (k : ℕ) (row : Row) → k < length rows → row ≡ get_or rows k row → reading_at rows k ≡ op_of row.bytes
reading_row rows k row l e = reading_is rows k ∙ ap (λ (r : Row). op_of r.bytes) (row_read rows k row l e)

entry_case : (rows : List Row) (k : ℕ) (r : Result Op OpFault) (before after : List LoadFault) → k < length rows → reading_at rows k ≡ r
    → after ≡ before ++ unread k r → Adds (IsFaultIn (plan_for rows)) (entry_at rows k) before after
entry_case rows k (Ok op) before after l reads e = (
  [],
  e,
  one_not (IsFaultIn (plan_for rows)) (Entry k (fault_or_none (reading_at rows k)))
      (λ s. let x : ◌≡◌ {A = Result Op OpFault} (Ok op) (Err (fault_or_none (reading_at rows k))) = sym reads ∙ s.1 in cc),
)
entry_case rows k (Err f) before after l reads e =
    let same : fault_or_none (reading_at rows k) ≡ f = ap (λ (r : Result Op OpFault). fault_or_none r) reads in (
      Entry k (fault_or_none (reading_at rows k)) ∷ [],
      e ∙ ap (λ (g : OpFault). before ++ Entry k g ∷ []) (sym same),
      one_here (IsFaultIn (plan_for rows)) (Entry k (fault_or_none (reading_at rows k))) (l, reads ∙ ap (λ (g : OpFault). Err g) (sym same)),
    )

pub entry_row : (rows : List Row) (k : ℕ) (row : Row) (before after : List LoadFault) → k < length rows → reading_at rows k ≡ op_of row.bytes
    → after ≡ before ++ unread k (op_of row.bytes) → Adds (IsFaultIn (plan_for rows)) (entry_at rows k) before after
entry_row rows k row before after l reads e = entry_case rows k (op_of row.bytes) before after l reads e

pub ops_push : (rows : List Row) (ops : List Op) (op : Op) (n : ℕ) (row : Row) → length ops ≡ n
    → ((j : ℕ) → j < n → op_at ops j ≡ op_or_none (reading_at rows j)) → reading_at rows n ≡ op_of row.bytes → op ≡ op_or_none (op_of row.bytes)
    → (j : ℕ) → j < n + 1 → op_at (ops ++ op ∷ []) j ≡ op_or_none (reading_at rows j)
ops_push rows ops op n row len old reads new = below_step (λ j. op_at (ops ++ op ∷ []) j ≡ op_or_none (reading_at rows j)) n
    (λ j l. get_or_append_left ops (op ∷ []) (record { inputs = []; kind = None; extra = [] }) j (omega (arith, l, len)) ∙ old j l)
    (get_or_push ops op (record { inputs = []; kind = None; extra = [] }) n len ∙ new ∙ sym (ap (λ (r : Result Op OpFault). op_or_none r) reads))

pub marks_push : (rows : List Row) (marks : List Bool) (b : Bool) (n : ℕ) (row : Row) → length marks ≡ n
    → ((j : ℕ) → j < n → IsMarked marks j ↔ IsOk (reading_at rows j)) → reading_at rows n ≡ op_of row.bytes → IsTrue b ↔ IsOk (op_of row.bytes)
    → (j : ℕ) → j < n + 1 → IsMarked (marks ++ b ∷ []) j ↔ IsOk (reading_at rows j)
marks_push rows marks b n row len old reads new = below_step (λ j. IsMarked (marks ++ b ∷ []) j ↔ IsOk (reading_at rows j)) n
    (λ j l. subst (λ (x : Bool). (x ≡ true) ↔ IsOk (reading_at rows j)) (sym (get_or_append_left marks (b ∷ []) false j (omega (arith, l, len)))) (old j l))
    (subst (λ (x : Bool). (x ≡ true) ↔ IsOk (reading_at rows n)) (sym (get_or_push marks b false n len))
    (subst (λ (r : Result Op OpFault). (b ≡ true) ↔ IsOk r) (sym reads) new))

pub all_entries : (rows : List Row) (n : ℕ) (before after : List LoadFault) → n ≡ length rows
    → Adds (IsFaultIn (plan_for rows)) (joined_below n (entry_at rows)) before after
    → Adds (IsFaultIn (plan_for rows)) (entry_faults (plan_for rows)) before after
unfolding entry_faults
all_entries rows n before after same h = subst (λ (m : ℕ). Adds (IsFaultIn (plan_for rows)) (joined_below m (entry_at rows)) before after) same h

pub all_read : (rows : List Row) (ops : List Op) (n : ℕ) → n ≡ length rows → length ops ≡ n
    → ((j : ℕ) → j < n → op_at ops j ≡ op_or_none (reading_at rows j)) → ops ≡ ops_in rows
all_read rows ops n same len each = same_lists ops (ops_in rows) (let m = ops_len rows in omega (arith, same, len, m)) (λ k d l.
    let h : k < n = omega (arith, l, len) in
    let here : k < length rows = omega (arith, h, same) in
    let m : k < length (ops_in rows) = (let e = ops_len rows in omega (arith, here, e)) in
    get_or_default ops k d (record { inputs = []; kind = None; extra = [] }) l ∙ each k h ∙ sym (op_here rows k here)
    ∙ sym (get_or_default (ops_in rows) k d (record { inputs = []; kind = None; extra = [] }) m))

pub all_marks : (rows : List Row) (marks : List Bool) (n : ℕ) → n ≡ length rows → length marks ≡ n
    → ((j : ℕ) → j < n → IsMarked marks j ↔ IsOk (reading_at rows j)) → AreReadMarks rows marks
all_marks rows marks n same len exact = record { len = len ∙ same; exact = λ k l. exact k (omega (arith, l, same)) }

-- ---- indexes

pub counts_push : (ops : List Op) (counts : List (Option ℕ)) (n : ℕ) (op : Op) (count : Option ℕ) → length counts ≡ n
    → ((j : ℕ) → j < n → IsCount (op_at ops j) (get_or counts j None)) → op_at ops n ≡ op → IsCount op count
    → (j : ℕ) → j < n + 1 → IsCount (op_at ops j) (get_or (counts ++ count ∷ []) j None)
counts_push ops counts n op count len old at new = below_step (λ j. IsCount (op_at ops j) (get_or (counts ++ count ∷ []) j None)) n
    (λ j l. subst (λ (o : Option ℕ). IsCount (op_at ops j) o) (sym (get_or_append_left counts (count ∷ []) None j (omega (arith, l, len)))) (old j l))
    (subst (λ (o : Option ℕ). IsCount (op_at ops n) o) (sym (get_or_push counts count None n len)) (subst (λ (o : Op). IsCount o count) (sym at) new))

out_is : (n : ℕ) (z : ℤ) → IsTrue (is_out (Some n) z) ↔ (¬ IsBelow n z)
out_is n (negsuc i) = (λ _ b. let h = b.low in omega (arith, ints, h), λ _. refl)
out_is n (pos i) = elim (cases_lt i n) [
  | inl l ↦ (
    λ t. absurd (let x : IsTrue (not true) = subst (λ (b : Bool). IsTrue (not b)) (lt-ltb i n l) t in let w : false ≡ true = x in cc),
    λ b. absurd (b (below_at n (pos i) i refl l)),
  )
  | inr g ↦ (λ _ b. let h = b.high in omega (arith, ints, g, h), λ _. subst (λ (b : Bool). IsTrue (not b)) (sym (le-ltb i n g)) refl)
]

-- the row that an input names has outputs that can be counted, and the index is that of none of them
abbrev IsOutOf : List Op → Option ℕ → ℤ → Type 0
IsOutOf ops o z = (j : ℕ) × (o ≡ Some j) × IsCounted (op_at ops j).kind × (¬ IsBelow (output_count (op_at ops j)) z)

out_to : (op : Op) (count : Option ℕ) (z : ℤ) → IsCount op count → IsTrue (is_out count z) → IsCounted op.kind × (¬ IsBelow (output_count op) z)
out_to op count z (inl (k, e)) t = (k, (out_is (output_count op) z).0 (subst (λ (o : Option ℕ). IsTrue (is_out o z)) e t))
out_to op count z (inr (n, e)) t = absurd (let x : IsTrue (is_out None z) = subst (λ (o : Option ℕ). IsTrue (is_out o z)) e t in let w : false ≡ true = x in cc)

out_from : (op : Op) (count : Option ℕ) (z : ℤ) → IsCount op count → IsCounted op.kind → (¬ IsBelow (output_count op) z) → IsTrue (is_out count z)
out_from op count z (inl (k, e)) h b = subst (λ (o : Option ℕ). IsTrue (is_out o z)) (sym e) ((out_is (output_count op) z).1 b)
out_from op count z (inr (n, e)) h b = absurd (n h)

some_one : (i j : ℕ) → ◌≡◌ {A = Option ℕ} (Some i) (Some j) → i ≡ j
some_one i j e = cc

out_at : (ops : List Op) (counts : List (Option ℕ)) (o : Option ℕ) (z : ℤ) → AreCounts ops counts → ((j : ℕ) → o ≡ Some j → j < length ops)
    → IsTrue (is_out_at counts o z) ↔ IsOutOf ops o z
out_at ops counts None z are below = (
  λ t. absurd (let w : false ≡ true = t in cc),
  λ q. absurd (let x : ◌≡◌ {A = Option ℕ} None (Some q.0) = q.1 in cc),
)
out_at ops counts (Some j) z are below = (
  λ t. (let x = out_to (op_at ops j) (get_or counts j None) z (are.each j (below j refl)) t in (j, refl, x.0, x.1)),
  λ q. (
      let same : q.0 ≡ j = sym (some_one j q.0 q.1) in
      out_from (op_at ops j) (get_or counts j None) z (are.each j (below j refl)) (subst (λ (n : ℕ). IsCounted (op_at ops n).kind) same q.2)
      (subst (λ (n : ℕ). ¬ IsBelow (output_count (op_at ops n)) z) same q.3)),
)

and_both : (a b : Bool) (P Q : Type 0) → IsTrue a ↔ P → IsTrue b ↔ Q → IsTrue (a && b) ↔ (P × Q)
and_both true b P Q h g = (λ t. (h.0 refl, g.0 t), λ q. g.1 q.1)
and_both false b P Q h g = (λ t. absurd (let x : false ≡ true = t in cc), λ q. h.1 q.0)

module _ (rows : List Row) (seen : List Bool) (t : ℕ) (are : AreReached rows seen) (has' : HasTerminal rows t) where
  result_of : (k i : ℕ) → k ≡ t → i ≡ 0 → i < length (op_at (ops_in rows) k).inputs → HasResult (plan_for rows)
  result_of k i kt iz l = record {
    apart = has'.apart;
    terminal = subst (λ (n : ℕ). IsTerminal rows n) has'.same has'.last;
    input = (let e = ap (λ (n : ℕ). length (op_at (ops_in rows) n).inputs) (kt ∙ has'.same) in omega (arith, l, iz, e));
  }

  asked_true : (k i : ℕ) (b : Bool) → get_or seen k false ≡ b → i < length (op_at (ops_in rows) k).inputs → IsTrue (asked_by b (eqb k t) i)
      → IsAsked (plan_for rows) k i
  asked_true k i true m l h = let s = (are.exact k).0 m in inl (s.0, record { reached = s.1; here = l })
  asked_true k i false m l h = elim (cases_eq k t) [
    | inl e ↦ (
        let x : IsTrue (eqb i 0) = subst (λ (b : Bool). IsTrue (b && eqb i 0)) (eq-eqb k t e) h in
        let z : i ≡ 0 = elim (cases_eq i 0) [ inl y ↦ y | inr n ↦ absurd (let w : true ≡ false = sym x ∙ ne_eqb i 0 n in cc) ] in
        inr (result_of k i e z l, e ∙ has'.same, z))
    | inr n ↦ absurd (let x : IsTrue (false && eqb i 0) = subst (λ (b : Bool). IsTrue (b && eqb i 0)) (ne_eqb k t n) h in
        let w : true ≡ false = sym x in cc)
  ]

  true_asked : (k i : ℕ) (b : Bool) → get_or seen k false ≡ b → IsAsked (plan_for rows) k i → IsTrue (asked_by b (eqb k t) i)
  true_asked k i true m a = refl
  true_asked k i false m (inl a) = absurd (let y = (are.exact k).1 (a.0, a.1.reached) in let w : true ≡ false = sym y ∙ m in cc)
  true_asked k i false m (inr a) = subst (λ (b : Bool). IsTrue (b && eqb i 0)) (sym (eq-eqb k t (a.1 ∙ sym has'.same)))
      (subst (λ (b : Bool). IsTrue b) (sym (eq-eqb i 0 a.2)) refl)

  asked_is : (k i : ℕ) → i < length (op_at (ops_in rows) k).inputs → IsTrue (asked_by (get_or seen k false) (eqb k t) i) ↔ IsAsked (plan_for rows) k i
  asked_is k i l = (asked_true k i (get_or seen k false) refl l, true_asked k i (get_or seen k false) refl)

  row_same : (d : List ℕ) → row_named rows t d ≡ row_named rows (terminal_in rows) d
  row_same d = ap (λ (n : ℕ). row_named rows n d) has'.same

  unknown_is : (k i : ℕ) → i < length (op_at (ops_in rows) k).inputs
      → IsTrue (asked_by (get_or seen k false) (eqb k t) i && not (is_some (row_named rows t (input_at (op_at (ops_in rows) k) i).digest)))
      ↔ IsFaultIn (plan_for rows) (UnknownDigest k i)
  unknown_is k i l = subst (λ (o : Option ℕ). IsTrue (asked_by (get_or seen k false) (eqb k t) i && not (is_some o))
      ↔ IsFaultIn (plan_for rows) (UnknownDigest k i)) (sym (row_same (input_at (op_at (ops_in rows) k) i).digest))
      (and_none (asked_by (get_or seen k false) (eqb k t) i) (row_named rows (terminal_in rows) (input_at (op_at (ops_in rows) k) i).digest)
      (IsAsked (plan_for rows) k i) (asked_is k i l))

  pub unknown_row : (ops : List Op) (k : ℕ) (op : Op) (before after : List LoadFault) → ops ≡ ops_in rows → k < length rows → op ≡ get_or ops k op
      → after ≡ before ++ joined_below (length op.inputs) (unknown_by rows t (get_or seen k false) k op)
      → Adds (IsFaultIn (plan_for rows)) (unknown_at rows k) before after
  unknown_row ops k op before after same l e new =
      let at = row_op rows ops k op same l e in (
        joined_below (length (op_at (ops_in rows) k).inputs) (unknown_by rows t (get_or seen k false) k (op_at (ops_in rows) k)),
        subst (λ (o : Op). after ≡ before ++ joined_below (length o.inputs) (unknown_by rows t (get_or seen k false) k o)) (sym at) new,
        those_joined_by (IsFaultIn (plan_for rows)) (length (op_at (ops_in rows) k).inputs) (λ i. UnknownDigest k i)
            (λ i. asked_by (get_or seen k false) (eqb k t) i && not (is_some (row_named rows t (input_at (op_at (ops_in rows) k) i).digest)))
            (λ i m. unknown_is k i m),
      )

  index_is : (counts : List (Option ℕ)) (k i : ℕ) → AreCounts (ops_in rows) counts → i < length (op_at (ops_in rows) k).inputs
      → IsTrue (asked_by (get_or seen k false) (eqb k t) i && is_out_at counts (row_named rows t (input_at (op_at (ops_in rows) k) i).digest)
      (input_at (op_at (ops_in rows) k) i).index) ↔ IsFaultIn (plan_for rows) (BadIndex k i)
  index_is counts k i count l =
      let d = (input_at (op_at (ops_in rows) k) i).digest in
      let z = (input_at (op_at (ops_in rows) k) i).index in
      subst (λ (o : Option ℕ). IsTrue (asked_by (get_or seen k false) (eqb k t) i && is_out_at counts o z) ↔ IsFaultIn (plan_for rows) (BadIndex k i))
      (sym (row_same d))
      (and_both (asked_by (get_or seen k false) (eqb k t) i) (is_out_at counts (row_named rows (terminal_in rows) d) z) (IsAsked (plan_for rows) k i)
      (IsOutOf (ops_in rows) (row_named rows (terminal_in rows) d) z) (asked_is k i l)
      (out_at (ops_in rows) counts (row_named rows (terminal_in rows) d) z count
      (λ j e. let b = named_below rows (terminal_in rows) d j e in let n = ops_len rows in omega (arith, b, n))))

  pub index_row : (counts : List (Option ℕ)) (ops : List Op) (k : ℕ) (op : Op) (before after : List LoadFault) → ops ≡ ops_in rows → AreCounts ops counts
      → k < length rows → op ≡ get_or ops k op
      → after ≡ before ++ joined_below (length op.inputs) (index_by rows t counts (get_or seen k false) k op)
      → Adds (IsFaultIn (plan_for rows)) (indexes_at rows k) before after
  index_row counts ops k op before after same count l e new =
      let at = row_op rows ops k op same l e in
      let all = subst (λ (os : List Op). AreCounts os counts) same count in (
        joined_below (length (op_at (ops_in rows) k).inputs) (index_by rows t counts (get_or seen k false) k (op_at (ops_in rows) k)),
        subst (λ (o : Op). after ≡ before ++ joined_below (length o.inputs) (index_by rows t counts (get_or seen k false) k o)) (sym at) new,
        those_joined_by (IsFaultIn (plan_for rows)) (length (op_at (ops_in rows) k).inputs) (λ i. BadIndex k i)
            (λ i. asked_by (get_or seen k false) (eqb k t) i && is_out_at counts (row_named rows t (input_at (op_at (ops_in rows) k) i).digest)
            (input_at (op_at (ops_in rows) k) i).index)
            (λ i m. index_is counts k i all m),
      )

pub all_indexes : (rows : List Row) (n : ℕ) (before after : List LoadFault) → n ≡ length rows
    → Adds (IsFaultIn (plan_for rows)) (joined_below n (indexes_at rows)) before after
    → Adds (IsFaultIn (plan_for rows)) (bad_indexes (plan_for rows)) before after
unfolding bad_indexes
all_indexes rows n before after same h = subst (λ (m : ℕ). Adds (IsFaultIn (plan_for rows)) (joined_below m (indexes_at rows)) before after) same h

pub all_unknown : (rows : List Row) (n : ℕ) (before after : List LoadFault) → n ≡ length rows
    → Adds (IsFaultIn (plan_for rows)) (joined_below n (unknown_at rows)) before after
    → Adds (IsFaultIn (plan_for rows)) (unknown_digests (plan_for rows)) before after
unfolding unknown_digests
all_unknown rows n before after same h = subst (λ (m : ℕ). Adds (IsFaultIn (plan_for rows)) (joined_below m (unknown_at rows)) before after) same h

pub all_collisions : (rows : List Row) (n : ℕ) (before after : List LoadFault) → n ≡ length rows
    → Adds (IsFaultIn (plan_for rows)) (joined_below n (λ k. Collision k ∷ [])) before after
    → Adds (IsFaultIn (plan_for rows)) (collisions (plan_for rows)) before after
unfolding collisions
all_collisions rows n before after same h = subst (λ (m : ℕ). Adds (IsFaultIn (plan_for rows)) (joined_below m (λ k. Collision k ∷ [])) before after) same h
