-- The ops of rows that may not all be readable, and the features and rules of an op: each is in its list, and the first rule that is broken is looked at.
use Rattle.std.proofs.Common.{◌≡◌, ◌≢◌, inl, inr, ℕ, zero, suc, ◌<◌, Bool, true, false, List, [], ◌∷◌, ◌++◌}
use Rattle.std.proofs.Common.{length, get_or, Option, Some, None, Result, Err, refl, sym, ◌∙◌, ap, subst, arith, is_ok}
use Rattle.std.specs.Prelude.{IsOk, ⊤}
use Rattle.std.specs.List.{Contains, find, filter_map, cons_option}
use Rattle.std.proofs.lemmas.List.{get_or-map, get_or_default, length-map, same_lists}
use Rattle.std.proofs.lemmas.List.Elements.{Contains-append_right}
use Rattle.llb_applet.specs.declared.fault.ScriptFault.{ScriptFault}
use Rattle.llb_ops.specs.declared.op.Op.{Op}
use Rattle.llb_ops.specs.declared.op.Input.{Input}
use Rattle.llb_ops.specs.declared.op.Kind.{Kind}
use Rattle.llb_ops.specs.declared.op.Kind.TheVariants.{Exec, Source, File, Merge, Build, Diff}
use Rattle.llb_ops.specs.declared.fault.OpFault.{OpFault}
use Rattle.llb_ops.specs.Messages.{op_of}
use Rattle.llb_loader.specs.declared.row.Row.{Row}
use Rattle.llb_loader.specs.declared.fault.Feature.{Feature}
use Rattle.llb_loader.specs.declared.fault.Feature.TheVariants as feature
use Rattle.llb_loader.specs.declared.fault.Rule.{Rule}
use Rattle.llb_loader.specs.declared.fault.Rule.TheVariants as rule
use Rattle.llb_loader.specs.RowLookup.{row_at}
use Rattle.llb_loader.specs.Features.{has, features, feature_of}
use Rattle.llb_loader.specs.Rules.{Meets, MeetsAll, MeetsRules, Breaks, kind_fault, rules_on}
use Rattle.llb_loader.specs.GraphOfRows.{op_at}
use Rattle.llb_loader.specs.RowReading.{AreOps}
use Rattle.llb_findings.specs.Findings.{op_or_none, reading_at, ops_in, IsCounted, HasWords, IsLookedAt}
use Rattle.llb_findings.specs.Findings.{IsBroken}
use Rattle.llb_findings.proofs.SelectionParts.{find_none}

-- ---- ops of rows

pub ops_len : (rows : List Row) → length (ops_in rows) ≡ length rows
unfolding ops_in
ops_len rows = length-map rows (λ (r : Row). op_or_none (op_of r.bytes))

pub op_here : (rows : List Row) (k : ℕ) → k < length rows → op_at (ops_in rows) k ≡ op_or_none (reading_at rows k)
unfolding ops_in reading_at
op_here rows k l =
    get_or-map (λ (r : Row). op_or_none (op_of r.bytes)) rows k (record { digest = []; bytes = [] }) (record { inputs = []; kind = None; extra = [] }) l

pub reading_is : (rows : List Row) (k : ℕ) → reading_at rows k ≡ op_of (row_at rows k).bytes
unfolding reading_at
reading_is rows k = refl

pub err_not_ok : (r : Result Op OpFault) (f : OpFault) → r ≡ Err f → ¬ IsOk r
err_not_ok r f e ok = let x : is_ok r ≡ false = ap (λ (y : Result Op OpFault). is_ok y) e in let z : true ≡ false = sym ok ∙ x in cc

pub ops_read : (rows : List Row) (ops : List Op) → AreOps rows ops → ops ≡ ops_in rows
ops_read rows ops a = same_lists ops (ops_in rows) (a.len ∙ sym (ops_len rows)) (λ k d l.
    let h : k < length rows = (let e = a.len in omega (arith, l, e)) in
    let m : k < length (ops_in rows) = (let e = ops_len rows in omega (arith, h, e)) in
    let same : op_at (ops_in rows) k ≡ op_at ops k = op_here rows k h
    ∙ ap (λ (r : Result Op OpFault). op_or_none r) (reading_is rows k ∙ a.each k h) in
    get_or_default ops k d (record { inputs = []; kind = None; extra = [] }) l ∙ sym same
    ∙ sym (get_or_default (ops_in rows) k d (record { inputs = []; kind = None; extra = [] }) m))

pub rows_read : (rows : List Row) (ops : List Op) → AreOps rows ops → (k : ℕ) → k < length rows → IsOk (reading_at rows k)
rows_read rows ops a k l = ap (λ (r : Result Op OpFault). is_ok r) (reading_is rows k ∙ a.each k l)

-- ---- features and rules

pub feature_listed : (f : Feature) → Contains features f
feature_listed feature.DiffOp = (0, omega arith, refl)
feature_listed feature.BuildOp = (1, omega arith, refl)
feature_listed feature.Source = (2, omega arith, refl)
feature_listed feature.SecretMount = (3, omega arith, refl)
feature_listed feature.SshMount = (4, omega arith, refl)
feature_listed feature.SecretEnv = (5, omega arith, refl)
feature_listed feature.Action = (6, omega arith, refl)
feature_listed feature.Unpack = (7, omega arith, refl)
feature_listed feature.Patterns = (8, omega arith, refl)
feature_listed feature.OwnerByName = (9, omega arith, refl)
feature_listed feature.CopyField = (10, omega arith, refl)

pub no_feature : (op : Op) (f : Feature) → feature_of op ≡ None → has op.kind f ≢ true
no_feature op f e h = let x = find_none (has op.kind) features f e (feature_listed f) in let z : true ≡ false = sym h ∙ x in cc

pub rule_listed : (kind : Option Kind) (r : Rule) → IsLookedAt kind r → Contains (rules_on kind) r
rule_listed kind rule.NoKind l = (0, omega arith, refl)
rule_listed kind rule.LocalName l = (1, omega arith, refl)
rule_listed kind rule.NoActions l = (2, omega arith, refl)
rule_listed kind rule.ActionInput l = (3, omega arith, refl)
rule_listed kind rule.ActionOutput l = (4, omega arith, refl)
rule_listed kind rule.NoMeta l = (5, omega arith, refl)
rule_listed kind rule.NoArgs l = (6, omega arith, refl)
rule_listed kind rule.NoMounts l = (7, omega arith, refl)
rule_listed kind rule.NoRoot l = (8, omega arith, refl)
rule_listed kind rule.BadPath l = (9, omega arith, refl)
rule_listed kind rule.SameDest l = (10, omega arith, refl)
rule_listed kind rule.MountKind l = (11, omega arith, refl)
rule_listed kind rule.MountInput l = (12, omega arith, refl)
rule_listed kind rule.MountOutput l = (13, omega arith, refl)
rule_listed kind rule.NoCacheOpt l = (14, omega arith, refl)
rule_listed kind rule.Sharing l = (15, omega arith, refl)
rule_listed kind rule.CacheTwice l = (16, omega arith, refl)
rule_listed kind (rule.Script f) l = (17, omega arith, ap (λ (g : ScriptFault). rule.Script g) (sym l.1))
rule_listed kind rule.MergeInput l = (18, omega arith, refl)

met_each : (is : List Input) (kind : Option Kind) (rs : List Rule) (r : Rule) → MeetsAll is kind rs → Contains rs r → Meets is kind r
met_each is kind [] r met (i, l, e) = absurd (omega (arith, l))
met_each is kind (x ∷ rs) r met (zero, l, e) = subst (λ (y : Rule). Meets is kind y) e met.0
met_each is kind (x ∷ rs) r met (suc i, l, e) = met_each is kind rs r met.1 (i, omega (arith, l), e)

pub unbroken : (op : Op) (r : Rule) → MeetsRules op → ¬ IsBroken op.inputs op.kind r
unbroken op r met b = b.1 (met_each op.inputs op.kind (rules_on op.kind) r met (rule_listed op.kind r b.0))

-- the rules before the one on the script
abbrev is_script : Rule → Bool
is_script (rule.Script f) = true
is_script _ = false

abbrev NoScripts : List Rule → Type 0
NoScripts [] = ⊤
NoScripts (r ∷ rs) = (is_script r ≡ false) × NoScripts rs

script_last : (is : List Input) (kind : Option Kind) (rs : List Rule) (s f : ScriptFault) → NoScripts rs
    → Breaks is kind (rs ++ rule.Script s ∷ rule.MergeInput ∷ []) (rule.Script f)
    → MeetsAll is kind rs × (f ≡ s) × (¬ Meets is kind (rule.Script s))
script_last is kind [] s f n h = elim h [
  | inl x ↦ (let e : rule.Script f ≡ rule.Script s = x.0 in let same : f ≡ s = cc in (tt, same, x.1))
  | inr y ↦ elim y.1 [
    | inl x ↦ absurd (let z : true ≡ false = ap (λ (r : Rule). is_script r) x.0 in cc)
    | inr z ↦ absurd z.1
  ]
]
script_last is kind (r ∷ rs) s f n h = elim h [
  | inl x ↦ absurd (let z : true ≡ false = ap (λ (q : Rule). is_script q) x.0 ∙ n.0 in cc)
  | inr y ↦ (let t = script_last is kind rs s f n.1 y.1 in ((y.0, t.0), t.1, t.2))
]

abbrev front_rules : List Rule
front_rules =
    rule.NoKind ∷ rule.LocalName ∷ rule.NoActions ∷ rule.ActionInput ∷ rule.ActionOutput
    ∷ rule.NoMeta ∷ rule.NoArgs ∷ rule.NoMounts ∷ rule.NoRoot ∷ rule.BadPath ∷ rule.SameDest
    ∷ rule.MountKind ∷ rule.MountInput ∷ rule.MountOutput
    ∷ rule.NoCacheOpt ∷ rule.Sharing ∷ rule.CacheTwice ∷ []

script_looked : (is : List Input) (kind : Option Kind) (f : ScriptFault) → MeetsAll is kind front_rules → f ≡ kind_fault kind
    → (¬ Meets is kind (rule.Script (kind_fault kind))) → HasWords kind × (f ≡ kind_fault kind)
script_looked is None f m e n = absurd (n tt)
script_looked is (Some (Source s)) f m e n = absurd (n tt)
script_looked is (Some (File s)) f m e n = absurd (n tt)
script_looked is (Some (Merge s)) f m e n = absurd (n tt)
script_looked is (Some (Build s)) f m e n = absurd (n tt)
script_looked is (Some (Diff s)) f m e n = absurd (n tt)
script_looked is (Some (Exec x)) f m e n = ((m.1.1.1.1.1.0, m.1.1.1.1.1.1.0), e)

-- the first rule that is broken is looked at
pub looked : (is : List Input) (kind : Option Kind) (b : Rule) → Breaks is kind (rules_on kind) b → IsLookedAt kind b
looked is kind (rule.Script f) h =
    let t = script_last is kind front_rules (kind_fault kind) f
    (refl, (refl, (refl, (refl, (refl, (refl, (refl, (refl, (refl, (refl, (refl, (refl, (refl, (refl, (refl, (refl, (refl, tt))))))))))))))))) h in
    script_looked is kind f t.0 t.1 t.2
looked is kind _ h = tt

pub broken_not_met : (is : List Input) (kind : Option Kind) (rs : List Rule) (b : Rule) → Breaks is kind rs b → ¬ Meets is kind b
broken_not_met is kind [] b h m = h
broken_not_met is kind (r ∷ rs) b h m = elim h [
  | inl x ↦ x.1 (subst (λ (q : Rule). Meets is kind q) x.0 m)
  | inr y ↦ broken_not_met is kind rs b y.1 m
]

-- the outputs of an op that has no feature and meets the rules can be counted
pub counted_kind : (is : List Input) (kind : Option Kind) → find (has kind) features ≡ None → MeetsAll is kind (rules_on kind) → IsCounted kind
counted_kind is None e m = absurd (let x : false ≡ true = m.0 in cc)
counted_kind is (Some (Source s)) e m = tt
counted_kind is (Some (Merge s)) e m = tt
counted_kind is (Some (File s)) e m = m.1.1.1.1.0
counted_kind is (Some (Exec s)) e m = m.1.1.1.1.1.1.1.1.1.1.1.1.1.0.numbered
counted_kind is (Some (Build s)) e m = absurd (let x : ◌≡◌ {A = Option Feature} (Some feature.BuildOp) None = e in cc)
counted_kind is (Some (Diff s)) e m = absurd (let x : ◌≡◌ {A = Option Feature} (Some feature.DiffOp) None = e in cc)

-- ---- inputs of reached rows

cons_has : (o : Option ℕ) (ys : List ℕ) (y : ℕ) → Contains ys y → Contains (cons_option o ys) y
cons_has None ys y c = c
cons_has (Some z) ys y c = Contains-append_right (z ∷ []) ys y c

pub filter_map_has : (h : Input → Option ℕ) (xs : List Input) (i : ℕ) (d : Input) (y : ℕ) → i < length xs → h (get_or xs i d) ≡ Some y
    → Contains (filter_map h xs) y
filter_map_has h [] i d y l e = absurd (omega (arith, l))
filter_map_has h (x ∷ xs) zero d y l e = subst (λ (o : Option ℕ). Contains (cons_option o (filter_map h xs)) y) (sym e) (0, omega arith, refl)
filter_map_has h (x ∷ xs) (suc i) d y l e = cons_has (h x) (filter_map h xs) y (filter_map_has h xs i d y (omega (arith, l)) e)
