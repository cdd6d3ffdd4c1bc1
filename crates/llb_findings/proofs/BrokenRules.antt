-- Every rule that an op breaks, from what is found for the rules of its kind.
use Rattle.std.proofs.Common.{◌≡◌, ◌↔◌, Bool, true, false, cond, IsTrue, IsSome, List, [], ◌∷◌, ◌++◌, Option, Some, None, Result, Ok, Err, refl, sym, ◌∙◌, ap}
use Rattle.std.proofs.Common.{subst}
use Rattle.std.proofs.Common.{eqb, length, ◌<◌, inl, inr, arith}
use Rattle.std.proofs.lemmas.Bool.{cases_eq, eq-eqb, ne_eqb}
use Rattle.std.specs.Result.{result_ok}
use Rattle.std.specs.Option.{is_some}
use Rattle.llb_ops.specs.declared.op.Input.{Input}
use Rattle.llb_ops.specs.declared.op.Kind.{Kind}
use Rattle.llb_ops.specs.declared.op.Kind.TheVariants.{Exec, Source, File, Merge, Build, Diff}
use Rattle.llb_ops.specs.declared.exec.ExecOp.{ExecOp}
use Rattle.llb_ops.specs.declared.exec.Meta.{Meta}
use Rattle.llb_ops.specs.declared.source.SourceOp.{SourceOp}
use Rattle.llb_ops.specs.declared.file_op.FileOp.{FileOp}
use Rattle.llb_ops.specs.declared.merge.MergeOp.{MergeOp}
use Rattle.llb_applet.specs.declared.joined_commands.Joined.{Joined}
use Rattle.llb_applet.specs.declared.fault.ScriptFault.{ScriptFault}
use Rattle.llb_applet.specs.Scripts.{script_of}
use Rattle.llb_loader.specs.declared.fault.Rule.{Rule}
use Rattle.llb_loader.specs.declared.fault.Rule.TheVariants as rule
use Rattle.llb_loader.specs.Scripts.{script_fault, commands_in, fault_or_none}
use Rattle.llb_loader.specs.Rules.{Meets, MeetsAll, kind_fault, rules_on, HasWord}
use Rattle.llb_loader.specs.RulesByKind.{source_rules, file_rules, exec_rules, script_rules}
use Rattle.llb_findings.specs.Findings.{IsBroken, IsLookedAt}
use Rattle.llb_findings.specs.Selections.{AreThose, Adds}
use Rattle.llb_findings.proofs.SelectionParts.{those_nil, those_skip, those_keep, one_not, one_here, adds_both, adds_none}

-- ---- one rule

-- a rule that is added unless it is met
pub adds_rule : (inputs : List Input) (kind : Option Kind) (r : Rule) (met : Bool) (before after : List Rule) → IsLookedAt kind r
    → IsTrue met ↔ Meets inputs kind r → after ≡ before ++ cond met [] (r ∷ []) → Adds (IsBroken inputs kind) (r ∷ []) before after
adds_rule inputs kind r true before after looked says e = ([], e, one_not (IsBroken inputs kind) r (λ b. b.1 (says.0 refl)))
adds_rule inputs kind r false before after looked says e =
    (r ∷ [], e, one_here (IsBroken inputs kind) r (looked, λ m. let x : false ≡ true = says.1 m in cc))

-- three rules, one after another
pub adds_three : (inputs : List Input) (kind : Option Kind) (q r s : Rule) (a b d e : List Rule) → Adds (IsBroken inputs kind) (q ∷ []) a b
    → Adds (IsBroken inputs kind) (r ∷ []) b d → Adds (IsBroken inputs kind) (s ∷ []) d e → Adds (IsBroken inputs kind) (q ∷ r ∷ s ∷ []) a e
adds_three inputs kind q r s a b d e x y z = adds_both (IsBroken inputs kind) (q ∷ []) (r ∷ s ∷ []) a b e x
    (adds_both (IsBroken inputs kind) (r ∷ []) (s ∷ []) b d e y z)

-- ---- the rules of the other kinds are met

pub none_broken : (inputs : List Input) (kind : Option Kind) (rs : List Rule) → MeetsAll inputs kind rs → AreThose (IsBroken inputs kind) rs []
none_broken inputs kind [] met = those_nil (IsBroken inputs kind)
none_broken inputs kind (r ∷ rs) met = those_skip (IsBroken inputs kind) r rs [] (λ b. b.1 met.0) (none_broken inputs kind rs met.1)

-- what is added for the rules of a kind, if the rules before and behind them are met
placed : (inputs : List Input) (kind : Option Kind) (front own behind : List Rule) (before after : List Rule) → MeetsAll inputs kind front
    → Adds (IsBroken inputs kind) own before after → MeetsAll inputs kind behind → Adds (IsBroken inputs kind) (front ++ (own ++ behind)) before after
placed inputs kind front own behind before after first h last =
    adds_both (IsBroken inputs kind) front (own ++ behind) before before after (adds_none (IsBroken inputs kind) front before (none_broken inputs kind
    front first))
    (adds_both (IsBroken inputs kind) own behind before after after h
    (adds_none (IsBroken inputs kind) behind after (none_broken inputs kind behind last)))

pub of_source : (inputs : List Input) (k : Kind) (s : SourceOp) (a b : List Rule) → k ≡ Source s
    → Adds (IsBroken inputs (Some (Source s))) source_rules a b → Adds (IsBroken inputs (Some k)) (rules_on (Some k)) a b
of_source inputs k s a b is h = subst (λ (x : Kind). Adds (IsBroken inputs (Some x)) (rules_on (Some x)) a b) (sym is)
    (placed inputs (Some (Source s)) (rule.NoKind ∷ []) source_rules
    (rule.NoActions ∷ rule.ActionInput ∷ rule.ActionOutput ∷ rule.NoMeta ∷ rule.NoArgs ∷ rule.NoMounts ∷ rule.NoRoot ∷ rule.BadPath
    ∷ rule.SameDest ∷ rule.MountKind ∷ rule.MountInput ∷ rule.MountOutput ∷ rule.NoCacheOpt ∷ rule.Sharing ∷ rule.CacheTwice
    ∷ rule.Script (kind_fault (Some (Source s))) ∷ rule.MergeInput ∷ []) a b
    (refl, tt) h
    (tt, (tt, (tt, (tt, (tt, (tt, (tt, (tt, (tt, (tt, (tt, (tt, (tt, (tt, (tt, (tt, (tt, tt))))))))))))))))))

pub of_file : (inputs : List Input) (k : Kind) (f : FileOp) (a b : List Rule) → k ≡ File f
    → Adds (IsBroken inputs (Some (File f))) file_rules a b → Adds (IsBroken inputs (Some k)) (rules_on (Some k)) a b
of_file inputs k f a b is h = subst (λ (x : Kind). Adds (IsBroken inputs (Some x)) (rules_on (Some x)) a b) (sym is)
    (placed inputs (Some (File f)) (rule.NoKind ∷ rule.LocalName ∷ []) file_rules
    (rule.NoMeta ∷ rule.NoArgs ∷ rule.NoMounts ∷ rule.NoRoot ∷ rule.BadPath
    ∷ rule.SameDest ∷ rule.MountKind ∷ rule.MountInput ∷ rule.MountOutput ∷ rule.NoCacheOpt ∷ rule.Sharing ∷ rule.CacheTwice
    ∷ rule.Script (kind_fault (Some (File f))) ∷ rule.MergeInput ∷ []) a b
    (refl, (tt, tt)) h
    (tt, (tt, (tt, (tt, (tt, (tt, (tt, (tt, (tt, (tt, (tt, (tt, (tt, (tt, tt)))))))))))))))

pub of_exec : (inputs : List Input) (k : Kind) (x : ExecOp) (a b : List Rule) → k ≡ Exec x
    → Adds (IsBroken inputs (Some (Exec x))) (exec_rules x.meta) a b → Adds (IsBroken inputs (Some k)) (rules_on (Some k)) a b
of_exec inputs k x a b is h = subst (λ (y : Kind). Adds (IsBroken inputs (Some y)) (rules_on (Some y)) a b) (sym is)
    (placed inputs (Some (Exec x)) (rule.NoKind ∷ rule.LocalName ∷ rule.NoActions ∷ rule.ActionInput ∷ rule.ActionOutput ∷ []) (exec_rules x.meta)
    (rule.MergeInput ∷ []) a b
    (refl, (tt, (tt, (tt, (tt, tt))))) h
    (tt, tt))

pub of_merge : (inputs : List Input) (k : Kind) (m : MergeOp) (a b : List Rule) → k ≡ Merge m
    → Adds (IsBroken inputs (Some (Merge m))) (rule.MergeInput ∷ []) a b → Adds (IsBroken inputs (Some k)) (rules_on (Some k)) a b
of_merge inputs k m a b is h = subst (λ (x : Kind). Adds (IsBroken inputs (Some x)) (rules_on (Some x)) a b) (sym is)
    (placed inputs (Some (Merge m)) (rule.NoKind ∷ rule.LocalName ∷ rule.NoActions ∷ rule.ActionInput ∷ rule.ActionOutput ∷ rule.NoMeta ∷ rule.NoArgs
    ∷ rule.NoMounts ∷ rule.NoRoot ∷ rule.BadPath
    ∷ rule.SameDest ∷ rule.MountKind ∷ rule.MountInput ∷ rule.MountOutput ∷ rule.NoCacheOpt ∷ rule.Sharing ∷ rule.CacheTwice
    ∷ rule.Script (kind_fault (Some (Merge m))) ∷ []) (rule.MergeInput ∷ []) [] a b
    (refl, (tt, (tt, (tt, (tt, (tt, (tt, (tt, (tt, (tt, (tt, (tt, (tt, (tt, (tt, (tt, (tt, (tt, tt)))))))))))))))))) h tt)

pub of_build : (inputs : List Input) (k : Kind) (bytes : _) (a : List Rule) → k ≡ Build bytes → Adds (IsBroken inputs (Some k)) (rules_on (Some k)) a a
of_build inputs k bytes a is = subst (λ (x : Kind). Adds (IsBroken inputs (Some x)) (rules_on (Some x)) a a) (sym is)
    (adds_none (IsBroken inputs (Some (Build bytes))) (rules_on (Some (Build bytes))) a (none_broken inputs (Some (Build bytes)) (rules_on (Some (Build bytes)))
    (refl, (tt, (tt, (tt, (tt, (tt, (tt, (tt, (tt, (tt, (tt, (tt, (tt, (tt, (tt, (tt, (tt, (tt, (tt, tt)))))))))))))))))))))

pub of_diff : (inputs : List Input) (k : Kind) (bytes : _) (a : List Rule) → k ≡ Diff bytes → Adds (IsBroken inputs (Some k)) (rules_on (Some k)) a a
of_diff inputs k bytes a is = subst (λ (x : Kind). Adds (IsBroken inputs (Some x)) (rules_on (Some x)) a a) (sym is)
    (adds_none (IsBroken inputs (Some (Diff bytes))) (rules_on (Some (Diff bytes))) a (none_broken inputs (Some (Diff bytes)) (rules_on (Some (Diff bytes)))
    (refl, (tt, (tt, (tt, (tt, (tt, (tt, (tt, (tt, (tt, (tt, (tt, (tt, (tt, (tt, (tt, (tt, (tt, (tt, tt)))))))))))))))))))))

-- an op without a kind breaks the first rule alone
of_none_kind : (inputs : List Input) → AreThose (IsBroken inputs None) (rules_on None) (rule.NoKind ∷ [])
of_none_kind inputs = those_keep (IsBroken inputs None) rule.NoKind
    (rule.LocalName ∷ rule.NoActions ∷ rule.ActionInput ∷ rule.ActionOutput ∷ rule.NoMeta ∷ rule.NoArgs
    ∷ rule.NoMounts ∷ rule.NoRoot ∷ rule.BadPath
    ∷ rule.SameDest ∷ rule.MountKind ∷ rule.MountInput ∷ rule.MountOutput ∷ rule.NoCacheOpt ∷ rule.Sharing ∷ rule.CacheTwice
    ∷ rule.Script (kind_fault None) ∷ rule.MergeInput ∷ []) [] (tt, λ m. let x : false ≡ true = m in cc)
    (none_broken inputs None (rule.LocalName ∷ rule.NoActions ∷ rule.ActionInput ∷ rule.ActionOutput ∷ rule.NoMeta ∷ rule.NoArgs
    ∷ rule.NoMounts ∷ rule.NoRoot ∷ rule.BadPath
    ∷ rule.SameDest ∷ rule.MountKind ∷ rule.MountInput ∷ rule.MountOutput ∷ rule.NoCacheOpt ∷ rule.Sharing ∷ rule.CacheTwice
    ∷ rule.Script (kind_fault None) ∷ rule.MergeInput ∷ [])
    (tt, (tt, (tt, (tt, (tt, (tt, (tt, (tt, (tt, (tt, (tt, (tt, (tt, (tt, (tt, (tt, (tt, (tt, tt)))))))))))))))))))

pub of_no_kind : (inputs : List Input) (k : Option Kind) (found : List Rule) → k ≡ None → found ≡ rule.NoKind ∷ []
    → AreThose (IsBroken inputs k) (rules_on k) found
of_no_kind inputs k found is e = subst (λ (x : Option Kind). AreThose (IsBroken inputs x) (rules_on x) found) (sym is)
    (subst (λ (xs : List Rule). AreThose (IsBroken inputs None) (rules_on None) xs) (sym e) (of_none_kind inputs))

-- what was added to nothing
pub added_first : (inputs : List Input) (k : Option Kind) (kind : Kind) (empty found : List Rule) → k ≡ Some kind → empty ≡ []
    → Adds (IsBroken inputs (Some kind)) (rules_on (Some kind)) empty found → AreThose (IsBroken inputs k) (rules_on k) found
added_first inputs k kind empty found is none (added, e, h) =
    let same : found ≡ added = e ∙ ap (λ (xs : List Rule). xs ++ added) none in
    subst (λ (x : Option Kind). AreThose (IsBroken inputs x) (rules_on x) found) (sym is)
    (subst (λ (xs : List Rule). AreThose (IsBroken inputs (Some kind)) (rules_on (Some kind)) xs) (sym same) h)

-- ---- the script

-- words that are a script break no rule
pub script_met : (inputs : List Input) (x : ExecOp) (m : Meta) (s : List Joined) (before : List Rule) → x.meta ≡ Some m → script_of m.args ≡ Ok s
    → Adds (IsBroken inputs (Some (Exec x))) (script_rules x.meta) before before
script_met inputs x m s before is e = adds_none (IsBroken inputs (Some (Exec x))) (script_rules x.meta) before
    (one_not (IsBroken inputs (Some (Exec x))) (rule.Script (script_fault x.meta)) (λ b. b.1
    (ap (λ (o : Option (List Joined)). is_some o) (ap (λ (o : Option Meta). commands_in o) is ∙ ap (λ (r : Result (List Joined) ScriptFault). result_ok r) e))))

pub script_broken : (inputs : List Input) (x : ExecOp) (m : Meta) (f : ScriptFault) (before after : List Rule) → x.meta ≡ Some m → HasWord (Some m)
    → script_of m.args ≡ Err f → after ≡ before ++ rule.Script f ∷ []
    → Adds (IsBroken inputs (Some (Exec x))) (script_rules x.meta) before after
script_broken inputs x m f before after is word e new =
    let fault : script_fault x.meta ≡ f = ap (λ (o : Option Meta). script_fault o) is
    ∙ ap (λ (r : Result (List Joined) ScriptFault). fault_or_none r) e in (
      rule.Script f ∷ [],
      new,
      subst (λ (g : ScriptFault). AreThose (IsBroken inputs (Some (Exec x))) (rule.Script (script_fault x.meta) ∷ []) (rule.Script g ∷ []))
          fault (one_here (IsBroken inputs (Some (Exec x))) (rule.Script (script_fault x.meta)) (
            ((ap (λ (o : Option Meta). is_some o) is, subst (λ (o : Option Meta). HasWord o) (sym is) word), refl),
            λ s. (let none : commands_in x.meta ≡ None = ap (λ (o : Option Meta). commands_in o) is
                ∙ ap (λ (r : Result (List Joined) ScriptFault). result_ok r) e in
                let no : is_some (commands_in x.meta) ≡ false = ap (λ (o : Option (List Joined)). is_some o) none in
                let x : true ≡ false = sym s ∙ no in cc),
          )),
    )

-- without words the script is not looked at
pub script_unasked : (inputs : List Input) (x : ExecOp) (before : List Rule) → ¬ (IsSome x.meta × HasWord x.meta)
    → Adds (IsBroken inputs (Some (Exec x))) (script_rules x.meta) before before
script_unasked inputs x before n = adds_none (IsBroken inputs (Some (Exec x))) (script_rules x.meta) before
    (one_not (IsBroken inputs (Some (Exec x))) (rule.Script (script_fault x.meta)) (λ b. n b.0.0))

-- what is pushed to nothing is alone
pub pushed_first : (r : Rule) (before after : List Rule) → before ≡ [] → after ≡ before ++ r ∷ [] → after ≡ r ∷ []
pushed_first r before after none e = e ∙ ap (λ (xs : List Rule). xs ++ r ∷ []) none

-- an exec whose `args` are empty has no words
pub no_words : (x : ExecOp) (m : Meta) (b : Bool) → x.meta ≡ Some m → b ≡ eqb (length m.args) 0 → b ≡ true → ¬ (IsSome x.meta × HasWord x.meta)
no_words x m b is e t w =
    let word : 0 < length m.args = subst (λ (o : Option Meta). HasWord o) is w.1 in
    let z : eqb (length m.args) 0 ≡ true = sym e ∙ t in
    elim (cases_eq (length m.args) 0) [
      | inl y ↦ omega (arith, word, y)
      | inr n ↦ (let f : true ≡ false = sym z ∙ ne_eqb (length m.args) 0 n in cc)
    ]

pub no_meta : (x : ExecOp) → x.meta ≡ None → ¬ (IsSome x.meta × HasWord x.meta)
no_meta x is w = let n : is_some x.meta ≡ false = ap (λ (o : Option Meta). is_some o) is in let s = w.0 in let z : true ≡ false = sym s ∙ n in cc

pub has_words : (m : Meta) (b : Bool) → b ≡ eqb (length m.args) 0 → b ≡ false → HasWord (Some m)
has_words m b e f = elim (cases_eq (length m.args) 0) [
  | inl y ↦ absurd (let z : true ≡ false = sym (eq-eqb (length m.args) 0 y) ∙ sym e ∙ f in cc)
  | inr n ↦ omega (arith, n)
]
