-- The first rule that is broken, from groups of rules that are checked one after another.
use Rattle.std.proofs.Common.{◌≡◌, List, [], ◌∷◌, ◌++◌, Option, Some, None, Result, Ok, Err, IfOk, inl, inr, refl, sym, subst}
use Rattle.llb_ops.specs.declared.op.Input.{Input}
use Rattle.llb_ops.specs.declared.op.Kind.{Kind}
use Rattle.llb_ops.specs.declared.op.Kind.TheVariants.{Source}
use Rattle.llb_ops.specs.declared.source.SourceOp.{SourceOp}
use Rattle.llb_loader.specs.declared.fault.Rule.{Rule}
use Rattle.llb_loader.specs.declared.fault.Rule.TheVariants as rule
use Rattle.llb_loader.specs.Rules.{Meets, MeetsAll, Breaks, kind_fault, rules_on}
use Rattle.llb_loader.specs.RulesByKind.{IsFirstBroken, source_rules}

-- a rule that is met, put before other rules, does not change which rule is the first that is broken
broken_after : (inputs : List Input) (kind : Option Kind) (r : Rule) (rs : List Rule) (broken : Option Rule) → Meets inputs kind r
    → IsFirstBroken inputs kind rs broken → IsFirstBroken inputs kind (r ∷ rs) broken
broken_after inputs kind r rs None met rest = (met, rest)
broken_after inputs kind r rs (Some b) met rest = inr (met, rest)

-- what is broken first among some rules is broken first where more follow
pub broken_before : (inputs : List Input) (kind : Option Kind) (rs more : List Rule) (b : Rule) → Breaks inputs kind rs b → Breaks inputs kind (rs ++ more) b
broken_before inputs kind [] more b h = absurd h
broken_before inputs kind (r ∷ rs) more b h = elim h [ inl here ↦ inl here | inr later ↦ inr (later.0, broken_before inputs kind rs more b later.1) ]

-- if some rules are met, the first broken rule of these and more is the first broken one of the rules that are more
pub broken_behind : (inputs : List Input) (kind : Option Kind) (rs more : List Rule) (broken : Option Rule) → MeetsAll inputs kind rs
    → IsFirstBroken inputs kind more broken → IsFirstBroken inputs kind (rs ++ more) broken
broken_behind inputs kind [] more broken met rest = rest
broken_behind inputs kind (r ∷ rs) more broken met rest = broken_after inputs kind r (rs ++ more) broken met.0
    (broken_behind inputs kind rs more broken met.1 rest)

-- if some rules are met, and more rules too, all of them together are met
pub met_both : (inputs : List Input) (kind : Option Kind) (rs more : List Rule) → MeetsAll inputs kind rs → MeetsAll inputs kind more
    → MeetsAll inputs kind (rs ++ more)
met_both inputs kind rs more met rest = broken_behind inputs kind rs more None met rest

-- the first broken rule that a call returns for some rules is also the first one if rules that are met come before these
pub told_behind : {E : Type 0} (inputs : List Input) (kind : Option Kind) (rs more : List Rule) (told : Result (Option Rule) E)
    → MeetsAll inputs kind rs → IfOk told (λ b. IsFirstBroken inputs kind more b) → IfOk told (λ b. IsFirstBroken inputs kind (rs ++ more) b)
told_behind inputs kind rs more (Ok b) met rest = broken_behind inputs kind rs more b met rest
told_behind inputs kind rs more (Err e) met rest = rest

-- what a call returns holds for these inputs if it holds for any inputs
pub told_here : {E : Type 0} (inputs : List Input) (kind : Option Kind) (rs : List Rule) (told : Result (Option Rule) E)
    → IfOk told (λ b. (is : List Input) → IsFirstBroken is kind rs b) → IfOk told (λ b. IsFirstBroken inputs kind rs b)
told_here inputs kind rs (Ok b) h = h inputs
told_here inputs kind rs (Err e) h = h

broken_among : (inputs : List Input) (kind : Option Kind) (rs more : List Rule) (broken : Option Rule)
    → IsFirstBroken inputs kind rs broken → MeetsAll inputs kind more → IsFirstBroken inputs kind (rs ++ more) broken
broken_among inputs kind rs more None h met = broken_behind inputs kind rs more None h met
broken_among inputs kind rs more (Some b) h met = broken_before inputs kind rs more b h

-- the first broken rule of the checked ones is the first of all rules if the rules before and after the checked ones are met
placed : (inputs : List Input) (kind : Option Kind) (before own behind : List Rule) (broken : Option Rule)
    → MeetsAll inputs kind before → IsFirstBroken inputs kind own broken → MeetsAll inputs kind behind
    → IsFirstBroken inputs kind (before ++ (own ++ behind)) broken
placed inputs kind before own behind broken first h last = broken_behind inputs kind before (own ++ behind) broken first
    (broken_among inputs kind own behind broken h last)

-- ---- a source breaks no rule of the other kinds

of_source : (inputs : List Input) (s : SourceOp) (broken : Option Rule) → IsFirstBroken inputs (Some (Source s)) source_rules broken
    → IsFirstBroken inputs (Some (Source s)) (rules_on (Some (Source s))) broken
of_source inputs s broken h = placed inputs (Some (Source s)) (rule.NoKind ∷ []) source_rules
    (rule.NoActions ∷ rule.ActionInput ∷ rule.ActionOutput ∷ rule.NoMeta ∷ rule.NoArgs ∷ rule.NoMounts ∷ rule.NoRoot ∷ rule.BadPath
    ∷ rule.SameDest ∷ rule.MountKind ∷ rule.MountInput ∷ rule.MountOutput ∷ rule.NoCacheOpt ∷ rule.Sharing ∷ rule.CacheTwice
    ∷ rule.Script (kind_fault (Some (Source s))) ∷ rule.MergeInput ∷ []) broken
    (refl, tt) h
    (tt, (tt, (tt, (tt, (tt, (tt, (tt, (tt, (tt, (tt, (tt, (tt, (tt, (tt, (tt, (tt, (tt, tt)))))))))))))))))

-- a source breaks no rule of the other kinds, so its first broken rule among the rules on sources is its first among all rules
pub of_source_at : (inputs : List Input) (kind : Kind) (s : SourceOp) (broken : Option Rule) → kind ≡ (Source s)
    → IsFirstBroken inputs (Some (Source s)) source_rules broken → IsFirstBroken inputs (Some kind) (rules_on (Some kind)) broken
of_source_at inputs kind s broken is h = subst (λ (k : Kind). IsFirstBroken inputs (Some k) (rules_on (Some k)) broken) (sym is) (of_source inputs s broken h)
