use Rattle.std.proofs.Common.{◌≡◌, ◌∙◌, refl}
use Rattle.llb_applet.specs.declared.fault.ScriptFault.{ScriptFault}
use Rattle.llb_loader.specs.declared.fault.Rule.{Rule}
use Rattle.llb_loader.specs.declared.fault.Rule.TheVariants as rule
use Rattle.llb_loader.specs.Faults.{rule_name, rule_text}
use Rattle.llb_loader.proofs.fault.RuleDisplay.fmt.Goals as goal

-- all but the rule of scripts print their names
name_alone : (r : Rule) → ((f : ScriptFault) → ¬ (r ≡ rule.Script f)) → rule_name r ≡ rule_text r
name_alone rule.NoKind other = refl
name_alone rule.LocalName other = refl
name_alone rule.NoActions other = refl
name_alone rule.ActionInput other = refl
name_alone rule.ActionOutput other = refl
name_alone rule.NoMeta other = refl
name_alone rule.NoArgs other = refl
name_alone rule.NoMounts other = refl
name_alone rule.NoRoot other = refl
name_alone rule.BadPath other = refl
name_alone rule.SameDest other = refl
name_alone rule.MountKind other = refl
name_alone rule.MountInput other = refl
name_alone rule.MountOutput other = refl
name_alone rule.NoCacheOpt other = refl
name_alone rule.Sharing other = refl
name_alone rule.CacheTwice other = refl
name_alone (rule.Script f) other = absurd (other f refl)
name_alone rule.MergeInput other = refl

pub returns-in_default-clause-writes : goal.returns-in_default-clause-writes
returns-in_default-clause-writes g c =
    let named = c.name.ensures ∙ name_alone c.args.self.now c.in_default.not-Script in
    rw (← named) c.write_str.ensures.writes
