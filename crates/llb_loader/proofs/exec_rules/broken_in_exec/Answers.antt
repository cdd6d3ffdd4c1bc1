use Rattle.std.proofs.Common.{◌++◌, Option, Some, subst}
use Rattle.llb_ops.specs.declared.op.Kind.TheVariants.{Exec}
use Rattle.llb_loader.specs.declared.fault.Rule.{Rule}
use Rattle.llb_loader.specs.RulesByKind.{IsFirstBroken, word_rules, path_rules, mount_rules, cache_rules, script_rules}
use Rattle.llb_loader.proofs.FirstBrokenRule.{broken_before, broken_behind, met_both, told_behind, told_here}
use Rattle.llb_loader.proofs.exec_rules.broken_in_exec.Goals as goal

pub returns-in-Some : goal.returns-in-Some
returns-in-Some c =
    broken_before c.args.inputs.now (Some (Exec c.args.exec.now)) word_rules
    (path_rules ++ (mount_rules ++ (cache_rules ++ script_rules c.args.exec.now.meta))) c.in-Some.rule (c.in-Some.ensures c.args.inputs.now)

pub returns-in-Some-2 : goal.returns-in-Some-2
returns-in-Some-2 c =
    let found = subst (λ (o : Option Rule). IsFirstBroken c.args.inputs.now (Some (Exec c.args.exec.now)) path_rules o) c.in-Some-2.is
    (c.in_ok-rule.ensures c.args.inputs.now) in
    broken_behind c.args.inputs.now (Some (Exec c.args.exec.now)) word_rules
    (path_rules ++ (mount_rules ++ (cache_rules ++ script_rules c.args.exec.now.meta))) (Some c.in-Some-2.rule) (c.in_default.ensures c.args.inputs.now)
    (broken_before c.args.inputs.now (Some (Exec c.args.exec.now)) path_rules
    (mount_rules ++ (cache_rules ++ script_rules c.args.exec.now.meta)) c.in-Some-2.rule found)

pub returns-in-Some-3 : goal.returns-in-Some-3
returns-in-Some-3 c =
    let paths = subst (λ (o : Option Rule). IsFirstBroken c.args.inputs.now (Some (Exec c.args.exec.now)) path_rules o) c.in_default-2.is
    (c.in_ok-rule.ensures c.args.inputs.now) in
    let found = subst (λ (o : Option Rule). IsFirstBroken c.args.inputs.now (Some (Exec c.args.exec.now)) mount_rules o) c.in-Some-3.is
    c.in_ok-rule-2.ensures in
    broken_behind c.args.inputs.now (Some (Exec c.args.exec.now)) word_rules
    (path_rules ++ (mount_rules ++ (cache_rules ++ script_rules c.args.exec.now.meta))) (Some c.in-Some-3.rule) (c.in_default.ensures c.args.inputs.now)
    (broken_behind c.args.inputs.now (Some (Exec c.args.exec.now)) path_rules
    (mount_rules ++ (cache_rules ++ script_rules c.args.exec.now.meta)) (Some c.in-Some-3.rule) paths
    (broken_before c.args.inputs.now (Some (Exec c.args.exec.now)) mount_rules (cache_rules ++ script_rules c.args.exec.now.meta) c.in-Some-3.rule found))

pub returns-in-Some-4 : goal.returns-in-Some-4
returns-in-Some-4 c =
    let paths = subst (λ (o : Option Rule). IsFirstBroken c.args.inputs.now (Some (Exec c.args.exec.now)) path_rules o) c.in_default-2.is
    (c.in_ok-rule.ensures c.args.inputs.now) in
    let mounts = subst (λ (o : Option Rule). IsFirstBroken c.args.inputs.now (Some (Exec c.args.exec.now)) mount_rules o) c.in_default-3.is
    c.in_ok-rule-2.ensures in
    let found = subst (λ (o : Option Rule). IsFirstBroken c.args.inputs.now (Some (Exec c.args.exec.now)) cache_rules o) c.in-Some-4.is
    c.in_ok-rule-3.ensures in
    broken_behind c.args.inputs.now (Some (Exec c.args.exec.now)) word_rules
    (path_rules ++ (mount_rules ++ (cache_rules ++ script_rules c.args.exec.now.meta))) (Some c.in-Some-4.rule) (c.in_default.ensures c.args.inputs.now)
    (broken_behind c.args.inputs.now (Some (Exec c.args.exec.now)) path_rules
    (mount_rules ++ (cache_rules ++ script_rules c.args.exec.now.meta)) (Some c.in-Some-4.rule) paths
    (broken_behind c.args.inputs.now (Some (Exec c.args.exec.now)) mount_rules (cache_rules ++ script_rules c.args.exec.now.meta) (Some c.in-Some-4.rule) mounts
    (broken_before c.args.inputs.now (Some (Exec c.args.exec.now)) cache_rules (script_rules c.args.exec.now.meta) c.in-Some-4.rule found)))

pub broken_script-requires-clause-there : goal.broken_script-requires-clause-there
broken_script-requires-clause-there c = (c.in_default.ensures c.args.inputs.now).0

pub broken_script-requires-clause-words : goal.broken_script-requires-clause-words
broken_script-requires-clause-words c = (c.in_default.ensures c.args.inputs.now).1.0

pub returns : goal.returns
returns c =
    let paths = subst (λ (o : Option Rule). IsFirstBroken c.args.inputs.now (Some (Exec c.args.exec.now)) path_rules o) c.in_default-2.is
    (c.in_ok-rule.ensures c.args.inputs.now) in
    let mounts = subst (λ (o : Option Rule). IsFirstBroken c.args.inputs.now (Some (Exec c.args.exec.now)) mount_rules o) c.in_default-3.is
    c.in_ok-rule-2.ensures in
    let caches = subst (λ (o : Option Rule). IsFirstBroken c.args.inputs.now (Some (Exec c.args.exec.now)) cache_rules o) c.in_default-4.is
    c.in_ok-rule-3.ensures in
    told_behind c.args.inputs.now (Some (Exec c.args.exec.now)) (word_rules ++ (path_rules ++ (mount_rules ++ cache_rules)))
    (script_rules c.args.exec.now.meta) c.broken_script.result
    (met_both c.args.inputs.now (Some (Exec c.args.exec.now)) word_rules (path_rules ++ (mount_rules ++ cache_rules)) (c.in_default.ensures c.args.inputs.now)
    (met_both c.args.inputs.now (Some (Exec c.args.exec.now)) path_rules (mount_rules ++ cache_rules) paths
    (met_both c.args.inputs.now (Some (Exec c.args.exec.now)) mount_rules cache_rules mounts caches)))
    (told_here c.args.inputs.now (Some (Exec c.args.exec.now)) (script_rules c.args.exec.now.meta) c.broken_script.result c.broken_script.ensures)
