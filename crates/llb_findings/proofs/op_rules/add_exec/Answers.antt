use Rattle.std.proofs.Common.{Some, ◌++◌}
use Rattle.llb_ops.specs.declared.op.Kind.TheVariants.{Exec}
use Rattle.llb_loader.specs.RulesByKind.{word_rules, path_rules, mount_rules, cache_rules, script_rules}
use Rattle.llb_findings.specs.Findings.{IsBroken}
use Rattle.llb_findings.proofs.SelectionParts.{adds_both}
use Rattle.llb_findings.proofs.op_rules.add_exec.Goals as goal

pub returns : goal.returns
returns c =
    let inputs = c.args.inputs.now in
    let P = IsBroken inputs (Some (Exec c.args.exec.now)) in
    let scripts = script_rules c.args.exec.now.meta in
    adds_both P word_rules (path_rules ++ (mount_rules ++ (cache_rules ++ scripts))) _ _ _ (c.in_ok-add_words.ensures inputs)
    (adds_both P path_rules (mount_rules ++ (cache_rules ++ scripts)) _ _ _ (c.in_ok-add_paths.ensures inputs)
    (adds_both P mount_rules (cache_rules ++ scripts) _ _ _ c.in_ok-add_mounts.ensures
    (adds_both P cache_rules scripts _ _ _ c.in_ok-add_caches.ensures (c.in_ok-add_script.ensures inputs))))
