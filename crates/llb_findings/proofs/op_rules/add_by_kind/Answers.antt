use Rattle.llb_findings.proofs.BrokenRules.{of_source, of_file, of_exec, of_merge, of_build, of_diff}
use Rattle.llb_findings.proofs.op_rules.add_by_kind.Goals as goal

pub returns-in_ok-add_source-in-Source : goal.returns-in_ok-add_source-in-Source
returns-in_ok-add_source-in-Source c = of_source c.args.inputs.now c.args.kind.now c.in-Source.source _ _ c.in-Source.is
    (rw c.get.ensures at c.in_ok-add_source-in-Source.ensures c.args.inputs.now)

pub returns-in_ok-add_file-in-File : goal.returns-in_ok-add_file-in-File
returns-in_ok-add_file-in-File c = of_file c.args.inputs.now c.args.kind.now c.in-File.file _ _ c.in-File.is c.in_ok-add_file-in-File.ensures

pub returns-in_ok-add_exec-in-Exec : goal.returns-in_ok-add_exec-in-Exec
returns-in_ok-add_exec-in-Exec c = of_exec c.args.inputs.now c.args.kind.now c.in-Exec.exec _ _ c.in-Exec.is
    (rw c.get-in-Exec.ensures at c.in_ok-add_exec-in-Exec.ensures)

pub returns-in_ok-add_merge-in-Merge : goal.returns-in_ok-add_merge-in-Merge
returns-in_ok-add_merge-in-Merge c = of_merge c.args.inputs.now c.args.kind.now c.in-Merge.merge _ _ c.in-Merge.is c.in_ok-add_merge-in-Merge.ensures

pub returns-in-Build : goal.returns-in-Build
returns-in-Build c = of_build c.args.inputs.now c.args.kind.now _ _ c.in-Build.is

pub returns-in-Diff : goal.returns-in-Diff
returns-in-Diff c = of_diff c.args.inputs.now c.args.kind.now _ _ c.in-Diff.is
