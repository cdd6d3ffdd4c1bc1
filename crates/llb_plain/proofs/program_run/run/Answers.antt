use Rattle.std.proofs.Common.{◌<◌, ℕ, List, [], map, length, sym, ap, subst, ◌∙◌, rules}
use Rattle.std.specs.Prelude.{Ok}
use Rattle.std.specs.List.{All}
use Rattle.llb_execution.specs.ModelValues.{mounts_in, shown_in}
use Rattle.llb_model.specs.Caches.{Distinct}
use Rattle.llb_model.specs.Outcome.{Ended, Done, ended}
use Rattle.llb_model.specs.Program.{mount_of, program_of, workspace_on}
use Rattle.llb_model.proofs.Outcomes.{no_needs}
use Rattle.llb_plain.proofs.NoCaches.{bare_on}
use Rattle.llb_plain.proofs.ProgramEnd.{ends_as}
use Rattle.llb_plain.proofs.program_run.run.Goals as goal

pub on-requires-clause-caches : goal.on-requires-clause-caches
on-requires-clause-caches c = c.new.ensures.items ∙ ap (map mount_of) (sym (no_needs c.args.vertex.now c.requires.cacheless))

pub do_further-requires-clause-apart : goal.do_further-requires-clause-apart
do_further-requires-clause-apart c =
    let v = c.args.vertex.now in
    let bare = ap shown_in c.in_ok-workspace.ensures ∙ bare_on c.args.locals.now v v.op.kind c.args.inputs.items c.requires.cacheless in
    subst Distinct (sym bare) tt

pub do_further-requires-clause-within : goal.do_further-requires-clause-within
do_further-requires-clause-within c =
    let v = c.args.vertex.now in
    let bare = ap shown_in c.in_ok-workspace.ensures ∙ bare_on c.args.locals.now v v.op.kind c.args.inputs.items c.requires.cacheless in
    let none : All (λ (m : ℕ). m < mounts_in c.in_ok-workspace.workspace) [] = search rules in
    subst (λ (ms : List ℕ). All (λ (m : ℕ). m < mounts_in c.in_ok-workspace.workspace) ms) (sym bare) none

pub do_further-requires-clause-count : goal.do_further-requires-clause-count
do_further-requires-clause-count c =
    let v = c.args.vertex.now in
    let bare = ap shown_in c.in_ok-workspace.ensures ∙ bare_on c.args.locals.now v v.op.kind c.args.inputs.items c.requires.cacheless in
    ap length c.new-trees.ensures.items ∙ ap length (sym bare)

pub returns-in-Some : goal.returns-in-Some
returns-in-Some c =
    let v = c.args.vertex.now in
    let p = program_of v in
    let f = c.in_ok-further.ensures in
    let ends = ends_as p c.in_ok-steps.steps (workspace_on c.args.locals.now v v.op.kind c.args.inputs.items) c.in_ok-workspace.workspace
    c.do_further.new.workspace c.new-trees.result.items c.do_further.new.trees.items c.in_ok-further.further.fault c.in_ok-further.further.count
    c.in_ok-steps.ensures.steps c.in_ok-workspace.ensures c.new-trees.ensures.items f.all f.left in
    λ graph. ap (λ e. Ok (Ended e)) (ends ∙ ap (ended p c.do_further.new.workspace) c.in-Some.is)

pub returns : goal.returns
returns c =
    let v = c.args.vertex.now in
    let p = program_of v in
    let f = c.in_ok-further.ensures in
    let ends = ends_as p c.in_ok-steps.steps (workspace_on c.args.locals.now v v.op.kind c.args.inputs.items) c.in_ok-workspace.workspace
    c.do_further.new.workspace c.new-trees.result.items c.do_further.new.trees.items c.in_ok-further.further.fault c.in_ok-further.further.count
    c.in_ok-steps.ensures.steps c.in_ok-workspace.ensures c.new-trees.ensures.items f.all f.left in
    λ graph. ap (λ e. Ok (Ended e))
    (ends ∙ ap (ended p c.do_further.new.workspace) c.in_default.is ∙ ap Done (sym (c.new-2.ensures ∙ c.into_outputs-outputs.ensures)))
