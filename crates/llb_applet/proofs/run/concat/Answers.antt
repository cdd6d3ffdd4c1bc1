use Rattle.std.proofs.Common.{Option, List, ℕ, subst}
use Rattle.std.specs.Prelude.{IsSome, slice_get, unwrap_or}
use Rattle.llb_applet.specs.Commands.{path_by}
use Rattle.llb_applet.proofs.PathsOfWords.{on_err_both, writes_first}
use Rattle.llb_applet.proofs.run.concat.Goals as goal

pub returns-clause-last : goal.returns-clause-last
returns-clause-last c =
    let setting = c.args.setting.now in
    let view = c.args.view.now in
    let out = c.args.out.now in
    let parts = c.args.parts.now in
    on_err_both c.write_some.result (IsSome c.in_ok-content.content) (IsSome (path_by setting out))
    (IsSome (path_by setting (unwrap_or (slice_get parts 0) out)))
    (λ all path. writes_first setting view out parts
    (subst (λ (o : Option (List ℕ)). IsSome o) c.in_ok-content.ensures.content all) path) c.write_some.ensures.last c.write_some.ensures.path
