use Rattle.std.proofs.Common.{inl}
use Rattle.std.proofs.KnownBytes.{Keeps-refl}
use Rattle.std.proofs.lemmas.Result.{err_from_is_err_and}
use Rattle.llb_commands.proofs.assembling.assembled.Goals as goal

pub returns-in_err-definition : goal.returns-in_err-definition
returns-in_err-definition g c =
    let p = err_from_is_err_and c.from_residual.result c.from_residual.ensures.1 in
    rw (p.1, p.2) (inl (Keeps-refl (g.W.Write.contents c.args.out.now), c.in_err-definition.ensures))
