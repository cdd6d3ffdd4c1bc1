use Rattle.std.proofs.Common.{inl, inr}
use Rattle.std.proofs.KnownBytes.{Keeps-refl}
use Rattle.std.proofs.lemmas.Result.{err_from_is_err_and}
use Rattle.llb_commands.proofs.RunOutput.{drawn_unflushed}
use Rattle.llb_commands.proofs.show.shown.Goals as goal

pub returns : goal.returns
returns g c =
    inr (
      λ h. h,
      drawn_unflushed (g.R.Read.remaining c.args.input.now) (g.W.Write.contents c.args.out.now) (g.W.Write.contents c.graph_over.new.out)
          (g.W.Write.contents c.flush.new.self) c.in_ok-graph.graph c.in_ok-graph.ensures
          c.in-Ok.ensures c.flush.ensures.bytes,
    )

pub returns-in_err-graph : goal.returns-in_err-graph
returns-in_err-graph g c =
    let p = err_from_is_err_and c.from_residual.result c.from_residual.ensures.1 in
    rw (p.1, p.2) (inl (Keeps-refl (g.W.Write.contents c.args.out.now), c.in_err-graph.ensures))
