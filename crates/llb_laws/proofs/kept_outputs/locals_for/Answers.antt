use Rattle.std.proofs.Common.{List, length, refl, subst, arith}
use Rattle.std.proofs.lemmas.Option.{slice_get_read}
use Rattle.llb_loader.specs.declared.graph.Vertex.{Vertex}
use Rattle.llb_laws.specs.KeptOutputs.{HaveTrees}
use Rattle.llb_laws.proofs.CopyOrigins.{one_tree_more}
use Rattle.llb_laws.proofs.kept_outputs.locals_for.Goals as goal

pub loop-w-preserved : goal.loop-w-preserved
loop-w-preserved c =
    let vs = c.vertices-vertices.result.now in
    one_tree_more c.args.board.now c.args.locals.now c.args.kept.now vs c.loop-w.w c.index-vertices-w.result c.loop-w.made c.add_tree.new.made
    c.loop-w.invariant (slice_get_read vs _ c.loop-w.w c.index-vertices-w.result refl c.loop-w-test.true c.index-vertices-w.is)
    (c.in_ok-add_tree.ensures.yes c.if-not-branch.false)

pub returns-clause-some : goal.returns-clause-some
returns-clause-some c =
    subst (λ (us : List Vertex). HaveTrees c.args.board.now c.args.locals.now c.args.kept.now us (length us) c.loop-w.made) c.vertices-vertices.ensures.all
    (λ w y name l at named. c.loop-w.invariant w y name (omega (arith, l, c.loop-w-test.false)) at named)
