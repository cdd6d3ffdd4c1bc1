use Rattle.std.proofs.Common.{subst, inl, inr}
use Rattle.std.specs.Prelude.{Ok, Err}
use Rattle.std.proofs.KnownBytes.{Keeps-refl}
use Rattle.std.proofs.lemmas.Result.{err_from_is_err_and}
use Rattle.llb_session.specs.declared.session.Session.{Session}
use Rattle.llb_commands.specs.Running.{Opens}
use Rattle.llb_commands.proofs.RunOutput.{stream}
use Rattle.llb_commands.proofs.SteppingOutput.{begins, tells_session}
use Rattle.llb_commands.proofs.stepping.stepped.Goals as goal

pub returns-in-Ok : goal.returns-in-Ok
returns-in-Ok g c = λ workers locals file opens.
    let (graph, loads, board) = subst (Opens workers locals file) c.in_ok-board.was opens in
    let session : Session = record { stepper = c.new-stepper.result; options = c.args.options } in
    let begun = begins c.args.options locals graph workers c.new-stepper.result c.in_ok-board.board c.new-stepper.ensures board in
    tells_session c.args.options workers locals file (stream (g.C.Read.remaining c.args.commands.now) (g.C.Read.remaining c.converse.new.commands))
    (stream (g.W.Write.contents c.args.out.now) (g.W.Write.contents c.converse.new.out)) graph session c.converse.new.session
    (Ok c.in-Ok.field-0) loads begun c.in-Ok.ensures

pub returns : goal.returns
returns g c = λ workers locals file opens.
    let (graph, loads, board) = subst (Opens workers locals file) c.in_ok-board.was opens in
    let fault = c.in-Err.fault in
    let session : Session = record { stepper = c.new-stepper.result; options = c.args.options } in
    let begun = begins c.args.options locals graph workers c.new-stepper.result c.in_ok-board.board c.new-stepper.ensures board in
    inr (
      fault,
      c.session_fault.ensures,
      tells_session c.args.options workers locals file (stream (g.C.Read.remaining c.args.commands.now) (g.C.Read.remaining c.converse.new.commands))
          (stream (g.W.Write.contents c.args.out.now) (g.W.Write.contents c.converse.new.out)) graph session c.converse.new.session
          (Err fault) loads begun c.in-Err.ensures,
    )

pub returns-in_err-board : goal.returns-in_err-board
returns-in_err-board g c = λ workers locals file opens.
    let tells = subst (Opens workers locals file) c.in_err-board.was opens in
    let p = err_from_is_err_and c.from_residual.result c.from_residual.ensures.1 in
    rw (p.1, p.2) (inl (Keeps-refl (g.W.Write.contents c.args.out.now), tells))
