use Rattle.std.proofs.Common.{inl, refl}
use Rattle.std.proofs.KnownBytes.{Keeps-refl}
use Rattle.llb_commands.proofs.RunOutput.{stream}
use Rattle.llb_commands.proofs.SteppingOutput.{ends_by}
use Rattle.llb_commands.proofs.stepping.session_over.Goals as goal

pub returns-in-Ok : goal.returns-in-Ok
returns-in-Ok g c = λ workers locals file opens. inl (refl, Keeps-refl (g.E.Write.contents c.args.err.now), c.in-Ok.ensures workers locals file opens)

pub returns-in-Err : goal.returns-in-Err
returns-in-Err g c = λ workers locals file opens.
    ends_by c.args.options workers locals file (stream (g.C.Read.remaining c.args.commands.now) (g.C.Read.remaining c.stepped.new.commands))
    (stream (g.W.Write.contents c.args.out.now) (g.W.Write.contents c.stepped.new.out))
    (stream (g.E.Write.contents c.args.err.now) (g.E.Write.contents c.refusal.new.err)) c.in-Err.fault c.refusal.result
    (c.in-Err.ensures workers locals file opens) c.refusal.ensures
