use Rattle.llb_session.specs.LineReplies.{end_line}
use Rattle.llb_session.specs.PrintedTexts.{fault_line}
use Rattle.llb_session.proofs.ConsecutiveTexts.{cut_before, ends_after}
use Rattle.llb_session.proofs.answering.refuse.Goals as goal

pub returns-in-Ok : goal.returns-in-Ok
returns-in-Ok g c =
    ends_after (g.W.Write.contents c.args.out.now) (g.W.Write.contents c.write_fault.new.out) (g.W.Write.contents c.end_reply.new.out)
    (fault_line c.args.fault.now) (end_line c.args.ends) c.end_reply.result c.in-Ok.ensures c.end_reply.ensures

pub returns-in-Err : goal.returns-in-Err
returns-in-Err g c =
    cut_before (g.W.Write.contents c.args.out.now) (g.W.Write.contents c.write_fault.new.out) (fault_line c.args.fault.now) (end_line c.args.ends)
    c.in-Err.ensures
