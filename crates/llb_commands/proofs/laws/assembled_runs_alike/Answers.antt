use Rattle.std.proofs.Common.{subst}
use Rattle.llb_loader.specs.UniqueResult.{HasOneAnswerIn}
use Rattle.llb_commands.proofs.SameEntriesSameOutput.{runs_alike}
use Rattle.llb_commands.proofs.laws.assembled_runs_alike.Goals as goal

pub returns : goal.returns
returns c =
    runs_alike c.args.text.now c.args.bytes.now c.args.entries.now c.one_answer.ensures
    (subst HasOneAnswerIn c.as_slice.ensures c.one_answer_in.ensures) c.definition_is_read_again.ensures c.is_bytes.ensures
