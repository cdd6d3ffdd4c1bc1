use Rattle.std.proofs.Common.{sym, subst}
use Rattle.llb_commands.specs.MatchText.{IsRefusedOfTwo}
use Rattle.llb_commands.specs.Running.{IsRefusal}
use Rattle.llb_commands.specs.declared.fault.ProgramFault.{ProgramFault}
use Rattle.llb_commands.proofs.MatchedDefinitions.{refuses_two}
use Rattle.llb_commands.proofs.match_text.matches_of.Goals as goal

pub returns-in-Err-clause-refused : goal.returns-in-Err-clause-refused
returns-in-Err-clause-refused c =
    subst (λ (p : ProgramFault). IsRefusal p → IsRefusedOfTwo c.args.old.now p c.args.bytes.now) (sym c.passed_on.ensures)
    (refuses_two c.args.old.now c.args.bytes.now c.in-Err.fault c.in-Err.ensures.refused)
