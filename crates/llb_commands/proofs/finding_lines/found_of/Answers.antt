use Rattle.llb_commands.proofs.finding_lines.found_of.Goals as goal

pub returns-in-Ok : goal.returns-in-Ok
returns-in-Ok c = record { all = c.in-Ok.ensures.found; begins = c.in-Ok.ensures.begins }
