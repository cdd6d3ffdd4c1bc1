use Rattle.llb_asm.proofs.EntriesOrFirstRefusal.{answers}
use Rattle.llb_asm.proofs.assembling.assemble.Goals as goal

pub returns : goal.returns
returns c = answers c.args.text.now c.run_lines.result c.run_lines.ensures
