use Rattle.llb_asm.proofs.HexadecimalDigits.{no_text_spells}
use Rattle.llb_asm.proofs.values.bytes_spelled.Goals as goal

pub returns-in-Err : goal.returns-in-Err
returns-in-Err c = no_text_spells c.args.text.now c.in-Err.ensures.cases.0
