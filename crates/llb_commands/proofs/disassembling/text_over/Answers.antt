use Rattle.std.proofs.Common.{List, subst, sym}
use Rattle.llb_asm.specs.DisassembledText.{Formed, plain_text}
use Rattle.llb_commands.specs.AssemblyParts.{AreBy}
use Rattle.llb_commands.specs.WrittenPrefix.{PrintsOut}
use Rattle.llb_commands.proofs.disassembling.text_over.Goals as goal

pub returns-in-Entries : goal.returns-in-Entries
returns-in-Entries g c =
    subst (λ w. (xs : List Formed) × AreBy w c.args.entries.now xs
    × PrintsOut (g.W.Write.contents c.args.out.now) (g.W.Write.contents c.entries_over.new.out) (plain_text xs) c.entries_over.result)
    (sym c.in-Entries.is) c.entries_over.ensures

pub returns-in-Ops : goal.returns-in-Ops
returns-in-Ops g c =
    subst (λ w. (xs : List Formed) × AreBy w c.args.entries.now xs
    × PrintsOut (g.W.Write.contents c.args.out.now) (g.W.Write.contents c.words_over.new.out) (plain_text xs) c.words_over.result)
    (sym c.in-Ops.is) c.words_over.ensures
