use Rattle.std.proofs.Common.{subst}
use Rattle.std.specs.List.{All}
use Rattle.std.proofs.lemmas.List.{take_all}
use Rattle.std.proofs.lemmas.List.Elements.{All-more, recursion_from_All}
use Rattle.llb_wire.specs.Spelling.{AreBytes}
use Rattle.llb_asm.specs.DisassembledText.{ReadsBack}
use Rattle.llb_asm.proofs.EntryTextRoundTrip as law
use Rattle.llb_asm.proofs.laws.reads_back.Goals as goal

pub loop-entry-preserved : goal.loop-entry-preserved
loop-entry-preserved c =
    All-more AreBytes c.as_slice-entry-items.result.now c.loop-entry.entry-index c.entry-item.result c.loop-entry-test.true c.loop-entry.invariant
    (subst AreBytes c.entry-item.is c.is_bytes.ensures)

pub returns : goal.returns
returns c =
    let items = c.as_slice-entry-items.result.now in
    subst ReadsBack c.as_slice-entry-items.ensures
    (law.reads_back items (recursion_from_All AreBytes items
    (subst (All AreBytes) (take_all c.loop-entry.entry-index items c.loop-entry-test.false) c.loop-entry.invariant)))
