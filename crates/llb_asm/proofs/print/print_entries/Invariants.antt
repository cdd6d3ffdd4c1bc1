-- The entries so far are written, and their labels are those at hand.
use Rattle.std.proofs.Common.{◌≡◌, ◌++◌, ℕ, List, drop}
use Rattle.std.specs.Io.KnownBytes.{Appends}
use Rattle.llb_asm.specs.DisassembledText.{Formed, AreFormedBy, plain_lines, text_of_lines}
use Rattle.llb_asm.specs.PrintedPrefix.{HasBy}
use Rattle.llb_asm.proofs.print.print_entries.Given as goal

abbrev pub invariant-loop-entry : goal.invariant-loop-entry
invariant-loop-entry g l = record {
  prints : (xs : List Formed) → AreFormedBy (HasBy l.wording) l.entries xs → (done : List ℕ) × Appends (g.W.Sink.taken l.fn.out) (g.W.Sink.taken l.out) done
      × (text_of_lines (plain_lines l.fn.labels xs) ≡ done ++ text_of_lines (plain_lines l.labels (drop l.entry-index xs)));
  same : g.W.Sink.lender l.out ≡ g.W.Sink.lender l.fn.out;
}
