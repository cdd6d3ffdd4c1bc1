use Rattle.std.proofs.Common.{◌≡◌, length}
use Rattle.llb_asm.specs.LineReader.{run_from, between, progress_of}
use Rattle.llb_asm.proofs.RemainingLines.{kept_behind}
use Rattle.llb_asm.proofs.assembling.read_lines.Given as goal

abbrev pub invariant-loop-line : goal.invariant-loop-line
invariant-loop-line l =
    (l.number ≡ length l.yielded) × (run_from 0 (between l.fn.earlier) (kept_behind 0 l.text) ≡ run_from l.last (progress_of l.earlier l.current) (kept_behind
    (length l.yielded) l.text))
