use Rattle.std.proofs.Common.{◌≡◌, take}
use Rattle.llb_loader.specs.LoadResult.{rows_from}
use Rattle.llb_findings.proofs.finding.rows_of.Given as goal

abbrev pub invariant-loop-bytes : goal.invariant-loop-bytes
invariant-loop-bytes l = l.rows.items ≡ rows_from (take l.bytes-index l.entries)
