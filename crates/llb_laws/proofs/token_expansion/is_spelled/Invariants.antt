use Rattle.std.proofs.Common.{◌↔◌, drop, Some}
use Rattle.llb_laws.specs.TokenLists.{IsReading, IsSpelled, ReadsOn}
use Rattle.llb_laws.proofs.token_expansion.is_spelled.Given as goal

abbrev pub invariant-loop-byte : goal.invariant-loop-byte
invariant-loop-byte l = record {
  reading : IsReading l.content l.at;
  same : IsSpelled l.contents l.text l.content ↔ ReadsOn l.contents l.content (drop l.byte-index l.text) (Some l.at);
}
