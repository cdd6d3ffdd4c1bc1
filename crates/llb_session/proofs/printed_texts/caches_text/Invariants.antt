-- The lines of the keys so far.
use Rattle.std.proofs.Common.{◌≡◌, string_bytes}
use Rattle.llb_session.specs.PrintedTexts.{key_lines}
use Rattle.llb_session.proofs.printed_texts.caches_text.Given as goal

abbrev pub invariant-loop-k : goal.invariant-loop-k
invariant-loop-k l = string_bytes l.text ≡ key_lines l.caches.rows l.k
