use Rattle.std.proofs.Common.{◌≡◌, map, take}
use Rattle.llb_wire.specs.Digest.{digest_text}
use Rattle.llb_laws.proofs.renaming.digests_of.Given as goal

abbrev pub invariant-loop-entry : goal.invariant-loop-entry
invariant-loop-entry l = l.texts.items ≡ map digest_text (take l.entry-index l.entries)
