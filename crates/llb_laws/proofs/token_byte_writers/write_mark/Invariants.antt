use Rattle.std.proofs.Common.{◌≡◌, false, take}
use Rattle.std.specs.List.{list_any}
use Rattle.llb_applet.specs.declared.joined_commands.Joined.{Joined}
use Rattle.llb_laws.specs.ContentLaws.{writes_mark}
use Rattle.llb_laws.specs.TokenPlans.{at_root}
use Rattle.llb_laws.proofs.token_byte_writers.write_mark.Given as goal

abbrev pub invariant-loop-joined : goal.invariant-loop-joined
invariant-loop-joined l = list_any (λ (c : Joined). writes_mark (at_root l.env) c.command) (take l.joined-index l.commands) ≡ false
