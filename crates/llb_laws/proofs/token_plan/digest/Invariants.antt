use Rattle.std.proofs.Common.{◌≡◌, false, take}
use Rattle.std.specs.List.{list_any}
use Rattle.llb_applet.specs.declared.joined_commands.Joined.{Joined}
use Rattle.llb_laws.specs.ContentLaws.{digests}
use Rattle.llb_laws.proofs.token_plan.digest.Given as goal

abbrev pub invariant-loop-joined : goal.invariant-loop-joined
invariant-loop-joined l = list_any (λ (c : Joined). digests c.command) (take l.joined-index l.commands) ≡ false
