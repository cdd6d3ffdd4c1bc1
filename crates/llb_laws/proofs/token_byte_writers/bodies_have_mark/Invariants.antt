use Rattle.std.proofs.Common.{◌≡◌, false, take}
use Rattle.std.specs.List.{list_any}
use Rattle.llb_ops.specs.declared.file_op.Action.{Action}
use Rattle.llb_laws.specs.ContentLaws.{body_has_mark}
use Rattle.llb_laws.proofs.token_byte_writers.bodies_have_mark.Given as goal

abbrev pub invariant-loop-action : goal.invariant-loop-action
invariant-loop-action l = list_any (λ (a : Action). body_has_mark a.kind) (take l.action-index l.actions) ≡ false
