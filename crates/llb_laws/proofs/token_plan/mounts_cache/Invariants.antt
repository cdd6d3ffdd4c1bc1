use Rattle.std.proofs.Common.{◌≡◌, false, take}
use Rattle.std.specs.Prelude.{is_some}
use Rattle.std.specs.List.{list_any}
use Rattle.llb_ops.specs.declared.exec.Mount.{Mount}
use Rattle.llb_loader.specs.Mounts.{cache_in}
use Rattle.llb_loader.specs.Rules.{kind_mounts}
use Rattle.llb_laws.proofs.token_plan.mounts_cache.Given as goal

abbrev pub invariant-loop-mount : goal.invariant-loop-mount
invariant-loop-mount l = record {
  mounts : l.mount-items ≡ kind_mounts l.vertex.op.kind;
  none : list_any (λ (m : Mount). is_some (cache_in m)) (take l.mount-index (kind_mounts l.vertex.op.kind)) ≡ false;
}
