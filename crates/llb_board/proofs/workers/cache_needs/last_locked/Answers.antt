use Rattle.std.proofs.Common.{◌+◌, cond, Some, sym, ap, ◌∙◌}
use Rattle.llb_loader.specs.Mounts.{key_of}
use Rattle.llb_board.specs.CacheNeeds.{first_held_key}
use Rattle.llb_board.proofs.NeedsOfRemainingMounts.{needs_left, needs_next, none_locked, one_locked}
use Rattle.llb_board.proofs.workers.cache_needs.last_locked.Goals as goal

pub loop-mount-preserved-in_default : goal.loop-mount-preserved-in_default
loop-mount-preserved-in_default c =
    let out = c.args.caches.now.out in
    let v = c.args.vertex.now in
    let i = c.loop-mount.mount-index in
    let m = c.mount-item.result in
    record {
      mounts = c.loop-mount.invariant.mounts;
      shut = sym (ap (first_held_key out) (needs_next v _ i m c.loop-mount.invariant.mounts c.loop-mount-test.true c.mount-item.is)
          ∙ none_locked out i m (key_of v.op.inputs m) (needs_left v (i + 1)) (sym c.in_default.is ∙ c.locked_key_shown.ensures))
          ∙ c.loop-mount.invariant.shut;
    }

pub returns-then-found : goal.returns-then-found
returns-then-found c =
    let out = c.args.caches.now.out in
    let v = c.args.vertex.now in
    let i = c.loop-mount.mount-index in
    let m = c.mount-item.result in
    sym c.loop-mount.invariant.shut ∙ ap (first_held_key out) (needs_next v _ i m c.loop-mount.invariant.mounts c.loop-mount-test.true c.mount-item.is)
    ∙ one_locked out i m (key_of v.op.inputs m) (needs_left v (i + 1)) c.in-Some.key c.look_up-found.result.is_held
    (sym c.in-Some.is ∙ c.locked_key_shown.ensures) c.look_up-found.ensures.held
    ∙ ap (λ b. cond b (Some c.in-Some.key) (first_held_key out (needs_left v (i + 1)))) c.if-found.true

pub loop-mount-preserved : goal.loop-mount-preserved
loop-mount-preserved c =
    let out = c.args.caches.now.out in
    let v = c.args.vertex.now in
    let i = c.loop-mount.mount-index in
    let m = c.mount-item.result in
    record {
      mounts = c.loop-mount.invariant.mounts;
      shut = sym (ap (first_held_key out) (needs_next v _ i m c.loop-mount.invariant.mounts c.loop-mount-test.true c.mount-item.is)
          ∙ one_locked out i m (key_of v.op.inputs m) (needs_left v (i + 1)) c.in-Some.key c.look_up-found.result.is_held
          (sym c.in-Some.is ∙ c.locked_key_shown.ensures) c.look_up-found.ensures.held
          ∙ ap (λ b. cond b (Some c.in-Some.key) (first_held_key out (needs_left v (i + 1)))) c.if-found.false)
          ∙ c.loop-mount.invariant.shut;
    }
