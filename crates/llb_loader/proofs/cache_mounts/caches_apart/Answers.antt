use Rattle.std.proofs.Common.{◌≡◌, Some, None, sym, ◌∙◌, arith}
use Rattle.std.proofs.lemmas.List.{length-map}
use Rattle.std.specs.BTreeSet.{contains}
use Rattle.llb_loader.specs.Mounts.{key_of, keys_of, value_at}
use Rattle.llb_loader.specs.KeyOrder.{key_cmp, key_cmp-IsTotalOrder}
use Rattle.llb_loader.proofs.KeyOrder.{key_cmp-IsAntisymmetric}
use Rattle.llb_loader.proofs.OutputNumbers.{true_when, false_when}
use Rattle.llb_loader.proofs.DistinctValues.{when_not_false, when_not_true, key_read, seen_skip, seen_more, not_seen, already_seen, apart_skip, apart_more}
use Rattle.llb_loader.proofs.DistinctValues.{apart_end}
use Rattle.llb_loader.proofs.cache_mounts.caches_apart.Goals as goal

pub loop-mount-preserved-in_default : goal.loop-mount-preserved-in_default
loop-mount-preserved-in_default c =
    let keys = keys_of c.args.inputs.now c.args.mounts.now in
    let read = key_read c.args.inputs.now c.args.mounts.now c.loop-mount.mount-index c.mount-item.result c.loop-mount-test.true c.mount-item.is in
    let none : value_at keys c.loop-mount.mount-index ≡ None = read ∙ sym c.key_of.ensures ∙ c.in_default.is in
    record {
      seen = seen_skip keys c.loop-mount.mount-index (contains key_cmp c.loop-mount.seen) none c.loop-mount.invariant.seen;
      apart = apart_skip keys c.loop-mount.mount-index none c.loop-mount.invariant.apart;
    }

pub returns-then-not-branch : goal.returns-then-not-branch
returns-then-not-branch c =
    let keys = keys_of c.args.inputs.now c.args.mounts.now in
    let read = key_read c.args.inputs.now c.args.mounts.now c.loop-mount.mount-index c.mount-item.result c.loop-mount-test.true c.mount-item.is in
    let here : value_at keys c.loop-mount.mount-index ≡ Some c.in-Some.key = read ∙ sym c.key_of.ensures ∙ c.in-Some.is in
    let held = when_not_false (contains key_cmp c.loop-mount.seen c.in-Some.key) (sym c.in_ok-insert.ensures.added ∙ c.if-not-branch.true) in
    false_when (already_seen keys c.loop-mount.mount-index c.in-Some.key (contains key_cmp c.loop-mount.seen) here held c.loop-mount.invariant.seen)

pub loop-mount-preserved : goal.loop-mount-preserved
loop-mount-preserved c =
    let keys = keys_of c.args.inputs.now c.args.mounts.now in
    let read = key_read c.args.inputs.now c.args.mounts.now c.loop-mount.mount-index c.mount-item.result c.loop-mount-test.true c.mount-item.is in
    let here : value_at keys c.loop-mount.mount-index ≡ Some c.in-Some.key = read ∙ sym c.key_of.ensures ∙ c.in-Some.is in
    let fresh = when_not_true (contains key_cmp c.loop-mount.seen c.in-Some.key) (sym c.in_ok-insert.ensures.added ∙ c.if-not-branch.false) in
    record {
      seen = seen_more key_cmp key_cmp-IsTotalOrder key_cmp-IsAntisymmetric keys c.loop-mount.mount-index c.in-Some.key
          (contains key_cmp c.loop-mount.seen) (contains key_cmp c.insert.new.self)
          here c.in_ok-insert.ensures.updates.0 c.loop-mount.invariant.seen;
      apart = apart_more keys c.loop-mount.mount-index
          (not_seen keys c.loop-mount.mount-index c.in-Some.key (contains key_cmp c.loop-mount.seen) here fresh c.loop-mount.invariant.seen)
          c.loop-mount.invariant.apart;
    }

pub returns : goal.returns
returns c = true_when (apart_end (keys_of c.args.inputs.now c.args.mounts.now) c.loop-mount.mount-index
    (let e = length-map c.args.mounts.now (key_of c.args.inputs.now) in let h = c.loop-mount-test.false in omega (arith, e, h)) c.loop-mount.invariant.apart)
