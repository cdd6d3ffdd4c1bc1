use Rattle.std.proofs.Common.{◌≡◌, ℕ, ◌<◌, length, vec_len, vec_capacity, Result, Ok, Err, IsOk, is_ok, rules, refl, sym, ap, ◌∙◌, arith, true≢false}
use Rattle.std.specs.Prelude.{if◌then◌else◌}
use Rattle.std.proofs.Math.Facts.{Fits-of_lt}
use Rattle.llb_cache.specs.Caches.{Leases, free_lease}
use Rattle.llb_cache.proofs.InstanceHolders.{free_within, all_out}
use Rattle.llb_cache.proofs.prepared_lease.put_lease.Goals as goal
use Rattle.llb_cache.proofs.prepared_lease.put_lease.Goals.{After-append}

-- where all numbers are taken, there are as many leases as numbers
fits : (c : After-append) → length c.args.out.now.items < vec_capacity c.args.room
fits c =
    let out = c.args.out.now.items in
    let same = c.free_lease-number.ensures ∙ ap (λ (o : Leases). free_lease o) c.deref.ensures.value in
    let len : vec_len c.args.out.now ≡ length out = search rules in
    let all = all_out out (omega (arith, same, len, c.len.ensures, c.if-number-len.false)) in
    let room = c.requires.room in
    omega (arith, all, room)

empty : (c : After-append) → vec_len c.args.room ≡ 0
empty c = let len : vec_len c.args.room ≡ length c.args.room.items = search rules in omega (arith, len, ap length c.requires.empty)

moves : (c : After-append) → IsOk c.append.result
moves c =
    let len : vec_len c.args.out.now ≡ length c.args.out.now.items = search rules in
    c.append.ensures.succeeds (omega (arith, len, fits c, empty c))

pub unwrap-requires : goal.unwrap-requires
unwrap-requires c = moves (goal.at.unwrap-requires c).After-append

when_ok : {A E : Type 0} (r : Result A E) (m n : ℕ) → IsOk r → (if is_ok r then m else n) ≡ m
when_ok (Ok x) m n ok = refl
when_ok (Err e) m n ok = absurd (true≢false (sym ok))

pub push_reserved-requires : goal.push_reserved-requires
push_reserved-requires c =
    let p = (goal.at.push_reserved-requires c).After-append in
    let len : vec_len c.args.out.now ≡ length c.args.out.now.items = search rules in
    let moved = c.append.ensures.len ∙ when_ok c.append.result _ _ (moves p) in
    omega (arith, len, moved, empty p, fits p, c.append.ensures.capacity)

pub overflow_cast-result : goal.overflow_cast-result
overflow_cast-result c =
    let within = free_within c.args.out.now.items in
    let same = c.free_lease-number.ensures ∙ ap (λ (o : Leases). free_lease o) c.deref.ensures.value in
    let short = c.requires.short in
    Fits-of_lt (omega (arith, within, same, short))
