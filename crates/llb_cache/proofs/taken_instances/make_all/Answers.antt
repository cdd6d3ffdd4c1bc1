use Rattle.std.proofs.Common.{◌≡◌, Bool, true, false, ◌||◌, List, suc, length, map, ℕ, ◌+◌, cond, subst, sym, ap, ◌∙◌, arith, refl}
use Rattle.std.specs.List.{All}
use Rattle.std.specs.Map.{keys_of}
use Rattle.llb_cache.specs.declared.taken_instances.Ready.{Ready}
use Rattle.llb_cache.specs.Caches.{Row, made_all, same_place}
use Rattle.llb_cache.specs.LeasePreparation.{shown, FitsIn}
use Rattle.llb_cache.specs.RowOrder.{HasRoom}
use Rattle.llb_cache.specs.InstanceMarks.{marked, is_one_of}
use Rattle.llb_cache.proofs.taken_instances.make_all.Goals as goal

either : (a b x : Bool) → cond b true (cond a true x) ≡ cond (a || b) true x
either true true x = refl
either true false x = refl
either false b x = refl

pub loop-ready-preserved : goal.loop-ready-preserved
loop-ready-preserved c =
    let step = c.in-Some.ensures.steps.0 in
    let rest : List Ready = c.next.new.self.rest.items in
    let rows : List Row = c.loop-ready.rows.entries.items in
    let count = ap (λ (rs : List Ready). length rs) step in
    let one : length c.loop-ready.ready-iterator.rest.items ≡ length rest + 1 = omega (arith, count) in
    let was = c.loop-ready.invariant.spare in
    let left = c.make.ensures.spare in
    let free = c.loop-ready.invariant.free in
    let room = subst (λ (rs : List Ready). All FitsIn rs) step c.loop-ready.invariant.room in
    record {
      order = c.make.ensures.order;
      spare = left (length rest) (subst (λ (n : ℕ). HasRoom c.loop-ready.rows n) one was);
      free = omega (arith, count, free, c.make.ensures.free.0, c.make.ensures.free.1);
      each = c.make.ensures.each;
      room = λ k d below. room (suc k) d (omega (arith, below));
      made = ap (λ (rows : List Row). made_all rows (map shown rest)) c.make.ensures.rows
          ∙ ap (λ (rs : List Ready). made_all rows (map shown rs)) (sym step) ∙ c.loop-ready.invariant.made;
      marks = λ q. ap (λ b. cond (is_one_of (map (λ r. r.place) rest) q) true b) (c.make.ensures.marks q)
          ∙ either (same_place q c.in-Some.ready.place) (is_one_of (map (λ r. r.place) rest) q)
          (marked (keys_of rows) c.loop-ready.marks.items q)
          ∙ ap (λ (rs : List Ready). cond (is_one_of (map (λ r. r.place) rs) q) true (marked (keys_of rows) c.loop-ready.marks.items q))
          (sym step) ∙ c.loop-ready.invariant.marks q;
    }
