use Rattle.std.proofs.Common.{◌≡◌, ℕ, suc, ◌-◌, ◌<◌, ◌≤◌, List, [], ◌∷◌, length, drop, min, refl, sym, ap, ◌∙◌, inl, inr, ◌⊎◌, arith, slice_index_or}
use Rattle.std.proofs.Math.Nat.{min_comm, min-eq_left, min-le_left, min-le_right}
use Rattle.std.proofs.Math.Seq.{drop-cons}
use Rattle.std.proofs.lemmas.Bool.{cases_lt}
use Rattle.std.proofs.lemmas.List.{drop_all}
use Rattle.llb_cache.specs.declared.lease_additions.Growth.{Growth}
use Rattle.llb_cache.specs.declared.key.Key.{Key}
use Rattle.llb_cache.specs.declared.lease_needs.Instance.{Instance}
use Rattle.llb_cache.specs.Caches.{Row, trees_of}
use Rattle.llb_cache.specs.LeaseAdditions.{unmade, unmade_one}
use Rattle.llb_cache.proofs.RemovedAdditions.{unmarks_next, fewer_after}
use Rattle.llb_cache.proofs.lease_additions.unmake_all.Goals as goal

-- past the end of one of the lists nothing is removed
past : (m n k : ℕ) → k ≡ min m n → (m ≤ k) ⊎ (n ≤ k)
past m n k is = elim (cases_lt n m) [
  | inl less ↦ let e = min-eq_left {n = n} {m = m} (omega (arith, less)) in let f = min_comm m n in inr (omega (arith, is, e, f))
  | inr more ↦ let e = min-eq_left {n = m} {m = n} more in inl (omega (arith, is, e))
]

unmade_nil : (rows : List Row) (ps : List Instance) → unmade rows ps [] ≡ rows
unmade_nil rows [] = refl
unmade_nil rows (p ∷ ps) = refl

none_removed : (rows : List Row) (ps : List Instance) (gs : List Growth) (k : ℕ) → (length ps ≤ k) ⊎ (length gs ≤ k) → unmade rows (drop k ps) (drop k gs)
    ≡ rows
none_removed rows ps gs k (inl end) = ap (λ (qs : List Instance). unmade rows qs (drop k gs)) (drop_all k ps end)
none_removed rows ps gs k (inr end) = ap (λ (hs : List Growth). unmade rows (drop k ps) hs) (drop_all k gs end) ∙ unmade_nil rows (drop k ps)

pub loop-left-init : goal.loop-left-init
loop-left-init c =
    let ps = c.args.places.now in
    let gs = c.args.growths.now in
    let is = c.min-left.ensures in
    record {
      places = omega (arith, is, min-le_left (length ps) (length gs));
      growths = omega (arith, is, min-le_right (length ps) (length gs));
      rows = sym (none_removed c.args.rows.now.entries.items ps gs c.min-left.result (past (length ps) (length gs) c.min-left.result is));
      order = c.requires.order;
      each = c.requires.each;
      marks = λ p. inl refl;
    }

-- one more is removed
record Removes (rows now new : List Row) (ps : List Instance) (gs : List Growth) (n : ℕ) : Type 0 where
  rows_are : new ≡ unmade rows (drop (n - 1) ps) (drop (n - 1) gs)
  fewer : (k : Key) → length (trees_of new k) ≤ length (trees_of now k)

removes : (rows now new : List Row) (ps : List Instance) (gs : List Growth) (n : ℕ) (p : Instance) (d : Growth) → n - 1 < length ps → n - 1 < length gs → 0 < n
    → p ≡ slice_index_or ps (n - 1) p → now ≡ unmade rows (drop n ps) (drop n gs) → new ≡ unmade_one now p (slice_index_or gs (n - 1) d)
    → Removes rows now new ps gs n
removes rows now new ps gs n p d low below some place was is =
    let g = slice_index_or gs (n - 1) d in
    let next : suc (n - 1) ≡ n = omega (arith, some) in
    let places : drop (n - 1) ps ≡ p ∷ drop n ps = drop-cons ps (n - 1) p low ∙ (λ i. (sym place i) ∷ drop (next i) ps) in
    let growths : drop (n - 1) gs ≡ g ∷ drop n gs = drop-cons gs (n - 1) d below ∙ ap (λ k. g ∷ drop k gs) next in
    record {
      rows_are = is ∙ ap (λ (r : List Row). unmade_one r p g) was ∙ (λ i. unmade rows (sym places i) (sym growths i));
      fewer = fewer_after now new p g is;
    }

pub loop-left-preserved : goal.loop-left-preserved
loop-left-preserved c =
    let inv = c.loop-left.invariant in
    let rows = c.args.rows.now.entries.items in
    let now = c.loop-left.rows.entries.items in
    let new = c.unmake.new.rows.entries.items in
    let some = c.loop-left-test.true in
    let step = removes rows now new c.args.places.now c.args.growths.now c.loop-left.left c.index-places-left.result _
    (omega (arith, some, inv.places)) (omega (arith, some, inv.growths)) some c.index-places-left.is inv.rows c.unmake.ensures.rows in
    record {
      places = omega (arith, inv.places);
      growths = omega (arith, inv.growths);
      rows = step.rows_are;
      order = c.unmake.ensures.order;
      each = c.unmake.ensures.each;
      marks = unmarks_next rows now new c.args.marks.now.items c.loop-left.marks.items c.unmake.new.marks.items inv.marks c.unmake.ensures.marks step.fewer;
    }
