-- The rule at the beginning, and at each put and take.
use Rattle.std.proofs.Common.{◌≡◌, ◌≢◌, ℕ, zero, suc, ◌+◌, ◌*◌, ◌<◌, List, [], ◌∷◌, get_or, refl, sym, ap, ◌∙◌, subst, arith}
use Rattle.std.proofs.Common.{length-append, length-set}
use Rattle.std.specs.Prelude.{sum_by, ◌==◌, cond, Bool}
use Rattle.std.proofs.lemmas.Bool.{eq-eqb}
use Rattle.std.proofs.lemmas.List.Sums.{sum_by-append, sum_by-cons}
use mathlib.Core.Option.{some, some-injective, some-ne-none}
use lib.ListN.{get_elem?}
use Rattle.crossbeam_queue.specs.Fifo.{Pushes, Pops, Learns}
use Rattle.llb_ready.specs.declared.pass_knowledge.Hand.{Hand}
use Rattle.llb_ready.specs.PassKnowledge.{HasAll, first_hand, with_put, with_taken}
use Rattle.llb_ready.specs.Conservation.{Knows, IsConserved, GainsPut, GainsTaken, HasLeft}
use Rattle.llb_ready.specs.QueueInvariant.{IsPart, IsBalanced}
use Rattle.llb_ready.proofs.ListSums.{sum_at, sum_only, sum_ones}
use Rattle.llb_ready.proofs.PassWeights.{others_none}
use Rattle.llb_ready.proofs.PassParts.{part_stays, parts_set, no_product, cancel}

-- a new queue holds nothing, and its pass is whole
pub begins : IsBalanced [] (first_hand 0 ∷ [])
begins = record {
  unit = 1;
  room = 0;
  weights = 1 ∷ [];
  some_unit = omega arith;
  whole = refl;
  as_many = refl;
  parts = only;
  balance = λ h. refl;
  fits = omega arith;
}
  where
    only : (place : ℕ) (v : Hand) → get_elem? (first_hand 0 ∷ []) place ≡ some v → IsPart 1 0 (get_or (1 ∷ []) place 0) v
    only zero v e =
        let P : Hand → Type 0 = λ u. IsPart 1 0 1 u in
        let whole : P (first_hand 0) = record { whole = omega arith; is = refl; idle = λ z. absurd (omega arith); same_room = λ _. refl } in
        subst P (some-injective (first_hand 0) v e) whole
    only (suc place) v e = absurd (some-ne-none v (sym e))

-- beside the whole pass no pass has a part
pub others_idle : (items : List ℕ) (views : List Hand) (place : ℕ) (v : Hand) → IsBalanced items views → get_elem? views place ≡ some v → HasAll v
    → (j : ℕ) (u : Hand) → j ≢ place → get_elem? views j ≡ some u → u.num ≡ 0
others_idle items views place v b at all j u ne e =
    let mine = b.parts place v at in
    let p = b.parts j u e in
    let x = get_or b.weights place 0 in
    let is_unit : x ≡ b.unit = cancel x b.unit v.den mine.whole (omega (arith, mine.is, ap (λ k. k * b.unit) all)) in
    let no_weight : get_or b.weights j 0 ≡ 0 = others_none b.weights place j (b.whole ∙ sym is_unit) ne in
    let product : u.num * b.unit ≡ 0 = omega (arith, p.is, ap (λ k. k * u.den) no_weight) in
    no_product u.num b.unit b.some_unit product

-- to the whole pass the balance is of its own lists
whole_balance : (items : List ℕ) (views : List Hand) (place : ℕ) (v : Hand) → IsBalanced items views → get_elem? views place ≡ some v → HasAll v
    → (h : ℕ → ℕ) → sum_by h v.put ≡ sum_by h v.taken + sum_by h items
whole_balance items views place v b at all h =
    let none : (j : ℕ) (u : Hand) → j ≢ place → get_elem? views j ≡ some u → (u.put ≡ []) × (u.taken ≡ []) =
    λ j u ne e. (b.parts j u e).idle (others_idle items views place v b at all j u ne e) in
    let put = sum_only (λ (u : Hand). sum_by h u.put) views place v at (λ j u ne e. ap (sum_by h) (none j u ne e).0) in
    let taken = sum_only (λ (u : Hand). sum_by h u.taken) views place v at (λ j u ne e. ap (sum_by h) (none j u ne e).1) in
    omega (arith, put, taken, b.balance h)

-- the whole pass knows what is present
pub learns : (place : ℕ) (v : Hand) → Learns IsBalanced place v (Knows v)
learns place v items views b at all =
    let balance = whole_balance items views place v b at all in
    let mine = b.parts place v at in
    let known : v.room ≡ b.room = mine.same_room (omega (arith, mine.whole, all)) in (
      record {
        each = λ x. balance (λ y. cond (y == x) 1 0);
        all = omega (arith, balance (λ _. 1), sum_ones v.put, sum_ones v.taken, sum_ones items);
      },
      omega (arith, b.fits, known),
    )

-- a number is put
pub puts : (n place : ℕ) (v : Hand) (x : ℕ) → 0 < v.num → v.room ≡ n → Pushes IsBalanced n place v x (GainsPut v x)
puts n place v x some_part room items views short b at =
    let w : Hand = with_put v x in
    let mine = b.parts place v at in
    let known : v.room ≡ b.room = mine.same_room some_part in
    let put : (h : ℕ → ℕ) → sum_by h w.put ≡ sum_by h v.put + sum_by h (x ∷ []) = λ h. sum_by-append h v.put (x ∷ []) in (
      w,
      record {
        unit = b.unit;
        room = b.room;
        weights = b.weights;
        some_unit = b.some_unit;
        whole = b.whole;
        as_many = b.as_many ∙ sym (length-set views place w);
        parts = parts_set b.unit b.room b.weights views place w (part_stays b.unit b.room (get_or b.weights place 0) v w.put w.taken some_part mine) b.parts;
        balance = λ h.
            omega (
              arith,
              sum_at (λ (u : Hand). sum_by h u.put) views place v w at,
              sum_at (λ (u : Hand). sum_by h u.taken) views place v w at,
              b.balance h,
              put h,
              sum_by-append h items (x ∷ []),
            );
        fits = omega (arith, length-append items (x ∷ []), short, room, known);
      },
      (refl, λ all. let knows = learns place v items views b at all in omega (arith, knows.0.all, short, room)),
    )

-- a number at the start was put more often than taken
left : (v : Hand) (x : ℕ) (items : List ℕ) → IsConserved v (x ∷ items) → HasLeft v x
left v x items known =
    let one : ℕ → ℕ = λ y. cond (y == x) 1 0 in
    let here : one x ≡ 1 = ap {B = ℕ} (λ (b : Bool). cond b 1 0) (eq-eqb x x refl) in
    omega (arith, known.each x, sum_by-cons one x items, here)

-- a number is taken
pub takes : (place : ℕ) (v : Hand) → 0 < v.num → Pops IsBalanced place v (GainsTaken v)
takes place v some_part x items views b at =
    let w : Hand = with_taken v x in
    let mine = b.parts place v at in (
      w,
      record {
        unit = b.unit;
        room = b.room;
        weights = b.weights;
        some_unit = b.some_unit;
        whole = b.whole;
        as_many = b.as_many ∙ sym (length-set views place w);
        parts = parts_set b.unit b.room b.weights views place w (part_stays b.unit b.room (get_or b.weights place 0) v w.put w.taken some_part mine) b.parts;
        balance = λ h.
            omega (
              arith,
              sum_at (λ (u : Hand). sum_by h u.put) views place v w at,
              sum_at (λ (u : Hand). sum_by h u.taken) views place v w at,
              b.balance h,
              sum_by-append h v.taken (x ∷ []),
              sum_by-cons h x items,
              sum_by-cons h x [],
            );
        fits = omega (arith, b.fits);
      },
      (refl, λ all. left v x items (learns place v (x ∷ items) views b at all).0),
    )
