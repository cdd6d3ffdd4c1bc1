-- What stays of a pass's part when the pass changes, and of all passes' parts.
use Rattle.std.proofs.Common.{◌≡◌, ◌≢◌, ℕ, zero, suc, ◌+◌, ◌*◌, ◌/◌, ◌<◌, ◌⊎◌, ⊎_elim, inl, inr, List, [], ◌∷◌, ◌++◌}
use Rattle.std.proofs.Common.{length, set, get_or, refl, sym, ap, ◌∙◌, subst, arith}
use Rattle.std.proofs.Math.Nat.{mul-pos, mul-div_cancel}
use mathlib.Core.Option.{some, some-injective, some-ne-none}
use lib.ListN.{get_elem?}
use Rattle.crossbeam_queue.proofs.Lists.{at_set}
use Rattle.llb_ready.specs.declared.pass_knowledge.Hand.{Hand}
use Rattle.llb_ready.specs.PassKnowledge.{hand, together, spent, widened}
use Rattle.llb_ready.specs.QueueInvariant.{IsPart}

-- the parts of passes, one for each, by their weights
abbrev pub AreParts : ℕ → ℕ → List ℕ → List Hand → Type 0
AreParts unit room ws views = (j : ℕ) (u : Hand) → get_elem? views j ≡ some u → IsPart unit room (get_or ws j 0) u

-- the items of a list with one more at its end
pub at_end : (l : List Hand) (a b : Hand) (j : ℕ) → get_elem? (l ++ a ∷ []) j ≡ some b → (get_elem? l j ≡ some b) ⊎ ((j ≡ length l) × (a ≡ b))
at_end [] a b zero e = inr (refl, some-injective a b e)
at_end [] a b (suc j) e = absurd (some-ne-none b (sym e))
at_end (x ∷ xs) a b zero e = inl e
at_end (x ∷ xs) a b (suc j) e = ⊎_elim (λ t. inl t) (λ t. inr (ap suc t.0, t.1)) (at_end xs a b j e)

-- a product that is nothing, of which one factor is something
pub no_product : (n k : ℕ) → 0 < k → n * k ≡ 0 → n ≡ 0
no_product zero k pos e = refl
no_product (suc n) k pos e = absurd (omega (arith, mul-pos {m = suc n} {n = k} (omega arith) pos))

-- equal multiples of a number above 0 are of equal numbers
pub cancel : (x y d : ℕ) → 0 < d → x * d ≡ y * d → x ≡ y
cancel x y d pos e = sym (mul-div_cancel x pos) ∙ ap (λ k. k / d) e ∙ mul-div_cancel y pos

-- a pass with the same part, that knows the same room, and has put and taken something else
pub part_stays : (unit room weight : ℕ) (v : Hand) (put taken : List ℕ) → 0 < v.num → IsPart unit room weight v
    → IsPart unit room weight (hand v.num v.den v.room put taken)
part_stays unit room weight v put taken some_part p =
    record { whole = p.whole; is = p.is; idle = λ none. absurd (omega arith); same_room = p.same_room }

-- a new pass with no part
pub part_spent : (unit room : ℕ) → IsPart unit room 0 spent
part_spent unit room = record { whole = omega arith; is = omega arith; idle = λ _. (refl, refl); same_room = λ pos. absurd (omega arith) }

-- a pass without a part, in a wider queue
pub part_none : (unit room other weight : ℕ) (v : Hand) → v.num ≡ 0 → IsPart unit room weight v → IsPart unit other weight v
part_none unit room other weight v none p = record { whole = p.whole; is = p.is; idle = p.idle; same_room = λ pos. absurd (omega arith) }

-- a pass that learns of more room
pub part_widened : (unit room weight : ℕ) (v : Hand) → 0 < v.num → IsPart unit room weight v → IsPart unit (room + 1) weight (widened v)
part_widened unit room weight v pos p =
    record { whole = p.whole; is = p.is; idle = p.idle; same_room = λ _. omega (arith, p.same_room pos) }

-- twice the unit, and twice the weight
pub part_doubled : (unit room weight twice : ℕ) (v : Hand) → twice ≡ weight + weight → IsPart unit room weight v → IsPart (unit + unit) room twice v
part_doubled unit room weight twice v e p =
    record { whole = p.whole; is = omega (arith, ap (λ k. k * v.den) e, p.is); idle = p.idle; same_room = p.same_room }

-- twice the unit, and half of the part
pub part_halved : (unit room weight : ℕ) (v : Hand) (put taken : List ℕ) → IsPart unit room weight v
    → (v.num ≡ 0 → (put ≡ []) × (taken ≡ [])) → IsPart (unit + unit) room weight (hand v.num (2 * v.den) v.room put taken)
part_halved unit room weight v put taken p idle =
    record { whole = omega (arith, p.whole); is = omega (arith, p.is); idle = idle; same_room = p.same_room }

-- two parts, added
pub part_joined : (unit room a b : ℕ) (v w : Hand) → 0 < v.num → IsPart unit room a v → IsPart unit room b w → IsPart unit room (a + b) (together v w)
part_joined unit room a b v w pos p q =
    let e1 : (a * v.den) * w.den ≡ (v.num * unit) * w.den = ap (λ k. k * w.den) p.is in
    let e2 : (b * w.den) * v.den ≡ (w.num * unit) * v.den = ap (λ k. k * v.den) q.is in
    record {
      whole = mul-pos p.whole q.whole;
      is = omega (arith, e1, e2);
      idle = λ none.
          let n1 : v.num * w.den ≡ 0 = omega arith in
          absurd (omega (arith, no_product v.num w.den q.whole n1));
      same_room = λ _. p.same_room pos;
    }

-- a pass changes, and no weight does
pub parts_set : (unit room : ℕ) (ws : List ℕ) (views : List Hand) (place : ℕ) (w : Hand) → IsPart unit room (get_or ws place 0) w
    → AreParts unit room ws views → AreParts unit room ws (set views place w)
parts_set unit room ws views place w mine others j u at =
    ⊎_elim
    (λ (x : (j ≡ place) × (w ≡ u)). subst (λ (y : ℕ × Hand). IsPart unit room (get_or ws y.0 0) y.1) (λ i. (sym x.0 i, x.1 i)) mine)
    (λ (x : (j ≢ place) × (get_elem? views j ≡ some u)). others j u x.1)
    (at_set views place j w u at)
