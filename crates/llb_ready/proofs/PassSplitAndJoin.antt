-- The rule when a pass is cut in two, when two are joined, and when one learns of more room.
use Rattle.std.proofs.Common.{◌≡◌, ◌≢◌, ℕ, ◌+◌, ◌<◌, ⊎_elim, List, [], ◌∷◌, ◌++◌, length, set, get_or, refl, sym, ap, ◌∙◌}
use Rattle.std.proofs.Common.{subst, arith, length-append, length-set, get_or-set_same, get_or-set_other}
use Rattle.std.specs.Prelude.{sum_by}
use Rattle.std.proofs.lemmas.List.Sums.{sum_by-append, sum_by-set}
use mathlib.Core.Option.{some}
use lib.ListN.{get_elem?}
use Rattle.crossbeam_queue.specs.Fifo.{Forks, Merges}
use Rattle.crossbeam_queue.proofs.Lists.{at_set}
use Rattle.llb_ready.specs.declared.pass_knowledge.Hand.{Hand}
use Rattle.llb_ready.specs.PassKnowledge.{HasAll, first_hand, widened, halved, other_half, together, spent}
use Rattle.llb_ready.specs.QueueInvariant.{IsPart, IsBalanced}
use Rattle.llb_ready.proofs.ListSums.{sum_at, within}
use Rattle.llb_ready.proofs.PassWeights.{doubled, sum-doubled, length-doubled, get_or-doubled, get_or_first, get_or_last}
use Rattle.llb_ready.proofs.PassParts.{AreParts, at_end, part_spent, part_none, part_widened, part_doubled, part_halved, part_joined}
use Rattle.llb_ready.proofs.PutAndTake.{others_idle}

-- one pass more, with a weight of its own
parts_more : (unit room : ℕ) (ws : List ℕ) (views : List Hand) (a : ℕ) (v : Hand) → length ws ≡ length views → AreParts unit room ws views
    → IsPart unit room a v → AreParts unit room (ws ++ a ∷ []) (views ++ v ∷ [])
parts_more unit room ws views a v as_many others mine j u e =
    ⊎_elim
    (λ (x : get_elem? views j ≡ some u).
    let here : j < length ws = omega (arith, within views j u x, as_many) in
    rw (get_or_first ws (a ∷ []) j here) (others j u x))
    (λ (x : (j ≡ length views) × (v ≡ u)).
    let P : Hand → Type 0 = λ z. IsPart unit room (get_or (ws ++ a ∷ []) j 0) z in
    subst P x.1 (rw (get_or_last ws a j (x.0 ∙ sym as_many)) mine))
    (at_end views v u j e)

-- a pass changes with its weight, and every other stays a part, if of another unit, room or weight
parts_at : (unit room : ℕ) (ws : List ℕ) (views : List Hand) (place a : ℕ) (w : Hand) → place < length ws → IsPart unit room a w
    → ((j : ℕ) (u : Hand) → j ≢ place → get_elem? views j ≡ some u → IsPart unit room (get_or ws j 0) u)
    → AreParts unit room (set ws place a) (set views place w)
parts_at unit room ws views place a w low mine others j u e =
    ⊎_elim
    (λ (x : (j ≡ place) × (w ≡ u)).
    let P : ℕ × Hand → Type 0 = λ z. IsPart unit room (get_or (set ws place a) z.0 0) z.1 in
    subst P (λ i. (sym x.0 i, x.1 i)) (rw (get_or-set_same ws place a 0 low) mine))
    (λ (x : (j ≢ place) × (get_elem? views j ≡ some u)). rw (get_or-set_other ws place j a 0 x.0) (others j u x.0 x.1))
    (at_set views place j w u e)

-- the first pass is whole
pub first_has_all : (v : Hand) (room : ℕ) → v ≡ first_hand room → HasAll v
first_has_all v room is = ap (λ (u : Hand). u.num) is ∙ sym (ap (λ (u : Hand). u.den) is)

-- the whole pass learns of room for one number more
pub widens : (place : ℕ) (v : Hand) → HasAll v → Forks IsBalanced place v (widened v) spent
widens place v all items views b at =
    let a = get_or b.weights place 0 in
    let mine = b.parts place v at in
    let low : place < length b.weights = omega (arith, within views place v at, b.as_many) in
    let ws : List ℕ = set b.weights place a in
    let vs : List Hand = set views place (widened v) in
    let as_many : length ws ≡ length vs = length-set b.weights place a ∙ b.as_many ∙ sym (length-set views place (widened v)) in
    let others : (j : ℕ) (u : Hand) → j ≢ place → get_elem? views j ≡ some u → IsPart b.unit (b.room + 1) (get_or b.weights j 0) u =
    λ j u ne e. part_none b.unit b.room (b.room + 1) (get_or b.weights j 0) u (others_idle items views place v b at all j u ne e) (b.parts j u e) in
    let grown = part_widened b.unit b.room a v (omega (arith, mine.whole, all)) mine in
    record {
      unit = b.unit;
      room = b.room + 1;
      weights = ws ++ 0 ∷ [];
      some_unit = b.some_unit;
      whole = omega (arith, sum_by-append (λ (x : ℕ). x) ws (0 ∷ []), sum_by-set (λ (x : ℕ). x) b.weights place a 0 low, b.whole);
      as_many = length-append ws (0 ∷ []) ∙ ap (λ k. k + 1) as_many ∙ sym (length-append vs (spent ∷ []));
      parts = parts_more b.unit (b.room + 1) ws vs 0 spent as_many
          (parts_at b.unit (b.room + 1) b.weights views place a (widened v) low grown others) (part_spent b.unit (b.room + 1));
      balance = λ h.
          omega (
            arith,
            sum_by-append (λ (u : Hand). sum_by h u.put) vs (spent ∷ []),
            sum_by-append (λ (u : Hand). sum_by h u.taken) vs (spent ∷ []),
            sum_at (λ (u : Hand). sum_by h u.put) views place v (widened v) at,
            sum_at (λ (u : Hand). sum_by h u.taken) views place v (widened v) at,
            b.balance h,
          );
      fits = omega (arith, b.fits);
    }

-- a pass is cut in two
pub forks : (place : ℕ) (v : Hand) → Forks IsBalanced place v (halved v) (other_half v)
forks place v items views b at =
    let a = get_or b.weights place 0 in
    let mine = b.parts place v at in
    let twice : List ℕ = doubled b.weights in
    let low : place < length twice = omega (arith, within views place v at, b.as_many, length-doubled b.weights) in
    let ws : List ℕ = set twice place a in
    let vs : List Hand = set views place (halved v) in
    let as_many : length ws ≡ length vs = length-set twice place a ∙ length-doubled b.weights ∙ b.as_many ∙ sym (length-set views place (halved v)) in
    let others : (j : ℕ) (u : Hand) → j ≢ place → get_elem? views j ≡ some u → IsPart (b.unit + b.unit) b.room (get_or twice j 0) u =
    λ j u ne e. part_doubled b.unit b.room (get_or b.weights j 0) (get_or twice j 0) u (get_or-doubled b.weights j) (b.parts j u e) in
    let kept = part_halved b.unit b.room a v v.put v.taken mine mine.idle in
    let cut = part_halved b.unit b.room a v [] [] mine (λ _. (refl, refl)) in
    record {
      unit = b.unit + b.unit;
      room = b.room;
      weights = ws ++ a ∷ [];
      some_unit = omega (arith, b.some_unit);
      whole =
          omega (
            arith,
            sum_by-append (λ (x : ℕ). x) ws (a ∷ []),
            sum_by-set (λ (x : ℕ). x) twice place a 0 low,
            get_or-doubled b.weights place,
            sum-doubled b.weights,
            b.whole,
          );
      as_many = length-append ws (a ∷ []) ∙ ap (λ k. k + 1) as_many ∙ sym (length-append vs (other_half v ∷ []));
      parts = parts_more (b.unit + b.unit) b.room ws vs a (other_half v) as_many
          (parts_at (b.unit + b.unit) b.room twice views place a (halved v) low kept others) cut;
      balance = λ h.
          omega (
            arith,
            sum_by-append (λ (u : Hand). sum_by h u.put) vs (other_half v ∷ []),
            sum_by-append (λ (u : Hand). sum_by h u.taken) vs (other_half v ∷ []),
            sum_at (λ (u : Hand). sum_by h u.put) views place v (halved v) at,
            sum_at (λ (u : Hand). sum_by h u.taken) views place v (halved v) at,
            b.balance h,
          );
      fits = b.fits;
    }

-- two passes become one
pub merges : (place : ℕ) (v : Hand) (other : ℕ) (w : Hand) → 0 < v.num → Merges IsBalanced place v other w (together v w) spent
merges place v other w pos items views b at apart at' =
    let both : Hand = together v w in
    let vs : List Hand = set views place both in
    let was : get_elem? views other ≡ some w =
    ⊎_elim
    (λ (x : (other ≡ place) × (both ≡ w)). absurd (apart x.0))
    (λ (x : (other ≢ place) × (get_elem? views other ≡ some w)). x.1)
    (at_set views place other both w at') in
    let x = get_or b.weights place 0 in
    let y = get_or b.weights other 0 in
    let ws : List ℕ = set b.weights place (x + y) in
    let low : place < length b.weights = omega (arith, within views place v at, b.as_many) in
    let low' : other < length ws = omega (arith, within views other w was, b.as_many, length-set b.weights place (x + y)) in
    let joined = part_joined b.unit b.room x y v w pos (b.parts place v at) (b.parts other w was) in
    let first : AreParts b.unit b.room ws vs = parts_at b.unit b.room b.weights views place (x + y) both low joined (λ j u _ e. b.parts j u e) in
    record {
      unit = b.unit;
      room = b.room;
      weights = set ws other 0;
      some_unit = b.some_unit;
      whole =
          omega (
            arith,
            sum_by-set (λ (z : ℕ). z) b.weights place (x + y) 0 low,
            sum_by-set (λ (z : ℕ). z) ws other 0 0 low',
            get_or-set_other b.weights place other (x + y) 0 apart,
            b.whole,
          );
      as_many =
          length-set ws other 0 ∙ length-set b.weights place (x + y) ∙ b.as_many ∙ sym (length-set views place both) ∙ sym (length-set vs other spent);
      parts = parts_at b.unit b.room ws vs other 0 spent low' (part_spent b.unit b.room) (λ j u _ e. first j u e);
      balance = λ h.
          omega (
            arith,
            sum_at (λ (u : Hand). sum_by h u.put) views place v both at,
            sum_at (λ (u : Hand). sum_by h u.taken) views place v both at,
            sum_at (λ (u : Hand). sum_by h u.put) vs other w spent at',
            sum_at (λ (u : Hand). sum_by h u.taken) vs other w spent at',
            sum_by-append h v.put w.put,
            sum_by-append h v.taken w.taken,
            b.balance h,
          );
      fits = b.fits;
    }
