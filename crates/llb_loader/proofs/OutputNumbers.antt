-- Output numbers, of which some are taken one after another.
use Rattle.std.proofs.Common.{◌≡◌, ◌≢◌, ℕ, zero, suc, ◌+◌, ◌<◌, ◌≤◌, Bool, true, false, List, [], ◌∷◌, ◌⊎◌, inl, inr, length, take, map}
use Rattle.std.proofs.Common.{get_or, set, replicate, refl, sym, ◌∙◌, ap, arith, ℤ, pos, negsuc, IsTrue, ◌↔◌}
use Rattle.std.proofs.lemmas.Int.{ints}
use Rattle.std.proofs.lemmas.Bool.{cases_lt}
use Rattle.std.proofs.lemmas.List.{get_or-map, get_or_past, length-map, length-set, get_or-set_same, length-replicate, take_all}
use Rattle.std.proofs.lemmas.List.Sums.{count_by_more_yes, count_by_more_no, sum_by-cons}
use Rattle.llb_loader.specs.WaitingRows.{IsMarked}
use Rattle.llb_loader.specs.Rules.{none, is_output, count_outputs, output_at, AreOutputs, IsBelow}
use Rattle.llb_loader.proofs.RowReadsAndMarks.{unmarked, unmarked-mark, unmarked-none, weight}
use Rattle.llb_loader.proofs.ReachabilitySearch.{mark_stays, mark_cases, none_marked}

-- with an output at the next place, one output more is counted
pub more_yes : (os : List ℤ) (i : ℕ) → i < length os → is_output (output_at os i) ≡ true → count_outputs (take (i + 1) os) ≡ count_outputs (take i os) + 1
more_yes os i h t = count_by_more_yes is_output os i none h t

-- with no output at the next place, no more are counted
pub more_no : (os : List ℤ) (i : ℕ) → i < length os → is_output (output_at os i) ≡ false → count_outputs (take (i + 1) os) ≡ count_outputs (take i os)
more_no os i h t = count_by_more_no is_output os i none h t

-- the output number that is read at a place is that of the item there
pub output_read : {X : Type 0} (output : X → ℤ) (xs : List X) (i : ℕ) (x : X) → i < length xs → x ≡ get_or xs i x → output_at (map output xs) i ≡ output x
output_read output xs i x h e = get_or-map output xs i x none h ∙ ap output (sym e)

-- among items with output numbers, the next has an output: one more is counted
pub count_more_yes : {X : Type 0} (output : X → ℤ) (xs : List X) (i : ℕ) (x : X) → i < length xs → x ≡ get_or xs i x → is_output (output x) ≡ true
    → count_outputs (take (i + 1) (map output xs)) ≡ count_outputs (take i (map output xs)) + 1
count_more_yes output xs i x h e t = more_yes (map output xs) i (let l = length-map xs output in omega (arith, l, h))
    (ap is_output (output_read output xs i x h e) ∙ t)

-- the next item has no output: no more are counted
pub count_more_no : {X : Type 0} (output : X → ℤ) (xs : List X) (i : ℕ) (x : X) → i < length xs → x ≡ get_or xs i x → is_output (output x) ≡ false
    → count_outputs (take (i + 1) (map output xs)) ≡ count_outputs (take i (map output xs))
count_more_no output xs i x h e t = more_no (map output xs) i (let l = length-map xs output in omega (arith, l, h))
    (ap is_output (output_read output xs i x h e) ∙ t)

-- the output numbers of the first i places are taken: each has marked its own place in `seen`
pub record IsTaking (os : List ℤ) (seen : List Bool) (i : ℕ) : Type 0 where
  pub len : length seen ≡ count_outputs os
  pub passed : (a : ℕ) → a < i → output_at os a ≢ none → IsBelow (count_outputs os) (output_at os a)
  pub marked : (j : ℕ) → IsMarked seen j → (a : ℕ) × (a < i) × (output_at os a ≡ pos j)
  pub marks : (a j : ℕ) → a < i → output_at os a ≡ pos j → IsMarked seen j
  pub once : (a b : ℕ) → a < i → b < i → output_at os a ≢ none → output_at os a ≡ output_at os b → a ≡ b
  pub left : unmarked seen + count_outputs (take i os) ≡ count_outputs os

all_marked : (seen : List Bool) → unmarked seen ≡ 0 → (j : ℕ) → j < length seen → IsMarked seen j
unfolding unmarked weight
all_marked [] e j h = absurd (omega (arith, h))
all_marked (true ∷ s) e zero h = refl
all_marked (true ∷ s) e (suc j) h = all_marked s (let d = sum_by-cons weight true s in omega (arith, e, d)) j (omega (arith, h))
all_marked (false ∷ s) e j h = absurd (let d = sum_by-cons weight false s in omega (arith, e, d))

-- a place below i + 1 is below i or i
pub at_or_below : (a i : ℕ) → a < i + 1 → (a < i) ⊎ (a ≡ i)
at_or_below a i h = elim (cases_lt a i) [ inl l ↦ inl l | inr g ↦ inr (omega (arith, h, g)) ]

not_none : (z : ℤ) (j : ℕ) → z ≡ pos j → z ≢ none
not_none z j e n = let x : pos j ≡ negsuc 0 = sym e ∙ n in cc

-- before the first place no number is taken
pub taking_start : (os : List ℤ) (n : ℕ) → n ≡ count_outputs os → IsTaking os (replicate n false) 0
taking_start os n e = record {
  len = length-replicate n false ∙ e;
  passed = λ a l. absurd (omega (arith, l));
  marked = λ j m. absurd (none_marked n j m);
  marks = λ a j l. absurd (omega (arith, l));
  once = λ a b l. absurd (omega (arith, l));
  left = (let u = unmarked-none n in omega (arith, u, e));
}

-- a place that has no output takes no number
pub taking_skip : (os : List ℤ) (seen : List Bool) (i : ℕ) → output_at os i ≡ none
    → count_outputs (take (i + 1) os) ≡ count_outputs (take i os) → IsTaking os seen i → IsTaking os seen (i + 1)
taking_skip os seen i e n s = record {
  len = s.len;
  passed = λ a l o. elim (at_or_below a i l) [ inl b ↦ s.passed a b o | inr q ↦ absurd (o (ap (output_at os) q ∙ e)) ];
  marked = λ j m. (let r = s.marked j m in (r.0, omega (arith, r.1), r.2));
  marks = λ a j l o. elim (at_or_below a i l) [ inl b ↦ s.marks a j b o | inr q ↦ absurd (not_none _ j o (ap (output_at os) q ∙ e)) ];
  once = λ a b la lb o q. elim (at_or_below a i la) [
    | inl x ↦ elim (at_or_below b i lb) [ inl y ↦ s.once a b x y o q | inr y ↦ absurd (o (q ∙ ap (output_at os) y ∙ e)) ]
    | inr x ↦ absurd (o (ap (output_at os) x ∙ e))
  ];
  left = (let l = s.left in omega (arith, l, n));
}

-- a place takes its number, which lies within the outputs and was not taken before
pub taking_mark : (os : List ℤ) (seen : List Bool) (i j : ℕ) → output_at os i ≡ pos j → j < count_outputs os → get_or seen j false ≡ false
    → IsBelow (count_outputs os) (output_at os i) → count_outputs (take (i + 1) os) ≡ count_outputs (take i os) + 1 → IsTaking os seen i
    → IsTaking os (set seen j true) (i + 1)
taking_mark os seen i j e h fresh below n s =
    let k : j < length seen = omega (arith, h, s.len) in
    let fresh_at : (a : ℕ) → a < i → output_at os a ≡ output_at os i
    → ⊥ = λ a l q. (let m = s.marks a j l (q ∙ e) in let x : true ≡ false = sym m ∙ fresh in cc) in
    record {
      len = length-set seen j true ∙ s.len;
      passed = λ a l o. elim (at_or_below a i l) [ inl b ↦ s.passed a b o | inr q ↦ rw q below ];
      marked = λ m w. elim (mark_cases seen j m w) [
        | inl old ↦ (let r = s.marked m old in (r.0, omega (arith, r.1), r.2))
        | inr q ↦ (i, omega arith, rw q e)
      ];
      marks = λ a m l o. elim (at_or_below a i l) [
        | inl b ↦ mark_stays seen j m k (s.marks a m b o)
        | inr q ↦ (let x : pos m ≡ pos j = sym o ∙ ap (output_at os) q ∙ e in let y : m ≡ j = cc in rw y (get_or-set_same seen j true false k))
      ];
      once = λ a b la lb o q. elim (at_or_below a i la) [
        | inl x ↦ elim (at_or_below b i lb) [ inl y ↦ s.once a b x y o q | inr y ↦ absurd (fresh_at a x (q ∙ ap (output_at os) y)) ]
        | inr x ↦ elim (at_or_below b i lb) [ inl y ↦ absurd (fresh_at b y (sym q ∙ ap (output_at os) x)) | inr y ↦ x ∙ sym y ]
      ];
      left = (let l = s.left in let u = unmarked-mark seen j k fresh in omega (arith, l, u, n));
    }

named_within : (os : List ℤ) (a : ℕ) → output_at os a ≢ none → a < length os
named_within os a o = elim (cases_lt a (length os)) [ inl l ↦ l | inr g ↦ absurd (o (get_or_past os a none g)) ]

-- where all places are passed, each number was taken once and none is left: the numbers are those of outputs
pub taking_end : (os : List ℤ) (seen : List Bool) (i : ℕ) → length os ≤ i → IsTaking os seen i → AreOutputs os
taking_end os seen i h s = record {
  within = λ a o. s.passed a (let l = named_within os a o in omega (arith, l, h)) o;
  once = λ a b o q.
      let la = named_within os a o in
      let lb = named_within os b (λ n. o (q ∙ n)) in
      s.once a b (omega (arith, la, h)) (omega (arith, lb, h)) o q;
  each = λ j l.
      let whole : count_outputs (take i os) ≡ count_outputs os = ap count_outputs (take_all i os h) in
      let z : unmarked seen ≡ 0 = (let p = s.left in omega (arith, p, whole)) in
      let r = s.marked j (all_marked seen z j (let p = s.len in omega (arith, l, p))) in (r.0, r.2);
}

-- a number that lies outside the outputs is against the rule
pub outside : (os : List ℤ) (i : ℕ) → output_at os i ≢ none → ¬ IsBelow (count_outputs os) (output_at os i) → ¬ AreOutputs os
outside os i o n s = n (s.within i o)

-- a number that is already taken occurs twice, which is against the rule
pub twice : (os : List ℤ) (seen : List Bool) (i j : ℕ) → output_at os i ≡ pos j → IsMarked seen j → IsTaking os seen i → ¬ AreOutputs os
twice os seen i j e m s o =
    let r = s.marked j m in
    let same = o.once r.0 i (not_none _ j r.2) (r.2 ∙ sym e) in
    omega (arith, same, r.1)

-- only the number -1 says that there is no output
pub is_none_from : (z : ℤ) → is_output z ≡ false → z ≡ none
is_none_from (pos n) e = absurd (let x : true ≡ false = e in cc)
is_none_from (negsuc zero) e = refl
is_none_from (negsuc (suc n)) e = absurd (let x : true ≡ false = e in cc)

-- the number of an output is not -1
pub not_none_from : (z : ℤ) → is_output z ≡ true → z ≢ none
not_none_from z e n = let x : is_output z ≡ false = ap is_output n in let y : true ≡ false = sym e ∙ x in cc

-- a test that says yes is right where the fact holds
pub true_when : {P : Type 0} → P → IsTrue true ↔ P
true_when p = (λ h. p, λ h. refl)

-- a test that says no is right where the fact does not hold
pub false_when : {P : Type 0} → ¬ P → IsTrue false ↔ P
false_when n = (λ h. absurd (let x : false ≡ true = h in cc), λ p. absurd (n p))

-- a number that is j, below n, is one from 0 to n - 1
pub below_at : (n : ℕ) (z : ℤ) (j : ℕ) → z ≡ pos j → j < n → IsBelow n z
below_at n z j e h = rw e (record { low = omega (arith, ints); high = omega (arith, ints) })
