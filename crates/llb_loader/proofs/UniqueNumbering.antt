-- There is one numbering at most, and it shows that there is no cycle.
use Rattle.std.proofs.Common.{◌≡◌, ◌≢◌, ℕ, zero, suc, ◌<◌, ◌≤◌, Bool, cond, List, [], ◌∷◌, ◌++◌, inl, inr, length, take, get_or, refl, sym}
use Rattle.std.proofs.Common.{◌∙◌, ap, subst, arith, add-one}
use Rattle.std.proofs.lemmas.Bool.{cases_eq, cases_order, ne_eqb, eq-eqb}
use Rattle.std.proofs.lemmas.List.{get_or-take, length-take-le, take_more, take_all, get_or_default}
use Rattle.std.proofs.lemmas.List.Elements.{Contains-get_or, All-contains}
use Rattle.std.specs.List.{All, Contains}
use Rattle.llb_loader.specs.ReachedRows.{inputs}
use Rattle.llb_loader.specs.Numbering.{IsReady, IsNumbering, GoesDown, rank_in}

rank_head : (x k : ℕ) (xs : List ℕ) → x ≡ k → rank_in (x ∷ xs) k ≡ 0
rank_head x k xs e = ap (λ (b : Bool). cond b 0 (suc (rank_in xs k))) (eq-eqb x k e)

rank_tail : (x k : ℕ) (xs : List ℕ) → x ≢ k → rank_in (x ∷ xs) k ≡ suc (rank_in xs k)
rank_tail x k xs n = ap (λ (b : Bool). cond b 0 (suc (rank_in xs k))) (ne_eqb x k n)

-- a row that is in the order is at the place that its rank says
pub rank_at : (xs : List ℕ) (k i : ℕ) → i < length xs → get_or xs i 0 ≡ k → (rank_in xs k < length xs) × (get_or xs (rank_in xs k) 0 ≡ k)
rank_at [] k i h e = absurd (omega arith)
rank_at (x ∷ xs) k zero h e = let r = rank_head x k xs e in (omega (arith, r), subst (λ (n : ℕ). get_or (x ∷ xs) n 0 ≡ k) (sym r) e)
rank_at (x ∷ xs) k (suc i) h e = elim (cases_eq x k) [
  | inl y ↦ (let r = rank_head x k xs y in (omega (arith, r), subst (λ (n : ℕ). get_or (x ∷ xs) n 0 ≡ k) (sym r) y))
  | inr n ↦ (let r = rank_tail x k xs n in let t = rank_at xs k i (omega arith) e in
      (omega (arith, r, t.0), subst (λ (m : ℕ). get_or (x ∷ xs) m 0 ≡ k) (sym r) t.1))
]

-- the rank of a row that is among the first i places is below i
pub rank_before : (xs : List ℕ) (k i j : ℕ) → j < length (take i xs) → get_or (take i xs) j 0 ≡ k → rank_in xs k < i
rank_before [] k zero j h e = absurd (omega arith)
rank_before [] k (suc i) j h e = absurd (omega arith)
rank_before (x ∷ xs) k zero j h e = absurd (omega arith)
rank_before (x ∷ xs) k (suc i) zero h e = let r = rank_head x k xs e in omega (arith, r)
rank_before (x ∷ xs) k (suc i) (suc j) h e = elim (cases_eq x k) [
  | inl y ↦ (let r = rank_head x k xs y in omega (arith, r))
  | inr n ↦ (let r = rank_tail x k xs n in let t = rank_before xs k i j (omega arith) e in omega (arith, r, t))
]

-- in a numbering each input is before the row that names it, so that every edge goes down
pub numbering_down : (g : List (List ℕ)) (start : ℕ) (order : List ℕ) → IsNumbering g start order → GoesDown g start (rank_in order)
numbering_down g start order s a b t e =
    let c = s.whole a t in
    let r = rank_at order a c.0 c.1 (get_or_default order c.0 0 a c.1 ∙ c.2) in
    let x = (s.each (rank_in order a) r.0).ready in
    let y = subst (λ (n : ℕ). All (Contains (take (rank_in order a) order)) (inputs g n)) r.1 x.inputs_done in
    let d = All-contains (Contains (take (rank_in order a) order)) (inputs g a) b y e in
    rank_before order b (rank_in order a) d.0 d.1 (get_or_default (take (rank_in order a) order) d.0 0 b d.1 ∙ d.2)

pub same_prefix : (g : List (List ℕ)) (start : ℕ) (xs ys : List ℕ) → IsNumbering g start xs → IsNumbering g start ys
    → (i : ℕ) → i ≤ length xs → i ≤ length ys → take i xs ≡ take i ys
same_prefix g start xs ys s t zero h l = refl
same_prefix g start xs ys s t (suc i) h l =
    let hx : i < length xs = omega arith in
    let hy : i < length ys = omega arith in
    let e = same_prefix g start xs ys s t i (omega arith) (omega arith) in
    let x = s.each i hx in
    let y = t.each i hy in
    let a : get_or xs i 0 ≤ get_or ys i 0 = x.least (get_or ys i 0) (subst (λ (d : List ℕ). IsReady g start d (get_or ys i 0)) (sym e) y.ready) in
    let b : get_or ys i 0 ≤ get_or xs i 0 = y.least (get_or xs i 0) (subst (λ (d : List ℕ). IsReady g start d (get_or xs i 0)) e x.ready) in
    let v : get_or xs i 0 ≡ get_or ys i 0 = omega (arith, a, b) in
    rw (← add-one) (take_more xs i 0 hx ∙ ap (λ (d : List ℕ). d ++ get_or xs i 0 ∷ []) e ∙ ap (λ (n : ℕ). take i ys ++ n ∷ []) v ∙ sym (take_more ys i 0 hy))

-- a numbering of all rows can't be the beginning of a longer one
pub no_more : (g : List (List ℕ)) (start : ℕ) (xs ys : List ℕ) → IsNumbering g start xs → IsNumbering g start ys → length xs < length ys → ⊥
no_more g start xs ys s t h =
    let e = same_prefix g start xs ys s t (length xs) (omega arith) (omega arith) in
    let z : xs ≡ take (length xs) ys = sym (take_all (length xs) xs (omega arith)) ∙ e in
    let y = (t.each (length xs) h).ready in
    y.fresh (subst (λ (d : List ℕ). Contains d (get_or ys (length xs) 0)) z (s.whole (get_or ys (length xs) 0) y.reached))

-- each turn of a numbering is decided by those before it, so that there is one at most
pub one_numbering : (g : List (List ℕ)) (start : ℕ) (xs ys : List ℕ) → IsNumbering g start xs → IsNumbering g start ys → xs ≡ ys
one_numbering g start xs ys s t = elim (cases_order (length xs) (length ys)) [
  | inl e ↦ sym (take_all (length xs) xs (omega arith)) ∙ same_prefix g start xs ys s t (length xs) (omega arith) (omega arith)
      ∙ take_all (length xs) ys (omega arith)
  | inr o ↦ elim o [ inl h ↦ absurd (no_more g start xs ys s t h) | inr h ↦ absurd (no_more g start ys xs t s h) ]
]

-- a row occurs once
pub numbered_once : (g : List (List ℕ)) (start : ℕ) (order : List ℕ) (i j : ℕ) → IsNumbering g start order → i < length order → j < i
    → get_or order j 0 ≢ get_or order i 0
numbered_once g start order i j s h l e =
    let n : j < length (take i order) = (let p = length-take-le i order (omega arith) in omega (arith, p, l)) in
    let c : Contains (take i order) (get_or order i 0) = subst (λ (k : ℕ). Contains (take i order) k) (get_or-take i order j 0 l ∙ e)
    (Contains-get_or (take i order) j 0 n) in
    (s.each i h).ready.fresh c
