-- The parts of the workers, joined in their order, are the whole.
use Rattle.std.proofs.Common.{add-one, ◌≡◌, ℕ, zero, suc, ◌+◌, ◌*◌, ◌^◌, ◌/◌, ◌<◌, sym, ap, ◌∙◌, subst, arith}
use Rattle.llb_ready.specs.declared.pass_knowledge.Hand.{Hand}
use Rattle.llb_ready.specs.PassKnowledge.{together}
use Rattle.std.proofs.Math.Nat.{mul-pos, mul-div_cancel, pow-suc}

-- the next power of 2 is twice this one
pub twice : (n : ℕ) → 2 ^ (n + 1) ≡ 2 ^ n + 2 ^ n
twice n = rw (add-one, pow-suc) (omega arith)

-- no power of 2 is 0
pub pow_pos : (n : ℕ) → 0 < 2 ^ n
pow_pos zero = omega arith
pow_pos (suc n) = rw pow-suc (omega (arith, pow_pos n))

-- one more worker's part is joined. P is 2 to the number of workers; a and b are 2 to the place of this worker and of the next
pub joins : (num den P a b : ℕ) → b ≡ a + a → (num * P) * a + den * P ≡ (den * (P + 1)) * a
    → ((num * b + 1 * den) * P) * b + (den * b) * P ≡ ((den * b) * (P + 1)) * b
joins num den P a b twice h =
    let e : ((num * P) * a + den * P) * a ≡ ((den * (P + 1)) * a) * a = ap (λ k. k * a) h in
    let Q : ℕ → Type 0 = λ c. ((num * c + 1 * den) * P) * c + (den * c) * P ≡ ((den * c) * (P + 1)) * c in
    subst Q (sym twice) (omega (arith, e))

cancel : (x y d : ℕ) → 0 < d → x * d ≡ y * d → x ≡ y
cancel x y d pos e = sym (mul-div_cancel x pos) ∙ ap (λ k. k / d) e ∙ mul-div_cancel y pos

pub whole : (num den P : ℕ) → 0 < P → (num * P) * P + den * P ≡ (den * (P + 1)) * P → num ≡ den
whole num den P pos h =
    let e : (num * P) * P ≡ (den * P) * P = omega (arith, h) in
    cancel num den P pos (cancel (num * P) (den * P) P pos e)

-- how far the joining has come: the rest and the parts of the first `at` workers, joined, are this pass
abbrev pub HasJoined : ℕ → ℕ → Hand → Type 0
HasJoined n at v = (v.num * 2 ^ n) * 2 ^ at + v.den * 2 ^ n ≡ (v.den * (2 ^ n + 1)) * 2 ^ at

-- before any worker's part is joined, the pass is the rest: one part of 2 to the number of workers
pub joined_none : (n : ℕ) (v : Hand) → v.num ≡ 1 → v.den ≡ 2 ^ n → HasJoined n 0 v
joined_none n v one all =
    let P : ℕ × ℕ → Type 0 = λ y. (y.0 * 2 ^ n) * 2 ^ 0 + y.1 * 2 ^ n ≡ (y.1 * (2 ^ n + 1)) * 2 ^ 0 in
    subst P (λ i. (sym one i, sym all i)) (omega arith)

-- the part of the next worker, one of 2^(at + 1), is joined to the rest and the parts before it
pub joined_more : (n at : ℕ) (v w r : Hand) → r ≡ together v w → w.num ≡ 1 → w.den ≡ 2 ^ (at + 1) → HasJoined n at v → HasJoined n (at + 1) r
joined_more n at v w r is one part h =
    let P : Hand → Type 0 = HasJoined n (at + 1) in
    let Q : ℕ × ℕ → Type 0 =
    λ y. ((v.num * y.1 + y.0 * v.den) * 2 ^ n) * 2 ^ (at + 1) + (v.den * y.1) * 2 ^ n ≡ ((v.den * y.1) * (2 ^ n + 1)) * 2 ^ (at + 1) in
    subst P (sym is) (subst Q (λ i. (sym one i, sym part i)) (joins v.num v.den (2 ^ n) (2 ^ at) (2 ^ (at + 1)) (twice at) h))

-- a pass that a worker's part was joined to still has a denominator above 0
pub den_more : (at : ℕ) (v w r : Hand) → r ≡ together v w → w.den ≡ 2 ^ (at + 1) → 0 < v.den → 0 < r.den
den_more at v w r is part pos =
    let P : Hand → Type 0 = λ u. 0 < u.den in
    subst P (sym is) (mul-pos pos (omega (arith, part, pow_pos (at + 1))))

-- the rest and the parts of all n workers are the whole
pub joined_all : (n at : ℕ) (v : Hand) → at ≡ n → HasJoined n at v → v.num ≡ v.den
joined_all n at v all h =
    let P : ℕ → Type 0 = λ k. HasJoined n k v in
    whole v.num v.den (2 ^ n) (pow_pos n) (subst P all h)
