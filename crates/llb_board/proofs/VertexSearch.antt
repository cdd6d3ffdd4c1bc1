-- A search over the vertices, one after another.
use Rattle.std.proofs.Common.{◌≡◌, ℕ, zero, suc, ◌+◌, ◌-◌, ◌<◌, ◌≤◌, ◌⊎◌, inl, inr, sym, ap, subst, ◌∙◌, arith, add-one}
use Rattle.std.specs.Prelude.{Bool, true, false, ◌&&◌, Some, if◌then◌else◌}
use Rattle.std.proofs.lemmas.Bool.{cases_order}
use Rattle.llb_model.specs.Run.{least, each}

-- as many numbers are left from v on as from v + 1 on, and one more
less : (n v : ℕ) → v < n → n - v ≡ suc (n - (v + 1))
less n v low = omega arith

pub least_next : (p : ℕ → Bool) (n v : ℕ) → v < n → least p v (n - v) ≡ (if p v then Some v else least p (v + 1) (n - (v + 1)))
least_next p n v low = ap (least p v) (less n v low)

-- a number that passes, after a search that has passed over none, is the least that does
pub least_here : (p : ℕ → Bool) (n v : ℕ) → least p v (n - v) ≡ least p 0 n → v < n → p v ≡ true → least p 0 n ≡ Some v
least_here p n v here low is = sym here ∙ least_next p n v low ∙ ap (λ b. if b then Some v else least p (v + 1) (n - (v + 1))) is

-- past a number that does not pass, the search still finds the least of all
pub least_later : (p : ℕ → Bool) (n v : ℕ) → least p v (n - v) ≡ least p 0 n → v < n → p v ≡ false → least p (v + 1) (n - (v + 1)) ≡ least p 0 n
least_later p n v here low is = sym (ap (λ b. if b then Some v else least p (v + 1) (n - (v + 1))) is) ∙ sym (least_next p n v low) ∙ here

pub each_next : (p : ℕ → Bool) (n v : ℕ) → v < n → each p v (n - v) ≡ (p v && each p (v + 1) (n - (v + 1)))
each_next p n v low = ap (each p v) (less n v low)

-- past a number that passes, the rest decides whether all pass
pub each_later : (p : ℕ → Bool) (n v : ℕ) → each p v (n - v) ≡ each p 0 n → v < n → p v ≡ true → each p (v + 1) (n - (v + 1)) ≡ each p 0 n
each_later p n v here low is = ap (λ b. b && each p (v + 1) (n - (v + 1))) (sym is) ∙ sym (each_next p n v low) ∙ here

low_or_not : (k n : ℕ) → (k < n) ⊎ (n ≤ k)
low_or_not k n = elim (cases_order k n) [ inl same ↦ inr (omega (arith, same)) | inr h ↦ elim h [ inl lt ↦ inl lt | inr gt ↦ inr (omega (arith, gt)) ] ]

least_end : (p : ℕ → Bool) (n k : ℕ) → n ≤ k → least p k (n - k) ≡ least p 0 n → least p (suc k) (n - suc k) ≡ least p 0 n
least_end p n k past here =
    let no : n - k ≡ 0 = omega (arith, past) in
    let none_left : n - suc k ≡ 0 = omega (arith, past) in
    ap (least p (suc k)) none_left ∙ sym (ap (least p k) no) ∙ here

-- a search that begins after numbers of which none passes finds what a search from 0 finds
pub least_from : (p : ℕ → Bool) (n k : ℕ) → ((v : ℕ) → v < k → p v ≡ false) → least p k (n - k) ≡ least p 0 n
least_from p n zero none = ap (least p 0) (omega arith)
least_from p n (suc k) none =
    let here : least p k (n - k) ≡ least p 0 n = least_from p n k (λ v low. none v (omega (arith, low))) in
    elim (low_or_not k n) [
      | inl low ↦ subst (λ m. least p m (n - m) ≡ least p 0 n) (add-one k) (least_later p n k here low (none k (omega arith)))
      | inr past ↦ least_end p n k past here
    ]

each_end : (p : ℕ → Bool) (n k : ℕ) → n ≤ k → each p k (n - k) ≡ each p 0 n → each p (suc k) (n - suc k) ≡ each p 0 n
each_end p n k past here =
    let no : n - k ≡ 0 = omega (arith, past) in
    let none_left : n - suc k ≡ 0 = omega (arith, past) in
    ap (each p (suc k)) none_left ∙ sym (ap (each p k) no) ∙ here

-- a test of all numbers that begins after numbers that all pass has the result of one that begins at 0
pub each_from : (p : ℕ → Bool) (n k : ℕ) → ((v : ℕ) → v < k → p v ≡ true) → each p k (n - k) ≡ each p 0 n
each_from p n zero all = ap (each p 0) (omega arith)
each_from p n (suc k) all =
    let here : each p k (n - k) ≡ each p 0 n = each_from p n k (λ v low. all v (omega (arith, low))) in
    elim (low_or_not k n) [
      | inl low ↦ subst (λ m. each p m (n - m) ≡ each p 0 n) (add-one k) (each_later p n k here low (all k (omega arith)))
      | inr past ↦ each_end p n k past here
    ]
