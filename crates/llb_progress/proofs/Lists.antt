-- Tests over numbers, and lists with the same items.
use Rattle.std.proofs.Common.{◌≡◌, ℕ, zero, suc, ◌+◌, ◌<◌, ◌≤◌, Bool, true, false, ◌&&◌, List, [], ◌∷◌, length, Option, Some, ◌⊎◌, inl, inr}
use Rattle.std.proofs.Common.{refl, sym, ap, ◌∙◌, arith}
use Rattle.std.specs.Prelude.{slice_get}
use Rattle.std.proofs.lemmas.Bool.{cases_eq}
use Rattle.llb_model.specs.Run.{each}

first_or : (v k : ℕ) → v ≤ k → (v ≡ k) ⊎ (v + 1 ≤ k)
first_or v k low = elim (cases_eq v k) [ inl h ↦ inl h | inr h ↦ inr (omega arith) ]

-- where all numbers of a range pass the test, each single one does
pub each_true : (test : ℕ → Bool) (v n : ℕ) → each test v n ≡ true → (k : ℕ) → v ≤ k → k < v + n → test k ≡ true
each_true test v zero e k low high = absurd (omega arith)
each_true test v (suc n) e k low high = go (test v) refl e (λ e low. each_true test (v + 1) n e k low (omega arith))
  where
    go : (b : Bool) → test v ≡ b → (b && each test (v + 1) n) ≡ true → (each test (v + 1) n ≡ true → v + 1 ≤ k → test k ≡ true) → test k ≡ true
    go false here e rest = absurd cc
    go true here e rest = elim (first_or v k low) [ inl h ↦ ap test (sym h) ∙ here | inr h ↦ rest e h ]

-- two lists of one length with the same at each place
pub same_below : {A : Type 0} (xs ys : List A) → length xs ≡ length ys → ((k : ℕ) → k < length xs → slice_get xs k ≡ slice_get ys k) → xs ≡ ys
same_below [] [] long same = refl
same_below [] (y ∷ ys) long same = absurd (omega (arith, long))
same_below (x ∷ xs) [] long same = absurd (omega (arith, long))
same_below {A} (x ∷ xs) (y ∷ ys) long same =
    let first : ◌≡◌ {A = Option A} (Some x) (Some y) = same 0 (omega arith) in
    let h : x ≡ y = cc in
    ap (λ z. z ∷ xs) h ∙ ap (λ zs. y ∷ zs) (same_below xs ys (omega (arith, long)) (λ k lt. same (suc k) (omega (arith, lt))))
