-- Lines of vertices, one after another.
use Rattle.std.proofs.Common.{◌≡◌, ◌∙◌, ℕ, zero, suc, ◌+◌, ◌≤◌, List, [], ◌∷◌, ◌++◌, length, take, refl, sym, ap, subst, add-one, append-nil, arith}
use Rattle.std.specs.Prelude.{Some, slice_get}
use Rattle.std.specs.List.{flat_map, enumerate_from}
use Rattle.std.proofs.lemmas.Grind.{flat_map-append}
use Rattle.std.proofs.lemmas.List.FromFn.{length-enumerate_from}

module _ {A : Type 0} where
  take_more : (es : List A) (at : ℕ) (e : A) → slice_get es at ≡ Some e → take (suc at) es ≡ take at es ++ (e ∷ [])
  take_more [] zero e there = absurd cc
  take_more [] (suc at) e there = absurd cc
  take_more (x ∷ es) zero e there = let same : x ≡ e = cc in ap (λ y. y ∷ []) same
  take_more (x ∷ es) (suc at) e there = ap (λ ys. x ∷ ys) (take_more es at e there)

  numbered_from : (es : List A) (n at : ℕ) (e : A) → slice_get es at ≡ Some e → slice_get (enumerate_from n es) at ≡ Some (n + at, e)
  numbered_from [] n zero e there = absurd cc
  numbered_from [] n (suc at) e there = absurd cc
  numbered_from (x ∷ es) n zero e there =
      let same : x ≡ e = cc in
      let here : n + 0 ≡ n = omega arith in
      rw (here, same) refl
  numbered_from (x ∷ es) n (suc at) e there =
      let on : n + suc at ≡ n + 1 + at = omega arith in
      rw on (numbered_from es (n + 1) at e there)

  all_taken : (es : List A) (at : ℕ) → length es ≤ at → take at es ≡ es
  all_taken [] zero le = refl
  all_taken [] (suc at) le = refl
  all_taken (x ∷ es) zero le = absurd (omega arith)
  all_taken (x ∷ es) (suc at) le = ap (λ ys. x ∷ ys) (all_taken es at (omega arith))

module _ {A : Type 0} (line : ℕ × A → List ℕ) where
  -- the lines of the first items are in a text, and the line of the next item is put behind them
  pub one_more : (es : List A) (at : ℕ) (e : A) (before after : List ℕ) → slice_get es at ≡ Some e
      → before ≡ flat_map line (take at (enumerate_from 0 es)) → after ≡ before ++ line (at, e)
      → after ≡ flat_map line (take (at + 1) (enumerate_from 0 es))
  one_more es at e before after there so_far put =
      let all : 0 + at ≡ at = omega arith in
      let numbered = subst (λ k. slice_get (enumerate_from 0 es) at ≡ Some (k, e)) all (numbered_from es 0 at e there) in
      let more = ap (flat_map line) (ap (λ k. take k (enumerate_from 0 es)) (add-one at) ∙ take_more (enumerate_from 0 es) at (at, e) numbered)
      ∙ flat_map-append line (take at (enumerate_from 0 es)) ((at, e) ∷ [])
      ∙ ap (λ ys. flat_map line (take at (enumerate_from 0 es)) ++ ys) (append-nil (line (at, e))) in
      put ∙ ap (λ x. x ++ line (at, e)) so_far ∙ sym more

  -- past the last item, all lines are in the text
  pub all_lines : (es : List A) (at : ℕ) (text : List ℕ) → length es ≤ at → text ≡ flat_map line (take at (enumerate_from 0 es))
      → text ≡ flat_map line (enumerate_from 0 es)
  all_lines es at text past so_far =
      so_far ∙ ap (flat_map line) (all_taken (enumerate_from 0 es) at (omega (arith, length-enumerate_from 0 es)))
