-- Reading a path from a text: parts that are followed one at a time, and the text of a path, which reads as the path.
use Rattle.std.proofs.Common.{◌≡◌, ℕ, suc, ◌+◌, ◌<◌, List, [], ◌∷◌, length, drop, get_or, Result, Ok, Err, refl, sym, ap, ◌∙◌, add-one, drop-cons}
use Rattle.llb_wire.specs.CallResults.{◌>>=◌}
use Rattle.llb_tree.specs.declared.fault.TreeFault.{TreeFault}
use Rattle.llb_tree.specs.Path.{enter, follow, depth}

module _ (path : List (List ℕ)) (parts : List (List ℕ)) (i : ℕ) (part : List ℕ) (r : Result (List (List ℕ)) TreeFault)
    (lt : i < length parts) (is : part ≡ get_or parts i part) (so_far : follow path (drop i parts) ≡ r) where
  -- the part at hand decides
  at_part : (enter path part >>= λ next. follow next (drop (i + 1) parts)) ≡ r
  at_part =
      let rest : drop (suc i) parts ≡ drop (i + 1) parts = ap (λ n. drop n parts) (sym (add-one i)) in
      let here : drop i parts ≡ part ∷ drop (i + 1) parts = drop-cons parts i part lt ∙ ap (λ x. x ∷ drop (suc i) parts) (sym is) ∙ ap (λ ps. part ∷ ps) rest in
      ap (follow path) (sym here) ∙ so_far

  -- the part is entered, and the parts after it lead on to the same result
  pub follow_more : (next : List (List ℕ)) → enter path part ≡ Ok next → follow next (drop (i + 1) parts) ≡ r
  follow_more next enters = ap (λ s. s >>= λ q. follow q (drop (i + 1) parts)) (sym enters) ∙ at_part

  -- the part is refused, and that is the result
  pub follow_stops : (e : TreeFault) → enter path part ≡ Err e → r ≡ Err e
  follow_stops e refuses = sym at_part ∙ ap (λ s. s >>= λ q. follow q (drop (i + 1) parts)) refuses

drop_all : (xs : List (List ℕ)) → drop (length xs) xs ≡ []
drop_all [] = refl
drop_all (x ∷ xs) = drop_all xs

-- no part is left
pub follow_ends : (path : List (List ℕ)) (parts : List (List ℕ)) (i : ℕ) (r : Result (List (List ℕ)) TreeFault) → i ≡ length parts
    → follow path (drop i parts) ≡ r → r ≡ Ok path
follow_ends path parts i r ends so_far = sym so_far ∙ ap (follow path) (ap (λ n. drop n parts) ends ∙ drop_all parts)

-- ---- how many names there are

-- a depth that is given is the count of the names of a path that is given
pub depth_ok : (r : Result (List (List ℕ)) TreeFault) (n : ℕ) → depth r ≡ Ok n → (path : List (List ℕ)) × (r ≡ Ok path) × (length path ≡ n)
depth_ok (Ok path) n e = (path, refl, cc)
depth_ok (Err d) n e = absurd cc

-- where no depth is given, there is no path, and for the same fault
pub depth_err : (r : Result (List (List ℕ)) TreeFault) (e : TreeFault) → depth r ≡ Err e → r ≡ Err e
depth_err (Ok path) e is = absurd cc
depth_err (Err d) e is = let same : d ≡ e = cc in ap (λ x. Err x) same
