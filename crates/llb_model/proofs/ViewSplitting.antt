-- A view that is parted into its own trees and those of the caches is put together again.
use Rattle.std.proofs.Common.{◌≡◌, ◌≢◌, ℕ, zero, suc, List, [], ◌∷◌, map, inl, inr, refl, sym, ap, ◌∙◌, arith}
use Rattle.llb_mount.specs.declared.shown_tree.Shown.{Shown}
use Rattle.llb_mount.specs.View.{mount_at, with_tree_of}
use Rattle.llb_tree.specs.Tree.{TreeMap, empty_tree}
use Rattle.llb_model.specs.Caches.{Has}
use Rattle.llb_model.specs.Program.{filled, taken}
use Rattle.llb_model.specs.WholeRunLaws.{PartsMeet, PartsCount}

-- trees of two mounts are set in either order
pub swap : (mounts : List Shown) (m n : ℕ) (t u : TreeMap) → m ≢ n → with_tree_of (with_tree_of mounts m t) n u ≡ with_tree_of (with_tree_of mounts n u) m t
swap [] m n t u apart = refl
swap (s ∷ mounts) zero zero t u apart = absurd (apart refl)
swap (s ∷ mounts) zero (suc n) t u apart = refl
swap (s ∷ mounts) (suc m) zero t u apart = refl
swap (s ∷ mounts) (suc m) (suc n) t u apart = ap (λ xs. s ∷ xs) (swap mounts m n t u (λ e. apart (ap suc e)))

-- of two trees that are set in one mount the later one stays
pub again : (mounts : List Shown) (m : ℕ) (t u : TreeMap) → with_tree_of (with_tree_of mounts m t) m u ≡ with_tree_of mounts m u
again [] m t u = refl
again (s ∷ mounts) zero t u = refl
again (s ∷ mounts) (suc m) t u = ap (λ xs. s ∷ xs) (again mounts m t u)

itself : (mounts : List Shown) (m : ℕ) → with_tree_of mounts m (mount_at mounts m).tree ≡ mounts
itself [] m = refl
itself (s ∷ mounts) zero = refl
itself (s ∷ mounts) (suc m) = ap (λ xs. s ∷ xs) (itself mounts m)

-- a tree of a mount that is not among those filled in may be put there before or after
pub past : (mounts : List Shown) (m : ℕ) (t : TreeMap) (ms : List ℕ) (ts : List TreeMap) → (Has ms m → ⊥)
    → with_tree_of (filled mounts ms ts) m t ≡ filled (with_tree_of mounts m t) ms ts
past mounts m t [] ts apart = refl
past mounts m t (n ∷ ms) [] apart = refl
past mounts m t (n ∷ ms) (u ∷ ts) apart =
    past (with_tree_of mounts n u) m t ms ts (λ h. apart (inr h)) ∙ ap (λ xs. filled xs ms ts) (swap mounts n m u t (λ e. apart (inl (sym e))))

-- the trees of caches that are taken out of a view and filled in again result in the same view, where no mount is named twice
pub parts_meet : PartsMeet
parts_meet [] ts mounts apart count = refl
parts_meet (m ∷ ms) [] mounts apart count = refl
parts_meet (m ∷ ms) (t ∷ ts) mounts apart count =
    ap (λ xs. filled xs ms (taken mounts ms ts)) (past (with_tree_of mounts m empty_tree) m (mount_at mounts m).tree ms (map (λ t. empty_tree) ts) apart.0)
    ∙ ap (λ xs. filled (filled xs ms (map (λ t. empty_tree) ts)) ms (taken mounts ms ts)) (again mounts m empty_tree (mount_at mounts m).tree ∙ itself mounts m)
    ∙ parts_meet ms ts mounts apart.1 (omega (arith, count))

-- as many trees of caches are taken out of a view as there were
pub parts_count : PartsCount
parts_count ms [] mounts = refl
parts_count [] (t ∷ ts) mounts = refl
parts_count (m ∷ ms) (t ∷ ts) mounts = ap suc (parts_count ms ts mounts)
