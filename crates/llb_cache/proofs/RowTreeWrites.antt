-- The trees of a row that is read, and the rows after other trees are written into it.
use Rattle.std.proofs.Common.{◌≡◌, ℕ, zero, suc, ◌<◌, List, [], ◌∷◌, length, Some, slice_get, slice_set, slice_index_or, sym, ap, arith}
use Rattle.std.specs.Map.{values_of}
use Rattle.llb_tree.specs.Tree.{TreeMap}
use Rattle.llb_cache.specs.Caches.{Row}
use Rattle.llb_cache.specs.FirstRowOfKey.{set_trees}

pub trees_read : (es : List Row) (i : ℕ) (e : Row) → i < length es → e ≡ slice_index_or es i e → slice_get (values_of es) i ≡ Some e.1
trees_read [] i e below is = absurd (omega (arith, below))
trees_read (x ∷ es) zero e below is = ap (λ (r : Row). Some r.1) (sym is)
trees_read (x ∷ es) (suc i) e below is = trees_read es i e (omega (arith, below)) is

pub row_written : (es : List Row) (i : ℕ) (e : Row) (w : List TreeMap) → i < length es → e ≡ slice_index_or es i e
    → slice_set es i (e.0, w) ≡ set_trees es i w
row_written [] i e w below is = absurd (omega (arith, below))
row_written (x ∷ es) zero e w below is = ap (λ (r : Row). (r.0, w) ∷ es) is
row_written (x ∷ es) (suc i) e w below is = ap (λ rows. x ∷ rows) (row_written es i e w (omega (arith, below)) is)
