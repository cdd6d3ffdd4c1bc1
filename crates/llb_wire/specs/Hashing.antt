-- Equal texts have the same hash.
use Rattle.std.proofs.Common.{◌≡◌, ℕ, true, List, sym, ap, ◌∙◌, nat_eq}
use Rattle.std.specs.Ordering.{nat_cmp}
use Rattle.std.specs.Cmp.{Equal-is}
use Rattle.std.specs.Cmp.Lexicographic.{pointwise, slice_cmp, texts_ties}
use Rattle.std.specs.FinMap.{nat_cmp-IsAntisymmetric, slice_cmp-IsAntisymmetric}
use Rattle.std.specs.Hash as fed

-- two texts are equal if the code's `==` is true of them
pub same_text : (x y : List ℕ) → pointwise nat_eq x y ≡ true → x ≡ y
same_text x y e =
    slice_cmp-IsAntisymmetric nat_cmp-IsAntisymmetric x y ((Equal-is (slice_cmp nat_cmp x y)).0 (sym (texts_ties x y) ∙ e))

pub texts_alike : (x y : List ℕ) → pointwise nat_eq x y ≡ true → fed.str x ≡ fed.str y
texts_alike x y e = ap fed.str (same_text x y e)
