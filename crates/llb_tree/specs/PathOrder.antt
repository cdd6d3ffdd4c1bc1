-- The laws of the order of paths.
use Rattle.std.specs.Prelude.{◌≡◌, ℕ, true, List, Some, nat_eq}
use Rattle.std.specs.Cmp.{Equal-is, IsTotalOrder, IsPartialOrder, partial_order_from_own_ties, partial_order_from_total}
use Rattle.std.specs.Cmp.Lexicographic.{pointwise, lists_total, nat_list_cmp_total, lists_ties, texts_ties}
use Rattle.std.specs.Ordering.{eq_by_cmp}
use Rattle.std.specs.FinMap.{IsAntisymmetric, slice_cmp-IsAntisymmetric, nat_cmp-IsAntisymmetric}
use Rattle.llb_tree.specs.Path.{name_cmp, path_cmp}

pub path_cmp-IsTotalOrder : IsTotalOrder path_cmp
path_cmp-IsTotalOrder = lists_total nat_list_cmp_total

-- two names that `name_cmp` compares as equal are the same name; below, the same is said of paths and `path_cmp`
pub name_cmp-IsAntisymmetric : IsAntisymmetric name_cmp
name_cmp-IsAntisymmetric = slice_cmp-IsAntisymmetric nat_cmp-IsAntisymmetric

pub path_cmp-IsAntisymmetric : IsAntisymmetric path_cmp
path_cmp-IsAntisymmetric = slice_cmp-IsAntisymmetric name_cmp-IsAntisymmetric

pub same_path : (p q : List (List ℕ)) → eq_by_cmp path_cmp p q ≡ true → p ≡ q
same_path p q tie = path_cmp-IsAntisymmetric p q ((Equal-is (path_cmp p q)).0 tie)

pub path_ties : (xs ys : List (List ℕ)) → pointwise (pointwise nat_eq) xs ys ≡ eq_by_cmp path_cmp xs ys
path_ties = lists_ties name_cmp texts_ties

pub path_partial_order : IsPartialOrder (pointwise (pointwise nat_eq)) (λ xs ys. Some (path_cmp xs ys))
path_partial_order = partial_order_from_own_ties (partial_order_from_total path_cmp-IsTotalOrder) path_ties
