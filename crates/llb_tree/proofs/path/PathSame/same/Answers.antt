use Rattle.std.proofs.Common.{◌≡◌, ◌↔◌, ℕ, List, Bool, true, nat_eq, sym, ◌∙◌}
use Rattle.std.specs.Cmp.Lexicographic.{pointwise, pointwise_decides, bytes_decides}
use Rattle.llb_tree.proofs.path.PathSame.same.Goals as goal

same_names : (xs ys : List (List ℕ)) (b : Bool) → b ≡ pointwise (pointwise nat_eq) xs ys → (b ≡ true) ↔ (xs ≡ ys)
same_names xs ys b is = let d = pointwise_decides bytes_decides xs ys in (λ e. d.0 (sym is ∙ e), λ e. is ∙ d.1 e)

pub returns : goal.returns
returns c = same_names c.args.self.now c.args.other.now c.eq.result c.eq.ensures
