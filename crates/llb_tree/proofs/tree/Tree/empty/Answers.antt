use Rattle.std.proofs.Common.{[], ap, ◌∙◌}
use Rattle.std.specs.FinMap as finite
use Rattle.llb_tree.specs.Tree.{Dir}
use Rattle.llb_tree.proofs.Edits.{IsWhole-empty}
use Rattle.llb_tree.proofs.tree.Tree.empty.Goals as goal

pub invariant_of-result : goal.invariant_of-result
invariant_of-result c = IsWhole-empty c.in_ok-root.root (c.in_ok-root.ensures ∙ ap (λ m. finite.insert finite.empty [] (Dir m)) c.new_dir.ensures)
