use Rattle.llb_laws.proofs.trees_with_names.tree_has_names.Goals as goal

pub returns : goal.returns
returns c = λ p e is. let allowed = c.is_tree.ensures.allowed p e is in allowed.path.named
