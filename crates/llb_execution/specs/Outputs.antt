-- How the outputs of a vertex are put, one after another, in place of the empty trees that were made beforehand.
use Rattle.std.specs.Prelude.{ℕ, ℤ, pos, negsuc, Option, Some, None, List, [], ◌∷◌, map, slice_set, if◌then◌else◌}
use Rattle.llb_ops.specs.declared.op.Kind.{Kind}
use Rattle.llb_ops.specs.declared.op.Kind.TheVariants as kind
use Rattle.llb_ops.specs.declared.file_op.Action.{Action}
use Rattle.llb_tree.specs.Tree.{TreeMap, empty_tree}
use Rattle.llb_model.specs.Program.{is_output}

-- the actions of a file op; none for any other kind
abbrev pub actions_in : Option Kind → List Action
actions_in (Some (kind.File f)) = f.actions
actions_in _ = []

-- the output numbers of actions
abbrev pub numbers_of : List Action → List ℤ
numbers_of actions = map (λ (a : Action). a.output) actions

-- the first tree whose output number, at the same position of the list of numbers, is i; the empty tree if there is no such tree
abbrev pub tree_by : ℕ → List ℤ → List TreeMap → TreeMap
tree_by i [] trees = empty_tree
tree_by i (n ∷ ns) [] = empty_tree
tree_by i (n ∷ ns) (t ∷ trees) = if is_output i n then t else tree_by i ns trees

-- the list of trees with its first tree replaced by t; the same list if it is empty
abbrev pub first_placed : TreeMap → List TreeMap → List TreeMap
first_placed t [] = []
first_placed t (old ∷ trees) = t ∷ trees

-- the list of trees with the tree at this output number replaced by t; the same list if there is no tree at this number
abbrev pub placed : ℤ → TreeMap → List TreeMap → List TreeMap
placed (pos i) t trees = slice_set trees i t
placed (negsuc i) t trees = trees

-- the list of trees with the tree at the output number replaced by t; the same list if there is no output number, or no tree at this number
abbrev pub placed_by : Option ℤ → TreeMap → List TreeMap → List TreeMap
placed_by (Some n) t trees = placed n t trees
placed_by None t trees = trees
