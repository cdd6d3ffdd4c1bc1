use Rattle.std.proofs.Common.{◌≡◌, ◌++◌, take, true}
use Rattle.std.specs.List.{All}
use Rattle.llb_tree.specs.Path.{is_name}
use Rattle.llb_tree.proofs.path.push_names.Given as goal

abbrev pub invariant-loop-name : goal.invariant-loop-name
invariant-loop-name l = record {
  so_far : l.names.items ≡ l.fn.names.items ++ take l.name-index l.more;
  named : All (λ n. is_name n ≡ true) l.fn.names.items → All (λ n. is_name n ≡ true) l.names.items;
}
