-- What is known about a name.
use Rattle.std.proofs.Common.{◌≡◌, ℕ, ◌≤◌, true, List, length, arith}
use Rattle.std.proofs.lemmas.Bool.Decides.{nat_tests}
use Rattle.llb_tree.specs.Path.{is_name}

-- a name has at most 255 bytes
pub short_name : (name : List ℕ) → is_name name ≡ true → length name ≤ 255
short_name name is = grind (arith, nat_tests)
