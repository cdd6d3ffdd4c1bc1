-- How many records a field has.
use Rattle.std.proofs.Common.{◌≡◌, ℕ, List, length, sym}
use Rattle.std.specs.Prelude.{count_by}
use Rattle.std.specs.Bool.{◌==◌}
use Rattle.std.proofs.lemmas.List.Sums.{length-filter}
use Rattle.llb_wire.specs.Records.{Record}
use Rattle.llb_ops.specs.Records.{all}

-- the count of the records with a number is the length of the list of them
pub count_all : (n : ℕ) (rs : List Record) → count_by (λ r. r.number == n) rs ≡ length (all n rs)
count_all n rs = sym (length-filter (λ r. r.number == n) rs)
