-- What follows from an equality of two constructors, for all crates above.
use Rattle.std.proofs.Common.{◌≡◌, ℕ, Option, Some, None}
use Rattle.std.specs.Prelude.{Result, Ok}
use Rattle.llb_model.specs.State.{Execution, WorkerStatus, Runs}

-- two equal values of Ok have equal parts
pub inside_ok : {A E : Type 0} {x y : A} → ◌≡◌ {A = Result A E} (Ok x) (Ok y) → x ≡ y
inside_ok e = cc

-- two equal values of Some have equal parts
pub inside_some : {A : Type 0} {x y : A} → ◌≡◌ {A = Option A} (Some x) (Some y) → x ≡ y
inside_some e = cc

-- None is no value of Some
pub none_some : {A : Type 0} {x : A} → ◌≡◌ {A = Option A} None (Some x) → ⊥
none_some e = cc

-- a worker runs one execution
pub runs_inside : {x y : Execution} → ◌≡◌ {A = Option WorkerStatus} (Some (Runs x)) (Some (Runs y)) → x ≡ y
runs_inside e = cc

-- a worker has one lease
pub lease_inside : {k n : ℕ} → ◌≡◌ {A = Option (Option ℕ)} (Some (Some k)) (Some (Some n)) → k ≡ n
lease_inside e = cc

-- having no lease differs from having one
pub some_apart : (l : ℕ) → ◌≡◌ {A = Option (Option ℕ)} (Some None) (Some (Some l)) → ⊥
some_apart l e = cc
