-- Equal results, and faults that never occur.
use Rattle.std.proofs.Common.{◌≡◌, Result, Ok, Err, Option, Some, None, is_some, false, true, true≢false, refl, sym}
use Rattle.std.specs.Prelude.{is_ok}
use Rattle.llb_tree.specs.declared.fault.TreeFault.{TreeFault}

-- two equal results without a fault have the same value
pub same_Ok : {X : Type 0} {x y : X} → ◌≡◌ {A = Result X TreeFault} (Ok x) (Ok y) → x ≡ y
same_Ok e = cc

-- a result without a fault is not a fault: if it is equal to one, anything follows
pub never : {X : Type 0} {C : Type 0} {x : X} {f : TreeFault} → ◌≡◌ {A = Result X TreeFault} (Ok x) (Err f) → C
never e = absurd cc

-- a check that passes returns `Ok` with the only value that a check has
pub granted : (r : Result (Unit {0}) TreeFault) → is_ok r ≡ true → r ≡ Ok tt
granted (Ok x) is = refl
granted (Err e) is = absurd (true≢false (sym is))

-- an option that a test finds empty is `None`
pub none_there : {A : Type 0} (o : Option A) → is_some o ≡ false → o ≡ None
none_there None is = refl
none_there (Some x) is = absurd (true≢false is)
