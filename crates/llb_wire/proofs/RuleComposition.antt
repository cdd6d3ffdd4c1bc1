-- Laws of rules that are applied one after another.
use Rattle.std.specs.Prelude.{◌≡◌, Bool, true, false, cond, Result, Ok, Err}
use Rattle.std.proofs.Common.{refl}
use Rattle.llb_wire.specs.CallResults.{◌>>=◌}

-- if two rules, applied one after the other, return `y`, then the first rule returns some `x`, and the second one returns `y` for this `x`
pub bind_ok : {A B F : Type 0} (r : Result A F) (f : A → Result B F) (y : B) → (r >>= f) ≡ Ok y → (x : A) × (r ≡ Ok x) × (f x ≡ Ok y)
bind_ok (Ok x) f y e = (x, refl, e)
bind_ok (Err d) f y e = absurd cc

-- a rule fails if a test is true, and else returns `x`; if this rule returns `y`, then the test is false, and `x` is `y`
pub guard_ok : {A F : Type 0} (b : Bool) (d : F) (x y : A) → cond b (Err d) (Ok x) ≡ Ok y → (b ≡ false) × (x ≡ y)
guard_ok true d x y e = absurd cc
guard_ok false d x y e = (refl, cc)
