use Rattle.std.proofs.Common.{◌≡◌, ℕ, ◌≤◌, refl, sym, ap, subst, ◌∙◌, w32, arith}
use Rattle.std.specs.Prelude.{ℤ, pos, negsuc, unsigned_abs}
use Rattle.std.specs.Int.{int_rem_euclid}
use Rattle.std.proofs.lemmas.Int.{to_z-of_z}
use Rattle.llb_fileop.specs.Owners.{mode_of}
use Rattle.llb_fileop.proofs.owner.low_bits.Goals as goal

low : (z : ℤ) → int_rem_euclid z (pos 4096) ≡ pos (mode_of z)
low (pos n) = refl
low (negsuc n) = refl

below : (z : ℤ) → mode_of z ≤ 4095
below (pos n) = omega arith
below (negsuc n) = omega arith

pub returns-clause-value : goal.returns-clause-value
returns-clause-value c =
    ap unsigned_abs
    (to_z-of_z w32 c.rem_euclid.result (record { sfits = c.rem_euclid.type_inv }) ∙ c.rem_euclid.ensures.value
    ∙ ap (λ z. int_rem_euclid z (pos 4096)) (to_z-of_z w32 c.args.mode c.ranges.mode) ∙ low c.args.mode)

pub returns-clause-small : goal.returns-clause-small
returns-clause-small c =
    let is = ap unsigned_abs
    (to_z-of_z w32 c.rem_euclid.result (record { sfits = c.rem_euclid.type_inv }) ∙ c.rem_euclid.ensures.value
    ∙ ap (λ z. int_rem_euclid z (pos 4096)) (to_z-of_z w32 c.args.mode c.ranges.mode) ∙ low c.args.mode) in
    subst (λ (n : ℕ). n ≤ 4095) (sym is) (below c.args.mode)
