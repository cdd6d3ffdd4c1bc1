-- A number is found where it is spelled, and each fault occurs only where its cause does.
use Rattle.std.proofs.Common.{◌≡◌, ℕ, zero, suc, ◌+◌, ◌-◌, ◌*◌, ◌≤◌, Bool, true, false, cond, ltb, List, [], ◌∷◌, length, drop, Result, Ok}
use Rattle.std.proofs.Common.{Err, ◌⊎◌, inl, inr, refl, sym, ap, arith}
use Rattle.std.proofs.lemmas.Bool.{ltb-false, ltb-true}
use Rattle.std.specs.Prelude.{IfOk, IfErr}
use Rattle.llb_wire.specs.declared.fault.WireFault.{WireFault}
use Rattle.llb_wire.specs.declared.fault.WireFault.TheVariants.{Truncated, LongVarint, BadField, BadWireType}
use Rattle.llb_wire.specs.CallResults.{◌>>=◌}
use Rattle.llb_wire.specs.Reading.{varint_from, varint_at}
use Rattle.llb_wire.specs.Spelling.{IsOpen, IsLong, VarintAt, VarintCause, CutVarint, AreBytes}
use Rattle.llb_wire.proofs.Varints.{varint_found}

-- a number that is read at a place is spelled from there up to the end that is given
pub at_varint : (bytes : List ℕ) (at : ℕ) (r : Result (ℕ × ℕ) WireFault) → AreBytes bytes → at ≤ length bytes → r ≡ varint_at bytes at
    → IfOk r (λ x. VarintAt bytes at x.0 x.1)
at_varint bytes at (Err d) are le e = tt
at_varint bytes at (Ok x) are le e = varint_found bytes at x are le (sym e)

err_step : (b : ℕ) (test : Bool) (more : Result (ℕ × ℕ) WireFault) (d : WireFault)
    → cond {A = Result (ℕ × ℕ) WireFault} test (Ok (b, 1)) (more >>= λ m. Ok (b - 128 + 128 * m.0, suc m.1)) ≡ Err d → (test ≡ false) × (more ≡ Err d)
err_step b true more d e = absurd cc
err_step b false (Ok m) d e = absurd cc
err_step b false (Err c) d e = (refl, let h : c ≡ d = cc in ap (λ x. Err x) h)

pub open_is : (more : ℕ) (bytes : List ℕ) → varint_from more bytes ≡ Err Truncated → IsOpen bytes × (length bytes ≤ more)
unfolding varint_from
open_is more [] e = (tt, omega arith)
open_is zero (b ∷ bytes) e = absurd (go b (ltb 1 b) e) where
  go : (b : ℕ) (t : Bool) → cond {A = Result (ℕ × ℕ) WireFault} t (Err LongVarint) (Ok (b, 1)) ≡ Err Truncated → ⊥
  go b true e = cc
  go b false e = cc
open_is (suc more) (b ∷ bytes) e =
    let s = err_step b (ltb b 128) (varint_from more bytes) Truncated e in
    let deep = open_is more bytes s.1 in
    ((ltb-false b 128 s.0, deep.0), omega (arith, deep.1))

pub long_is : (more : ℕ) (bytes : List ℕ) → varint_from more bytes ≡ Err LongVarint → IsLong more bytes
unfolding varint_from
long_is more [] e = absurd cc
long_is zero (b ∷ bytes) e = ltb-true 1 b (go b (ltb 1 b) refl e) where
  go : (b : ℕ) (t : Bool) → ltb 1 b ≡ t → cond {A = Result (ℕ × ℕ) WireFault} t (Err LongVarint) (Ok (b, 1)) ≡ Err LongVarint → ltb 1 b ≡ true
  go b true t e = t
  go b false t e = absurd cc
long_is (suc more) (b ∷ bytes) e =
    let s = err_step b (ltb b 128) (varint_from more bytes) LongVarint e in
    (ltb-false b 128 s.0, long_is more bytes s.1)

bind_err : (r : Result (ℕ × ℕ) WireFault) (at : ℕ) (d : WireFault) → ◌>>=◌ {A = ℕ × ℕ} {B = ℕ × ℕ} r (λ m. Ok (m.0, at + m.1)) ≡ Err d → r ≡ Err d
bind_err (Ok m) at d e = absurd cc
bind_err (Err c) at d e = let h : c ≡ d = cc in ap (λ x. Err x) h

-- a varint is refused for one of two causes
no_other : (more : ℕ) (bytes : List ℕ) (d : WireFault) → varint_from more bytes ≡ Err d → (d ≡ Truncated) ⊎ (d ≡ LongVarint)
unfolding varint_from
no_other more [] d e = inl (sym cc)
no_other zero (b ∷ bytes) d e = go b d (ltb 1 b) e where
  go : (b : ℕ) (d : WireFault) (t : Bool) → cond {A = Result (ℕ × ℕ) WireFault} t (Err LongVarint) (Ok (b, 1)) ≡ Err d → (d ≡ Truncated) ⊎ (d ≡ LongVarint)
  go b d true e = inr (sym cc)
  go b d false e = absurd cc
no_other (suc more) (b ∷ bytes) d e =
    let s = err_step b (ltb b 128) (varint_from more bytes) d e in no_other more bytes d s.1

cut_at : (bytes : List ℕ) (at : ℕ) → varint_at bytes at ≡ Err Truncated → CutVarint bytes at
cut_at bytes at e =
    let h = open_is 9 (drop at bytes) (bind_err (varint_from 9 (drop at bytes)) at Truncated e) in
    record { more = h.0; few = h.1 }

abbrev err_of : WireFault → Result (ℕ × ℕ) WireFault
err_of d = Err d

-- where no number is read at a place, the cause of the fault is at that place
pub at_faults : (bytes : List ℕ) (at : ℕ) (r : Result (ℕ × ℕ) WireFault) → r ≡ varint_at bytes at → IfErr r (VarintCause bytes at)
at_faults bytes at (Ok x) e = tt
at_faults bytes at (Err Truncated) e = cut_at bytes at (sym e)
at_faults bytes at (Err LongVarint) e = long_is 9 (drop at bytes) (bind_err (varint_from 9 (drop at bytes)) at LongVarint (sym e))
at_faults bytes at (Err BadField) e =
    elim (no_other 9 (drop at bytes) BadField (bind_err (varint_from 9 (drop at bytes)) at BadField (sym e))) [ inl h ↦ cc | inr h ↦ cc ]
at_faults bytes at (Err BadWireType) e =
    elim (no_other 9 (drop at bytes) BadWireType (bind_err (varint_from 9 (drop at bytes)) at BadWireType (sym e))) [ inl h ↦ cc | inr h ↦ cc ]
