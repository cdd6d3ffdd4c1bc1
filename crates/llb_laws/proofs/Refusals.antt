-- Why definitions are refused, by the faults with which calls of other crates fail.
use Rattle.std.proofs.Common.{◌≡◌, ℕ, true, false, List, Result, Ok, Err, inr, refl, sym, ◌∙◌}
use Rattle.std.specs.Prelude.{is_ok}
use Rattle.llb_ops.specs.declared.fault.OpFault.{OpFault}
use Rattle.llb_ops.specs.declared.fault.OpFault.TheVariants as op
use Rattle.llb_ops.specs.Faults as ops
use Rattle.llb_ops.specs.Definition.{definition_of}
use Rattle.llb_loader.specs.declared.fault.LoadFault.{LoadFault}
use Rattle.llb_loader.specs.declared.fault.LoadFault.TheVariants as load
use Rattle.llb_loader.specs.Faults as loader
use Rattle.llb_loader.specs.LoadResult.{IsRefusalIn}
use Rattle.llb_board.specs.Opening.{may_work}
use Rattle.llb_laws.specs.Refusals.{IsUnreadable, is_memory, load_refused, IsRefusalOfKept}

-- ---- reading a definition

-- the fault of a reading that fails for another cause than memory
pub unreadable : (d : List ℕ) (f : OpFault) → (ops.is_memory f ≡ false → definition_of d ≡ Err f) → loader.is_memory (loader.definition_fault f) ≡ false
    → IsUnreadable d (loader.definition_fault f)
unreadable d (op.Wire w) g m = (op.Wire w, g refl, refl)
unreadable d op.WrongWireType g m = (op.WrongWireType, g refl, refl)
unreadable d op.NotUtf8 g m = (op.NotUtf8, g refl, refl)
unreadable d op.OverLimit g m = (op.OverLimit, g refl, refl)
unreadable d op.Memory g m = absurd (let x : true ≡ false = m in cc)

-- bytes that are a definition are read, or memory is refused
pub readable : (d : List ℕ) (xs : List (List ℕ)) (f : OpFault) → definition_of d ≡ Ok xs → (ops.is_memory f ≡ false → definition_of d ≡ Err f)
    → loader.is_memory (loader.definition_fault f) ≡ false → ⊥
readable d xs f is g m =
    let u = unreadable d f g m in
    let both : ◌≡◌ {A = Result (List (List ℕ)) OpFault} (Ok xs) (Err u.0) = sym is ∙ u.1 in
    cc

-- memory is refused last
pub memory_last : (d : List ℕ) (f : OpFault) → (ops.is_memory f ≡ true → is_ok (definition_of d) ≡ true) → loader.is_memory (loader.definition_fault f) ≡ true
    → is_ok (definition_of d) ≡ true
memory_last d (op.Wire w) g m = absurd (let x : false ≡ true = m in cc)
memory_last d op.WrongWireType g m = absurd (let x : false ≡ true = m in cc)
memory_last d op.NotUtf8 g m = absurd (let x : false ≡ true = m in cc)
memory_last d op.OverLimit g m = absurd (let x : false ≡ true = m in cc)
memory_last d op.Memory g m = g refl

-- ---- loading the definition of a board

-- the fault of a loading that fails for another cause than memory
pub kept_refusal : (d : List ℕ) (n : ℕ) (f : LoadFault) → may_work n ≡ true → (loader.is_memory f ≡ false → IsRefusalIn d f)
    → is_memory (load_refused f) ≡ false → IsRefusalOfKept d n (load_refused f)
kept_refusal d n (load.Definition o) may g m = inr (may, load.Definition o, g refl, refl)
kept_refusal d n (load.Entry k o) may g m = inr (may, load.Entry k o, g refl, refl)
kept_refusal d n load.TooFew may g m = inr (may, load.TooFew, g refl, refl)
kept_refusal d n (load.Collision k) may g m = inr (may, load.Collision k, g refl, refl)
kept_refusal d n load.NoResult may g m = inr (may, load.NoResult, g refl, refl)
kept_refusal d n (load.UnknownDigest k i) may g m = inr (may, load.UnknownDigest k i, g refl, refl)
kept_refusal d n load.Cycle may g m = inr (may, load.Cycle, g refl, refl)
kept_refusal d n (load.Unsupported k x) may g m = inr (may, load.Unsupported k x, g refl, refl)
kept_refusal d n (load.Invalid k r) may g m = inr (may, load.Invalid k r, g refl, refl)
kept_refusal d n (load.BadIndex k i) may g m = inr (may, load.BadIndex k i, g refl, refl)
kept_refusal d n load.Memory may g m = absurd (let x : true ≡ false = m in cc)
