-- Why a definition is refused, for its bytes or for its entries.
use Rattle.std.proofs.Common.{◌≡◌, true, false, Err, refl, List, ℕ, inl}
use Rattle.llb_ops.specs.declared.fault.OpFault.{OpFault}
use Rattle.llb_ops.specs.declared.fault.OpFault.TheVariants as op
use Rattle.llb_ops.specs.Faults as ops
use Rattle.llb_ops.specs.Definition.{definition_of}
use Rattle.llb_loader.specs.Faults.{is_memory, definition_fault}
use Rattle.llb_loader.specs.LoadResult.{IsRefusalIn}

-- bytes that are not read as a definition
pub unreadable : (bytes : List ℕ) (f : OpFault) → (ops.is_memory f ≡ false → definition_of bytes ≡ Err f) → is_memory (definition_fault f) ≡ false
    → IsRefusalIn bytes (definition_fault f)
unreadable bytes (op.Wire w) g m = inl (op.Wire w, g refl, refl)
unreadable bytes op.WrongWireType g m = inl (op.WrongWireType, g refl, refl)
unreadable bytes op.NotUtf8 g m = inl (op.NotUtf8, g refl, refl)
unreadable bytes op.OverLimit g m = inl (op.OverLimit, g refl, refl)
unreadable bytes op.Memory g m = absurd (let x : true ≡ false = m in cc)
