-- Two definitions that are compared: why they are refused, and what is written for them.
use Rattle.std.proofs.Common.{◌≡◌, ℕ, Bool, true, false, cond, List, inl, refl, ap, subst}
use Rattle.std.specs.Prelude.{Option, IfSome}
use Rattle.llb_loader.specs.Faults.{is_memory}
use Rattle.llb_loader.specs.declared.fault.LoadFault.{LoadFault}
use Rattle.llb_laws.specs.Refusals.{IsRefusalOfTwo}
use Rattle.llb_commands.specs.MatchText.{IsRefusedOfTwo}
use Rattle.llb_commands.specs.Running.{passed_on, IsRefusal, TellsRefusal}
use Rattle.llb_commands.specs.declared.fault.ProgramFault.{ProgramFault}
use Rattle.llb_commands.specs.declared.fault.ProgramFault.TheVariants.{Refused, Loading}
use Rattle.llb_commands.proofs.RunOutput.{some_map}

-- a fault of loading that is passed on as a refusal is not that memory was refused
plain_fault : (e : LoadFault) → IsRefusal (passed_on e) → is_memory e ≡ false
plain_fault e h = by_test (is_memory e) refl h
  where
    by_test : (b : Bool) → is_memory e ≡ b → IsRefusal (cond b Loading (Refused e)) → is_memory e ≡ false
    by_test true is h = absurd h
    by_test false is h = is

-- the refusal of two definitions is passed on
pub refuses_two : (old bytes : List ℕ) (e : LoadFault) → (is_memory e ≡ false → IsRefusalOfTwo old bytes e) → IsRefusal (passed_on e)
    → IsRefusedOfTwo old (passed_on e) bytes
refuses_two old bytes e refused h =
    let plain = plain_fault e h in
    let passed : passed_on e ≡ Refused e = ap (λ b. cond b Loading (Refused e)) plain in
    inl (e, refused plain, passed)

-- a refusal of two definitions is a refusal of the bytes that were read
pub tells_two : (old bytes : List ℕ) (left : Option (List ℕ)) (p : ProgramFault) → IfSome left (λ xs. bytes ≡ xs)
    → (IsRefusal p → IsRefusedOfTwo old p bytes) → TellsRefusal (IsRefusedOfTwo old) left p
tells_two old bytes left p read refused h =
    some_map (λ xs. bytes ≡ xs) (IsRefusedOfTwo old p) left (λ xs same. subst (IsRefusedOfTwo old p) same (refused h)) read
