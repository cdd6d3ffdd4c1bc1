-- What is found in the bytes of a definition, and what is written of it.
use Rattle.std.proofs.Common.{◌≡◌, ℕ, ◌<◌, Bool, List, [], ◌∷◌, length, Option, Result, Ok, Err, inl, inr, refl, sym, subst, ◌∙◌}
use Rattle.std.specs.Prelude.{IfSome, Vec}
use Rattle.std.specs.Global.{Global}
use Rattle.llb_ops.specs.declared.fault.OpFault.TheVariants.{OverLimit}
use Rattle.llb_loader.specs.Graph.{Numbered}
use Rattle.llb_loader.specs.LoadResult.{IsGraphIn, IsRefusalIn}
use Rattle.llb_loader.specs.declared.fault.LoadFault.{LoadFault}
use Rattle.llb_loader.specs.declared.fault.LoadFault.TheVariants.{Definition}
use Rattle.llb_findings.specs.Findings.{BeginsAsLoad}
use Rattle.llb_commands.specs.BoundedReading.{ReadsAll}
use Rattle.llb_commands.specs.CallStreams.{Stream}
use Rattle.llb_commands.specs.Faults.{Tells}
use Rattle.llb_commands.specs.FindingLines.{AreFound, IsTooLong, FindsUnread, FindsIn, Finds, PrintsFound, ListsAll, ListsPart, ListsIn}
use Rattle.llb_commands.specs.Running.{IsRefusal}
use Rattle.llb_commands.specs.declared.bounded_reading.ReadFault.{ReadFault}
use Rattle.llb_commands.specs.declared.bounded_reading.ReadFault.TheVariants as reading
use Rattle.llb_commands.specs.declared.fault.ProgramFault.{ProgramFault}
use Rattle.llb_commands.proofs.RunOutput.{refusal_or_three, some_map, too_long, unread_long}

-- ---- a definition that is too long

abbrev only : List LoadFault
only = Definition OverLimit ∷ []

begins_long : (bytes : List ℕ) → 67108864 < length bytes → BeginsAsLoad bytes only
begins_long bytes long = record {
  none = (λ is. absurd cc, λ loaded. absurd (no_graph loaded.0 loaded.1));
  first = first;
}
  where
    no_graph : (g : Numbered) → IsGraphIn bytes g → ⊥
    no_graph g loaded = let same : Err OverLimit ≡ Ok loaded.0 = sym (unread_long bytes long) ∙ loaded.1 in cc

    first : (e : LoadFault) (rest : List LoadFault) → only ≡ e ∷ rest → IsRefusalIn bytes e
    first e rest is =
        let same : Definition OverLimit ≡ e = cc in
        subst (IsRefusalIn bytes) same (inl (OverLimit, unread_long bytes long, refl))

found_long : (bytes : List ℕ) → 67108864 < length bytes → AreFound bytes only
found_long bytes long = record { all = inl (OverLimit, unread_long bytes long, refl); begins = begins_long bytes long }

finds_long : (left : Option (List ℕ)) (r : Result (Vec LoadFault Global) ProgramFault) → IfSome left (λ xs. 67108864 < length xs) → IsTooLong r → Finds left r
finds_long left (Ok found) long is =
    some_map (λ xs. 67108864 < length xs) (λ xs. AreFound xs found.items) left (λ xs over. subst (AreFound xs) (sym is) (found_long xs over)) long
finds_long left (Err e) long is = is

-- what is found in a definition that was not read
pub finds_unread : (left left' : Option (List ℕ)) (read : Result (Vec ℕ Global) ReadFault) (f : ReadFault) (r : Result (Vec LoadFault Global) ProgramFault)
    → read ≡ Err f → ReadsAll 67108864 134217728 left left' read → FindsUnread f r → Finds left r
finds_unread left left' read reading.TooLong r is reads found = finds_long left r (too_long left left' read reading.TooLong is refl reads) found
finds_unread left left' read (reading.Failed kind) (Ok found) is reads none = absurd none
finds_unread left left' read (reading.Failed kind) (Err e) is reads none = none
finds_unread left left' read (reading.Unending n) (Ok found) is reads none = absurd none
finds_unread left left' read (reading.Unending n) (Err e) is reads none = none
finds_unread left left' read reading.Memory (Ok found) is reads none = absurd none
finds_unread left left' read reading.Memory (Err e) is reads none = none

-- what is found in the bytes that were read
pub finds_read : (left : Option (List ℕ)) (bytes : List ℕ) (r : Result (Vec LoadFault Global) ProgramFault) → IfSome left (λ xs. bytes ≡ xs)
    → FindsIn bytes r → Finds left r
finds_read left bytes (Ok found) read are =
    some_map (λ xs. bytes ≡ xs) (λ xs. AreFound xs found.items) left (λ xs same. subst (λ ys. AreFound ys found.items) same are) read
finds_read left bytes (Err e) read none = none

-- ---- what is written

-- the lines of what was found are written
pub lists : (left : Option (List ℕ)) (found : List LoadFault) (output : Stream) (r : Result Bool ProgramFault)
    → IfSome left (λ bytes. AreFound bytes found) → PrintsFound found output r → ListsIn left output r
lists left found output (Ok none) are (is, written) =
    some_map (λ bytes. AreFound bytes found) (ListsAll none output) left (λ bytes these. (found, these, is, written)) are
lists left found output (Err e) are (no_refusal, inl kept) = (no_refusal, inl kept)
lists left found output (Err e) are (no_refusal, inr part) =
    (no_refusal, inr (some_map (λ bytes. AreFound bytes found) (ListsPart output) left (λ bytes these. (found, these, part)) are))

-- the status of a fault that is no refusal
pub three_told : (errors : Stream) (e : ProgramFault) (status : ℕ) → ¬ IsRefusal e → Tells errors.before errors.after e status → status ≡ 3
three_told errors e status none (inr three) = three
three_told errors e status none (inl (is, line)) = elim (refusal_or_three e) [
  | inl h ↦ absurd (none h.0)
  | inr three ↦ is ∙ three
]
