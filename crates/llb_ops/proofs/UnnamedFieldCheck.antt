-- Whether bytes are records of fields that the message doesn't name, as a loop finds it.
use Rattle.std.proofs.Common.{◌≡◌, ℕ, Bool, true, false, cond, List, [], ◌∷◌, Option, Some, None, Result, Ok, Err, refl, sym, ap, ◌∙◌}
use Rattle.std.specs.Prelude.{is_none, ◌&&◌, if◌then◌else◌}
use Rattle.llb_wire.specs.CallResults.{◌>>=◌}
use Rattle.llb_wire.specs.Records.{Record}
use Rattle.llb_ops.specs.declared.fault.OpFault.{OpFault}
use Rattle.llb_ops.specs.declared.fault.OpFault.TheVariants.{NotUtf8}
use Rattle.llb_ops.specs.declared.payloads_and_limits.Form.{Form}
use Rattle.llb_ops.specs.declared.table.MessageName.{MessageName}
use Rattle.llb_ops.specs.Table.{shape_of}
use Rattle.llb_ops.specs.Records.{form_of, text_ok, text_fits, texts_fit, parts, records_from}
use Rattle.llb_ops.specs.CanonicalFields.{are_unnamed, only_unnamed}

-- the records that were read, unless one of their texts is not UTF-8
abbrev settled : MessageName → Result (List Record) OpFault → Result (List Record) OpFault
settled m read = read >>= λ rs. if texts_fit (shape_of m) rs then Ok rs else Err NotUtf8

of_settled : (m : MessageName) (bytes : List ℕ) → are_unnamed m bytes ≡ only_unnamed m (settled m (records_from (shape_of m) 0 bytes))
unfolding are_unnamed parts
of_settled m bytes = refl

no_text : (o : Option Form) (payload : List ℕ) → is_none o ≡ true → text_ok o payload ≡ true
no_text None payload e = refl
no_text (Some f) payload e = absurd cc

with_first : (m : MessageName) (r : Record) (read : Result (List Record) OpFault) → is_none (form_of (shape_of m) r.number) ≡ true
    → only_unnamed m (settled m (read >>= λ rs. Ok (r ∷ rs))) ≡ only_unnamed m (settled m read)
with_first m r (Err f) e = refl
with_first m r (Ok rs) e = rw (no_text (form_of (shape_of m) r.number) r.payload e) (go (texts_fit (shape_of m) rs))
  where
    go : (b : Bool) → only_unnamed m (if b then Ok (r ∷ rs) else Err NotUtf8) ≡ only_unnamed m (if b then Ok rs else Err NotUtf8)
    go true = rw e refl
    go false = refl

with_named : (m : MessageName) (r : Record) (read : Result (List Record) OpFault) → is_none (form_of (shape_of m) r.number) ≡ false
    → only_unnamed m (settled m (read >>= λ rs. Ok (r ∷ rs))) ≡ false
with_named m r (Err f) e = refl
with_named m r (Ok rs) e = go (texts_fit (shape_of m) (r ∷ rs))
  where
    go : (b : Bool) → only_unnamed m (if b then Ok (r ∷ rs) else Err NotUtf8) ≡ false
    go true = rw e refl
    go false = refl

-- after a record that the message does not name, what is left decides
pub goes_on : (m : MessageName) (r : Record) (bytes after : List ℕ)
    → records_from (shape_of m) 0 bytes ≡ (records_from (shape_of m) 0 after >>= λ rs. Ok (r ∷ rs))
    → is_none (form_of (shape_of m) r.number) ≡ true → are_unnamed m bytes ≡ are_unnamed m after
goes_on m r bytes after reads e = of_settled m bytes ∙ ap (λ x. only_unnamed m (settled m x)) reads
    ∙ with_first m r (records_from (shape_of m) 0 after) e ∙ sym (of_settled m after)

-- bytes with a record that the message names are not only unnamed ones
pub is_named : (m : MessageName) (r : Record) (bytes after : List ℕ)
    → records_from (shape_of m) 0 bytes ≡ (records_from (shape_of m) 0 after >>= λ rs. Ok (r ∷ rs))
    → is_none (form_of (shape_of m) r.number) ≡ false → are_unnamed m bytes ≡ false
is_named m r bytes after reads e = of_settled m bytes ∙ ap (λ x. only_unnamed m (settled m x)) reads ∙ with_named m r (records_from (shape_of m) 0 after) e

-- bytes without records have none that the message names
pub at_end : (m : MessageName) (bytes : List ℕ) → records_from (shape_of m) 0 bytes ≡ Ok [] → are_unnamed m bytes ≡ true
at_end m bytes reads = of_settled m bytes ∙ ap (λ x. only_unnamed m (settled m x)) reads

-- bytes that can't be read as records are not unnamed ones
pub unread : (m : MessageName) (bytes : List ℕ) (f : OpFault) → records_from (shape_of m) 0 bytes ≡ Err f → are_unnamed m bytes ≡ false
unread m bytes f reads = of_settled m bytes ∙ ap (λ x. only_unnamed m (settled m x)) reads
