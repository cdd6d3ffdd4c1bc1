-- What is taken as an entry is within the limits.
use Rattle.std.proofs.Common.{◌≡◌, ℕ, Bool, true, false, List, length, Option, Some, None, Result, Ok, Err, refl, sym, ap, ◌∙◌}
use Rattle.std.specs.Prelude.{nat_lt, ◌&&◌, if◌then◌else◌}
use Rattle.llb_wire.specs.CallResults.{◌>>=◌}
use Rattle.llb_ops.specs.Limits.{entries_limit}
use Rattle.llb_ops.specs.Messages.{op_of}
use Rattle.llb_asm.specs.declared.fault.Rule.TheVariants.{OverLimit}
use Rattle.llb_asm.specs.declared.line.Refusal.{Refusal}
use Rattle.llb_asm.specs.declared.line.Refusal.TheVariants.{Breaks}
use Rattle.llb_asm.specs.declared.entry.Begun.{Begun}
use Rattle.llb_asm.specs.declared.entry.Begun.TheVariants.{Raw}
use Rattle.llb_asm.specs.EntryLine.{parted, guard}
use Rattle.llb_asm.specs.TextGrammar.{is_within, begun_in, begun_by, begun_size, canonical_of, canonical_in, entry_in}

second : (a b : Bool) → (a && b) ≡ true → b ≡ true
second true b e = e
second false b e = absurd cc

guarded : (earlier : List (List ℕ)) (r : Result Begun Refusal) (bytes : List ℕ)
    → (r >>= λ b. (guard (Breaks OverLimit) (nat_lt (length earlier) entries_limit && is_within earlier (begun_size b)) >>= λ _. Ok b)) ≡ Ok (Raw bytes)
    → is_within earlier (length bytes) ≡ true
guarded earlier (Err e) bytes same = absurd cc
guarded earlier (Ok b) bytes same = go (nat_lt (length earlier) entries_limit && is_within earlier (begun_size b)) refl same
  where
    go : (t : Bool) → (nat_lt (length earlier) entries_limit && is_within earlier (begun_size b)) ≡ t
        → (guard (Breaks OverLimit) t >>= λ _. Ok b) ≡ Ok (Raw bytes) → is_within earlier (length bytes) ≡ true
    go false e same = absurd cc
    go true e same =
        let is : b ≡ Raw bytes = cc in
        ap (λ x. is_within earlier (begun_size x)) (sym is) ∙ second (nat_lt (length earlier) entries_limit) (is_within earlier (begun_size b)) e

-- an entry that is begun as its bytes is within the limits
pub begun_room : (earlier : List (List ℕ)) (line bytes : List ℕ) → begun_in earlier line ≡ Ok (Raw bytes) → is_within earlier (length bytes) ≡ true
unfolding begun_in
begun_room earlier line bytes same = guarded earlier (begun_by line (parted line)) bytes same

canonical_room : (earlier : List (List ℕ)) (o : Option (List ℕ)) (entry : List ℕ) → canonical_in earlier o ≡ Ok entry
    → is_within earlier (length entry) ≡ true
canonical_room earlier None entry same = absurd cc
canonical_room earlier (Some bytes) entry same = go (is_within earlier (length bytes)) refl same
  where
    go : (t : Bool) → is_within earlier (length bytes) ≡ t → (if t then Ok bytes else Err (Breaks OverLimit)) ≡ Ok entry
        → is_within earlier (length entry) ≡ true
    go false e same = absurd cc
    go true e same = let is : bytes ≡ entry = cc in ap (λ x. is_within earlier (length x)) (sym is) ∙ e

-- the canonical bytes that the records of an op are taken as are within the limits
pub entry_room : (earlier : List (List ℕ)) (records entry : List ℕ) → entry_in earlier records ≡ Ok entry → is_within earlier (length entry) ≡ true
unfolding entry_in
entry_room earlier records entry same = canonical_room earlier (canonical_of (op_of records)) entry same
