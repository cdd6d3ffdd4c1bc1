-- How long what is written is.
use Rattle.std.proofs.Common.{◌≡◌, ℕ, zero, suc, ◌+◌, ◌-◌, ◌/◌, ◌≤◌, ◌<◌, Bool, true, false, List, [], ◌∷◌, ◌++◌, length, refl, sym, ap, ◌∙◌, arith}
use Rattle.std.proofs.Common.{length-append}
use Rattle.std.specs.Prelude.{nat_lt, nat_le, reverse}
use Rattle.std.proofs.lemmas.List.{reverse-append}
use Rattle.std.proofs.lemmas.Bool.{lt-ltb, le-ltb}
use Rattle.llb_wire.specs.Spelling.{shortest, varint_text, tag_text}
use Rattle.llb_wire.specs.declared.field.Wire.TheVariants as wire
use Rattle.llb_ops.specs.Writing.{set_bytes, each_field}
use Rattle.llb_ops.specs.Definition.{definition_bytes}
use Rattle.llb_ops.specs.Limits.{entry_limit}
use Rattle.llb_asm.specs.declared.open_op.Frame.{Frame}
use Rattle.llb_asm.specs.TextGrammar.{record_length, is_within}
use Rattle.llb_asm.specs.LineReader.{room_in}

-- ---- varints

-- where no byte more may come, a spelling is one byte
pub length_last : (n : ℕ) → length (shortest 0 n) ≡ 1
unfolding shortest
length_last n = refl

-- a number below 128 is spelled as one byte, however many may come
pub length_small : (more n : ℕ) → n < 128 → length (shortest more n) ≡ 1
unfolding shortest
length_small zero n lt = refl
length_small (suc more) n lt = rw (lt-ltb n 128 lt) refl

pub length_large : (more n : ℕ) → nat_lt n 128 ≡ false → length (shortest (suc more) n) ≡ 1 + length (shortest more (n / 128))
unfolding shortest
length_large more n e = rw e (omega arith)

-- a spelling is at most one byte longer than the count of those that may still come
pub length_positive : (more n : ℕ) → length (shortest more n) ≤ 1 + more
unfolding shortest
length_positive zero n = omega arith
length_positive (suc more) n = go (length_positive more (n / 128)) (nat_lt n 128) refl
  where
    go : length (shortest more (n / 128)) ≤ 1 + more → (b : Bool) → nat_lt n 128 ≡ b → length (shortest (suc more) n) ≤ 1 + suc more
    go again true e = rw e (omega arith)
    go again false e = rw e (omega (arith, again))

-- ---- records

-- a record with a payload has the length that its number and the payload's length say
pub length_record : (n : ℕ) (b : List ℕ) → length (set_bytes n b) ≡ record_length n (length b)
unfolding set_bytes
length_record n b =
    length-append (tag_text n wire.Len) (varint_text (length b) ++ b) ∙ ap (λ k. length (tag_text n wire.Len) + k) (length-append (varint_text (length b)) b)

-- one entry more makes a definition longer by the length of its record
pub length_with : (es : List (List ℕ)) (e : List ℕ) → length (definition_bytes (es ++ e ∷ [])) ≡ length (definition_bytes es) + record_length 1 (length e)
unfolding each_field
length_with [] e = length-append (set_bytes 1 e) [] ∙ (let h = length_record 1 e in omega (arith, h))
length_with (x ∷ es) e =
    let a = length-append (set_bytes 1 x) (definition_bytes (es ++ e ∷ [])) in
    let b = length-append (set_bytes 1 x) (definition_bytes es) in
    let c = length_with es e in omega (arith, a, b, c)

pub at_least : (n size : ℕ) → size ≤ record_length n size
at_least n size = omega arith

-- ---- room

-- more bytes than an entry may have find no room, in whichever message they are
pub no_room : (earlier : List (List ℕ)) (below : List Frame) (size : ℕ) → entry_limit < size → room_in (is_within earlier) below size ≡ false
no_room earlier [] size lt = go (nat_le size entry_limit) refl
  where
    go : (b : Bool) → nat_le size entry_limit ≡ b → is_within earlier size ≡ false
    go true e = absurd (grind (arith, e, lt))
    go false e = rw e refl
no_room earlier (f ∷ below) size lt = no_room earlier below (length f.bytes + record_length f.number size) (let h = at_least f.number size in omega
    (arith, lt, h))

-- the spelling of 128 or more is one byte longer than that of the number divided by 128
pub length_further : (more n k : ℕ) → ¬ (more ≡ 0) → 128 ≤ n → k ≡ length (shortest (more - 1) (n / 128)) → 1 + k ≡ length (shortest more n)
length_further zero n k some large e = absurd (some refl)
length_further (suc more) n k some large e =
    let less : suc more - 1 ≡ more = omega arith in
    let same : k ≡ length (shortest more (n / 128)) = e ∙ ap (λ m. length (shortest m (n / 128))) less in
    ap (λ x. 1 + x) same ∙ sym (length_large more n (le-ltb n 128 large))

-- turned round, a list of open messages begins with its last one
pub turned_below : (below : List Frame) (f : Frame) → reverse (below ++ f ∷ []) ≡ f ∷ reverse below
turned_below below f = reverse-append below (f ∷ [])
