-- The kinds of fields, each read again of what is written.
use Rattle.std.proofs.Common.{◌≡◌, ℕ, suc, ◌+◌, ◌*◌, ◌<◌, ◌≤◌, ◌^◌, Bool, true, false, eqb, List, [], ◌∷◌, ◌++◌, length, map, Option, Some}
use Rattle.std.proofs.Common.{None, refl, sym, ap, subst, ◌∙◌, Result, Ok, eq-eqb, arith}
use Rattle.std.specs.Prelude.{nat_le, nat_lt, ◌&&◌}
use Rattle.std.specs.List.{AllByRecursion}
use Rattle.std.specs.Bool.{◌==◌, if◌then◌else◌}
use Rattle.std.proofs.lemmas.Bool.{eqb-true, ne_eqb, ltb-true, leb-true}
use Rattle.std.proofs.lemmas.List.{append-nil, length-append, length-map}
use Rattle.llb_wire.specs.CallResults.{◌>>=◌}
use Rattle.llb_wire.proofs.RuleComposition.{bind_ok}
use Rattle.llb_wire.specs.declared.field.Wire.TheVariants as wire
use Rattle.llb_wire.specs.Spelling.{varint_text}
use Rattle.llb_wire.specs.Records.{Record}
use Rattle.llb_ops.specs.declared.fault.OpFault.{OpFault}
use Rattle.llb_ops.specs.declared.payloads_and_limits.Form.TheVariants as form
use Rattle.llb_ops.specs.Limits.{field_limit}
use Rattle.llb_ops.specs.Records.{Shape, form_of, wire_fits, text_ok, all, is_member, number, payload, payloads, joined, one, each}
use Rattle.llb_ops.specs.Writing.{number_field, bytes_field, set_number, set_bytes, message_field, messages_field, each_field}
use Rattle.llb_ops.proofs.RecordRoundTrip.{number_part, bytes_part, number_part_is, bytes_part_is, spelled}
use Rattle.llb_ops.proofs.TextValidity.{last_payload}
use Rattle.llb_ops.proofs.NumberRoundTrip.{Recodes}
use Rattle.llb_ops.proofs.RecordsByFieldNumber.{All-map, All-both, All-filter, filter_passes, filter_all, filter_narrow, mine, has_one, and_both}
use Rattle.llb_ops.proofs.FieldRoundTrip.{IsGood, IsShort, IsWritten, FieldOf, Returns, ok_of, ok_is}

-- a good record of the field with the number n
pub record IsOf (shape : Shape) (n : ℕ) (r : Record) : Type 0 where
  pub good : IsGood shape r
  pub number : r.number ≡ n

-- among good records those of one field are good, and of its number
pub of_all : (shape : Shape) (n : ℕ) (rs : List Record) → AllByRecursion (IsGood shape) rs → AllByRecursion (IsOf shape n) (all n rs)
of_all shape n rs good =
    All-map (λ r. (r.number == n ≡ true) × IsGood shape r) (IsOf shape n) (all n rs) (λ r h. record { good = h.1; number = eqb-true r.number n h.0 })
    (All-both (λ r. r.number == n ≡ true) (IsGood shape) (all n rs) (filter_passes (λ r. r.number == n) rs)
    (All-filter (IsGood shape) (λ r. r.number == n) rs good))

-- records that are all of one number are all of that field's
pub same_number : (n : ℕ) (rs : List Record) → AllByRecursion (λ r. r.number ≡ n) rs → all n rs ≡ rs
same_number n rs h = filter_all (λ r. r.number == n) rs (All-map (λ r. r.number ≡ n) (λ r. r.number == n ≡ true) rs (λ r e. eq-eqb r.number n e) h)

pub all_mine : (n : ℕ) (rs : List Record) → all n (mine (n ∷ []) rs) ≡ all n rs
all_mine n rs = filter_narrow (λ r. r.number == n) (is_member (n ∷ [])) rs (λ r e. has_one n r.number e)

-- a field with one number, given what is read of, and written to, the records with this number
abbrev pub plain : {shape : Shape} {M A : Type 0} (n : ℕ) (read : List Record → Result A OpFault)
    (run : List Record → (A → Result M OpFault) → Result M OpFault) (within : List Record → Bool) (write : A → List Record) (bytes : A → List ℕ)
    → ((xs : List Record) (k : A → Result M OpFault) → run xs k ≡ (read xs >>= k))
    → ((a : A) → spelled (write a) ≡ bytes a)
    → ((a : A) → AllByRecursion (λ r. r.number ≡ n) (write a))
    → ((xs : List Record) (a : A) → AllByRecursion (IsOf shape n) xs → read xs ≡ Ok a → AllByRecursion (IsWritten shape) (write a))
    → ((xs : List Record) (a : A) → AllByRecursion (IsOf shape n) xs → read xs ≡ Ok a → AllByRecursion IsShort (write a) → read (write a) ≡ Ok a)
    → ((xs : List Record) (a : A) → read xs ≡ Ok a → within xs ≡ true → within (write a) ≡ true)
    → FieldOf shape M A
plain {shape} {M} {A} n read run within write bytes runs spells own written again limit = record {
  ns = n ∷ [];
  read = λ rs. read (all n rs);
  run = λ rs k. run (all n rs) k;
  runs = λ rs k. runs (all n rs) k;
  within = λ rs. within (all n rs);
  write = write;
  bytes = λ before a. before ++ bytes a;
  spells = λ before a. ap (λ xs. before ++ xs) (spells a);
  own = λ a. All-map (λ r. r.number ≡ n) (λ r. is_member (n ∷ []) r ≡ true) (write a) (λ r e. has_one n r.number (eq-eqb r.number n e)) (own a);
  local = λ rs. ap read (all_mine n rs);
  local_within = λ rs. ap within (all_mine n rs);
  written = λ rs a good e. written (all n rs) a (of_all shape n rs good) e;
  again = λ rs a good e short. ap read (same_number n (write a) (own a)) ∙ again (all n rs) a (of_all shape n rs good) e short;
  limit = λ rs a good e w. ap within (same_number n (write a) (own a)) ∙ limit (all n rs) a e w;
}

-- ---- numbers

-- whether a number may be the number of a field
abbrev pub is_number : ℕ → Bool
is_number n = nat_lt 0 n && nat_le n 536_870_911

number_some : (n : ℕ) → is_number n ≡ true → 0 < n
number_some n e = ltb-true 0 n (and_both (nat_lt 0 n) (nat_le n 536_870_911) e).0

number_small : (n : ℕ) → is_number n ≡ true → n ≤ 536_870_911
number_small n e = leb-true n 536_870_911 (and_both (nat_lt 0 n) (nat_le n 536_870_911) e).1

-- the records of a number in a field: one, or none for the number 0
abbrev pub a_number : ℕ → ℕ → List Record
a_number n v = if v == 0 then [] else number_part n v ∷ []

-- a number of 64 bits that is written to a field for numbers is a good record
pub number_written : (shape : Shape) (n v : ℕ) → is_number n ≡ true → form_of shape n ≡ Some form.Number → v < 2 ^ 64 → IsGood shape (number_part n v)
number_written shape n v range named small =
    record {
      fits = record { part = number_part_is n v (number_some n range) (number_small n range) small; wire = ap (λ o. wire_fits o wire.Varint) named };
      text = ap (λ o. text_ok o (varint_text v)) named;
    }

pub a_number_of : (P : Record → Type 0) (n v : ℕ) (b : Bool) → eqb v 0 ≡ b → P (number_part n v) → AllByRecursion P (a_number n v)
a_number_of P n v true e h = rw e tt
a_number_of P n v false e h = rw e (h, tt)

pub number_read : (n v : ℕ) (b : Bool) → eqb v 0 ≡ b → number (a_number n v) ≡ v
number_read n v true e = rw e (sym (eqb-true v 0 e))
number_read n v false e = rw e refl

pub number_spelled : (n v : ℕ) → spelled (a_number n v) ≡ number_field n v
unfolding number_field set_number
number_spelled n v = go (eqb v 0) refl where
  go : (b : Bool) → eqb v 0 ≡ b → spelled (a_number n v) ≡ number_field n v
  go true e = rw e refl
  go false e = rw e (append-nil _)

abbrev pub numeric : {shape : Shape} {M A : Type 0} (n : ℕ) (decode : ℕ → A) (encode : A → ℕ) → Recodes decode encode → is_number n ≡ true
    → form_of shape n ≡ Some form.Number → FieldOf shape M A
numeric {shape} {M} {A} n decode encode code range named =
    plain {shape = shape} {M = M} {A = A} n (λ xs. Ok (decode (number xs))) (λ xs k. k (decode (number xs))) (λ xs. true)
    (λ a. a_number n (encode a)) (λ a. number_field n (encode a))
    (λ xs k. refl)
    (λ a. number_spelled n (encode a))
    (λ a. a_number_of (λ r. r.number ≡ n) n (encode a) (eqb (encode a) 0) refl refl)
    (λ xs a good e.
    let is = ok_is (decode (number xs)) a e in
    let small : encode a < 2 ^ 64 = subst (λ x. encode x < 2 ^ 64) is (code.small (number xs)) in
    a_number_of (IsWritten shape) n (encode a) (eqb (encode a) 0) refl (λ short. number_written shape n (encode a) range named small))
    (λ xs a good e short.
    let is = ok_is (decode (number xs)) a e in
    let same : decode (encode a) ≡ a = subst (λ x. decode (encode x) ≡ x) is (code.same (number xs)) in
    ap (λ v. Ok (decode v)) (number_read n (encode a) (eqb (encode a) 0) refl) ∙ ap (λ x. Ok x) same)
    (λ xs a e w. refl)

-- ---- texts and byte strings

abbrev pub some_bytes : ℕ → List ℕ → List Record
some_bytes n bytes = if length bytes == 0 then [] else bytes_part n bytes ∷ []

-- if a record of bytes is not too long, neither are the bytes
pub payload_short : (n : ℕ) (bytes : List ℕ) → IsShort (bytes_part n bytes) → length bytes < 2 ^ 64
payload_short n bytes short =
    let tag = varint_text (8 * n + 2) in
    let size = varint_text (length bytes) in
    omega (arith, short, length-append tag (size ++ bytes), length-append size bytes)

-- bytes that are written to a field which takes them are a good record, where it is not too long
pub bytes_written : (shape : Shape) (n : ℕ) (bytes : List ℕ) → is_number n ≡ true → wire_fits (form_of shape n) wire.Len ≡ true
    → text_ok (form_of shape n) bytes ≡ true → IsWritten shape (bytes_part n bytes)
bytes_written shape n bytes range fits text =
    λ short. record {
      fits = record { part = bytes_part_is n bytes (number_some n range) (number_small n range) (payload_short n bytes short); wire = fits };
      text = text;
    }

pub some_of : (P : Record → Type 0) (n : ℕ) (bytes : List ℕ) → P (bytes_part n bytes) → AllByRecursion P (some_bytes n bytes)
some_of P n [] h = tt
some_of P n (b ∷ bytes) h = let e : eqb (suc (length bytes)) 0 ≡ false = ne_eqb _ _ (omega arith) in rw e (h, tt)

pub payload_read : (n : ℕ) (bytes : List ℕ) → payload (some_bytes n bytes) ≡ bytes
payload_read n [] = refl
payload_read n (b ∷ bytes) = let e : eqb (suc (length bytes)) 0 ≡ false = ne_eqb _ _ (omega arith) in rw e refl

-- the payload of a good record is UTF-8 where the record's field is a text
pub text_of : (shape : Shape) (n : ℕ) (r : Record) → IsOf shape n r → text_ok (form_of shape n) r.payload ≡ true
text_of shape n r h = subst (λ (k : ℕ). text_ok (form_of shape k) r.payload ≡ true) h.number h.good.text

pub bytes_spelled : (n : ℕ) (bytes : List ℕ) → spelled (some_bytes n bytes) ≡ bytes_field n bytes
unfolding bytes_field set_bytes
bytes_spelled n [] = refl
bytes_spelled n (b ∷ bytes) = let e : eqb (suc (length bytes)) 0 ≡ false = ne_eqb _ _ (omega arith) in rw e (append-nil _)

abbrev pub string : {shape : Shape} {M : Type 0} (n : ℕ) → is_number n ≡ true → wire_fits (form_of shape n) wire.Len ≡ true
    → text_ok (form_of shape n) [] ≡ true → FieldOf shape M (List ℕ)
string {shape} {M} n range fits empty =
    plain {shape = shape} {M = M} {A = List ℕ} n (λ xs. Ok (payload xs)) (λ xs k. k (payload xs)) (λ xs. true) (some_bytes n) (bytes_field n)
    (λ xs k. refl)
    (bytes_spelled n)
    (λ a. some_of (λ r. r.number ≡ n) n a refl)
    (λ xs a good e.
    let texts = All-map (IsOf shape n) (λ r. text_ok (form_of shape n) r.payload ≡ true) xs (λ r h. text_of shape n r h) good in
    let text : text_ok (form_of shape n) a ≡ true = subst (λ (b : List ℕ). text_ok (form_of shape n) b ≡ true) (ok_is (payload xs) a e)
    (last_payload (λ b. text_ok (form_of shape n) b ≡ true) xs empty texts) in
    some_of (IsWritten shape) n a (bytes_written shape n a range fits text))
    (λ xs a good e short. ap (λ b. Ok b) (payload_read n a))
    (λ xs a e w. refl)

pub set_spelled : (n : ℕ) (bytes : List ℕ) → spelled (bytes_part n bytes ∷ []) ≡ set_bytes n bytes
unfolding set_bytes
set_spelled n bytes = append-nil _

-- a field with a text or bytes that is written even if these are empty
abbrev pub set_string : {shape : Shape} {M : Type 0} (n : ℕ) → is_number n ≡ true → wire_fits (form_of shape n) wire.Len ≡ true
    → text_ok (form_of shape n) [] ≡ true → FieldOf shape M (List ℕ)
set_string {shape} {M} n range fits empty =
    plain {shape = shape} {M = M} {A = List ℕ} n (λ xs. Ok (payload xs)) (λ xs k. k (payload xs)) (λ xs. true) (λ a. bytes_part n a ∷ []) (set_bytes n)
    (λ xs k. refl)
    (set_spelled n)
    (λ a. (refl, tt))
    (λ xs a good e.
    let texts = All-map (IsOf shape n) (λ r. text_ok (form_of shape n) r.payload ≡ true) xs (λ r h. text_of shape n r h) good in
    let text : text_ok (form_of shape n) a ≡ true = subst (λ (b : List ℕ). text_ok (form_of shape n) b ≡ true) (ok_is (payload xs) a e)
    (last_payload (λ b. text_ok (form_of shape n) b ≡ true) xs empty texts) in
    (bytes_written shape n a range fits text, tt))
    (λ xs a good e short. refl)
    (λ xs a e w. refl)

-- ---- messages

-- the field may hold any bytes
abbrev pub HoldsBytes : Shape → ℕ → Type 0
HoldsBytes shape n = form_of shape n ≡ Some form.Bytes

abbrev pub a_message : {M : Type 0} → (M → List ℕ) → ℕ → Option M → List Record
a_message write n None = []
a_message write n (Some m) = bytes_part n (write m) ∷ []

message_written : {M : Type 0} (shape : Shape) (write : M → List ℕ) (n : ℕ) (m : M) → is_number n ≡ true → HoldsBytes shape n
    → IsWritten shape (bytes_part n (write m))
message_written shape write n m range named =
    bytes_written shape n (write m) range (ap (λ o. wire_fits o wire.Len) named) (ap (λ o. text_ok o (write m)) named)

-- a message that was read, and is written to a record that is not too long, is read again of what is written
pub message_short : {M : Type 0} (read : List ℕ → Result M OpFault) (write : M → List ℕ) (n : ℕ) (m : M)
    → ((bytes : List ℕ) × (read bytes ≡ Ok m)) → Returns read write → IsShort (bytes_part n (write m)) → read (write m) ≡ Ok m
message_short read write n m from returns short = returns from.0 m from.1 (payload_short n (write m) short)

-- if a message is read of the records of a field that occurs once, it was read of some bytes
pub one_from : {M : Type 0} (read : List ℕ → Result M OpFault) (xs : List Record) (m : M) (b : Bool) → eqb (length xs) 0 ≡ b
    → one read xs ≡ Ok (Some m) → (bytes : List ℕ) × (read bytes ≡ Ok m)
unfolding one
one_from read xs m true e h = absurd (let k = rw e at h in none_some m k) where
  none_some : {M : Type 0} (m : M) → ok_of {A = Option M} None ≡ ok_of (Some m) → ⊥
  none_some m k = cc
one_from read xs m false e h =
    let k = bind_ok (read (joined xs)) (λ m. Ok (Some m)) (Some m) (rw e at h) in
    (joined xs, k.1 ∙ ap (λ x. Ok x) (some_is k.0 m k.2)) where
      some_is : {M : Type 0} (x y : M) → ok_of {A = Option M} (Some x) ≡ ok_of (Some y) → x ≡ y
      some_is x y k = cc

one_again : {M : Type 0} (read : List ℕ → Result M OpFault) (write : M → List ℕ) (n : ℕ) (m : M) → read (write m) ≡ Ok m
    → one read (a_message write n (Some m)) ≡ Ok (Some m)
unfolding one
one_again read write n m h = rw (append-nil (write m), h) refl

pub message_own : {M : Type 0} (write : M → List ℕ) (n : ℕ) (o : Option M) → AllByRecursion (λ r. r.number ≡ n) (a_message write n o)
message_own write n None = tt
message_own write n (Some m) = (refl, tt)

pub message_are : {M : Type 0} (shape : Shape) (write : M → List ℕ) (n : ℕ) (o : Option M) → is_number n ≡ true → HoldsBytes shape n
    → AllByRecursion (IsWritten shape) (a_message write n o)
message_are shape write n None range named = tt
message_are shape write n (Some m) range named = (message_written shape write n m range named, tt)

pub message_back : {M : Type 0} (read : List ℕ → Result M OpFault) (write : M → List ℕ) (n : ℕ) (xs : List Record) (o : Option M)
    → Returns read write → one read xs ≡ Ok o → AllByRecursion IsShort (a_message write n o) → one read (a_message write n o) ≡ Ok o
unfolding one
message_back read write n xs None returns e short = refl
message_back read write n xs (Some m) returns e short =
    one_again read write n m (message_short read write n m (one_from read xs m (eqb (length xs) 0) refl e) returns short.0)

pub message_spelled : {M : Type 0} (write : M → List ℕ) (n : ℕ) (o : Option M) → spelled (a_message write n o) ≡ message_field write n o
unfolding message_field set_bytes
message_spelled write n None = refl
message_spelled write n (Some m) = append-nil _

abbrev pub message : {shape : Shape} {W M : Type 0} (n : ℕ) (read : List ℕ → Result M OpFault) (write : M → List ℕ) → Returns read write
    → is_number n ≡ true → HoldsBytes shape n → FieldOf shape W (Option M)
message {shape} {W} {M} n read write returns range named =
    plain {shape = shape} {M = W} {A = Option M} n (one read) (λ xs k. one read xs >>= k) (λ xs. true) (a_message write n) (message_field write n)
    (λ xs k. refl)
    (message_spelled write n)
    (message_own write n)
    (λ xs o good e. message_are shape write n o range named)
    (λ xs o good e short. message_back read write n xs o returns e short)
    (λ xs o e w. refl)

-- ---- messages that are repeated

abbrev pub some_messages : {M : Type 0} → (M → List ℕ) → ℕ → List M → List Record
some_messages write n ms = map (λ m. bytes_part n (write m)) ms

-- each record that messages are written to has the field's number
pub messages_own : {M : Type 0} (write : M → List ℕ) (n : ℕ) (ms : List M) → AllByRecursion (λ r. r.number ≡ n) (some_messages write n ms)
messages_own write n [] = tt
messages_own write n (m ∷ ms) = (refl, messages_own write n ms)

-- each record that messages are written to is good, where it is not too long
pub messages_are : {M : Type 0} (shape : Shape) (write : M → List ℕ) (n : ℕ) (ms : List M) → is_number n ≡ true → HoldsBytes shape n
    → AllByRecursion (IsWritten shape) (some_messages write n ms)
messages_are shape write n [] range named = tt
messages_are shape write n (m ∷ ms) range named = (message_written shape write n m range named, messages_are shape write n ms range named)

pub messages_back : {M : Type 0} (read : List ℕ → Result M OpFault) (write : M → List ℕ) (n : ℕ) (xs : List Record) (ms : List M)
    → Returns read write → each read xs ≡ Ok ms → AllByRecursion IsShort (some_messages write n ms) → each read (some_messages write n ms) ≡ Ok ms
unfolding each
messages_back read write n xs [] returns e short = refl
messages_back read write n [] (m ∷ ms) returns e short = absurd (nothing e) where
  nothing : {M : Type 0} {m : M} {ms : List M} → ok_of {A = List M} [] ≡ ok_of (m ∷ ms) → ⊥
  nothing e = cc
messages_back read write n (x ∷ xs) (m ∷ ms) returns e short =
    let a = bind_ok (read x.payload) (λ m. (each read xs >>= λ ms. Ok (m ∷ ms))) (m ∷ ms) e in
    let b = bind_ok (each read xs) (λ ms. Ok (a.0 ∷ ms)) (m ∷ ms) a.2 in
    let is = ok_is (a.0 ∷ b.0) (m ∷ ms) b.2 in
    let first : read x.payload ≡ Ok m = a.1 ∙ ap (λ y. Ok y) (head_is a.0 m b.0 ms is) in
    let rest : each read xs ≡ Ok ms = b.1 ∙ ap (λ y. Ok y) (tail_is a.0 m b.0 ms is) in
    rw (message_short read write n m (x.payload, first) returns short.0, messages_back read write n xs ms returns rest short.1) refl where
      head_is : {M : Type 0} (x y : M) (xs ys : List M) → x ∷ xs ≡ y ∷ ys → x ≡ y
      head_is x y xs ys e = cc

      tail_is : {M : Type 0} (x y : M) (xs ys : List M) → x ∷ xs ≡ y ∷ ys → xs ≡ ys
      tail_is x y xs ys e = cc

-- as many messages are read as there are records
pub each_length : {M : Type 0} (read : List ℕ → Result M OpFault) (xs : List Record) (ms : List M) → each read xs ≡ Ok ms → length ms ≡ length xs
unfolding each
each_length read [] ms e = ap length (sym (ok_is [] ms e))
each_length read (x ∷ xs) ms e =
    let a = bind_ok (read x.payload) (λ m. (each read xs >>= λ ms. Ok (m ∷ ms))) ms e in
    let b = bind_ok (each read xs) (λ ms. Ok (a.0 ∷ ms)) ms a.2 in
    ap length (sym (ok_is (a.0 ∷ b.0) ms b.2)) ∙ ap suc (each_length read xs b.0 b.1)

-- the records that messages are written to have the bytes of their field
pub messages_spelled : {M : Type 0} (write : M → List ℕ) (n : ℕ) (ms : List M) → spelled (some_messages write n ms) ≡ messages_field write n ms
unfolding messages_field set_bytes
messages_spelled write n [] = refl
messages_spelled write n (m ∷ ms) = ap (λ xs. (bytes_part n (write m)).text ++ xs) (messages_spelled write n ms)

abbrev pub messages : {shape : Shape} {W M : Type 0} (n : ℕ) (read : List ℕ → Result M OpFault) (write : M → List ℕ) → Returns read write
    → is_number n ≡ true → HoldsBytes shape n → FieldOf shape W (List M)
messages {shape} {W} {M} n read write returns range named =
    plain {shape = shape} {M = W} {A = List M} n (each read) (λ xs k. each read xs >>= k) (λ xs. nat_le (length xs) field_limit)
    (some_messages write n) (messages_field write n)
    (λ xs k. refl)
    (messages_spelled write n)
    (messages_own write n)
    (λ xs ms good e. messages_are shape write n ms range named)
    (λ xs ms good e short. messages_back read write n xs ms returns e short)
    (λ xs ms e w. ap (λ k. nat_le k field_limit) (length-map ms (λ m. bytes_part n (write m)) ∙ each_length read xs ms e) ∙ w)

-- ---- texts and byte strings that are repeated

abbrev pub some_strings : ℕ → List (List ℕ) → List Record
some_strings n items = map (λ bytes. bytes_part n bytes) items

-- each record that texts or byte strings are written to has the field's number
pub strings_own : (n : ℕ) (items : List (List ℕ)) → AllByRecursion (λ r. r.number ≡ n) (some_strings n items)
strings_own n [] = tt
strings_own n (a ∷ items) = (refl, strings_own n items)

-- the records that texts or byte strings are written to have the bytes of their field
pub strings_spelled : (n : ℕ) (items : List (List ℕ)) → spelled (some_strings n items) ≡ each_field n items
unfolding each_field set_bytes
strings_spelled n [] = refl
strings_spelled n (a ∷ items) = ap (λ xs. (bytes_part n a).text ++ xs) (strings_spelled n items)

pub strings_are : (shape : Shape) (n : ℕ) (xs : List Record) → is_number n ≡ true → wire_fits (form_of shape n) wire.Len ≡ true
    → AllByRecursion (IsOf shape n) xs → AllByRecursion (IsWritten shape) (some_strings n (payloads xs))
strings_are shape n [] range fits good = tt
strings_are shape n (r ∷ xs) range fits good = (bytes_written shape n r.payload range fits (text_of shape n r good.0), strings_are shape n xs range fits good.1)

-- the payloads of the records that texts or byte strings are written to are these again
pub strings_read : (n : ℕ) (items : List (List ℕ)) → payloads (some_strings n items) ≡ items
strings_read n [] = refl
strings_read n (a ∷ items) = ap (λ xs. a ∷ xs) (strings_read n items)

abbrev pub strings : {shape : Shape} {M : Type 0} (n : ℕ) → is_number n ≡ true → wire_fits (form_of shape n) wire.Len ≡ true → FieldOf shape M (List (List ℕ))
strings {shape} {M} n range fits =
    plain {shape = shape} {M = M} {A = List (List ℕ)} n (λ xs. Ok (payloads xs)) (λ xs k. k (payloads xs))
    (λ xs. nat_le (length xs) field_limit) (some_strings n) (each_field n)
    (λ xs k. refl)
    (strings_spelled n)
    (strings_own n)
    (λ xs a good e. subst (λ (items : List (List ℕ)). AllByRecursion (IsWritten shape) (some_strings n items)) (ok_is (payloads xs) a e)
    (strings_are shape n xs range fits good))
    (λ xs a good e short. ap (λ items. Ok items) (strings_read n a))
    (λ xs a e w. ap (λ k. nat_le k field_limit) (length-map a (λ bytes. bytes_part n bytes) ∙ ap length (sym (ok_is (payloads xs) a e))
    ∙ length-map xs (λ r. r.payload)) ∙ w)

-- ---- what each message of a list was read of

abbrev pub IsRead : {M : Type 0} → (List ℕ → Result M OpFault) → M → Type 0
IsRead read m = (bytes : List ℕ) × (read bytes ≡ Ok m)

-- each message of a list that was read was read of some bytes
pub each_read : {M : Type 0} (read : List ℕ → Result M OpFault) (xs : List Record) (ms : List M) → each read xs ≡ Ok ms → AllByRecursion (IsRead read) ms
unfolding each
each_read read xs [] e = tt
each_read read [] (m ∷ ms) e = absurd (nothing e) where
  nothing : {M : Type 0} {m : M} {ms : List M} → ok_of {A = List M} [] ≡ ok_of (m ∷ ms) → ⊥
  nothing e = cc
each_read read (x ∷ xs) (m ∷ ms) e =
    let a = bind_ok (read x.payload) (λ m. (each read xs >>= λ ms. Ok (m ∷ ms))) (m ∷ ms) e in
    let b = bind_ok (each read xs) (λ ms. Ok (a.0 ∷ ms)) (m ∷ ms) a.2 in
    let is = ok_is (a.0 ∷ b.0) (m ∷ ms) b.2 in
    ((x.payload, a.1 ∙ ap (λ y. Ok y) (head_is a.0 m b.0 ms is)), each_read read xs ms (b.1 ∙ ap (λ y. Ok y) (tail_is a.0 m b.0 ms is))) where
      head_is : {M : Type 0} (x y : M) (xs ys : List M) → x ∷ xs ≡ y ∷ ys → x ≡ y
      head_is x y xs ys e = cc

      tail_is : {M : Type 0} (x y : M) (xs ys : List M) → x ∷ xs ≡ y ∷ ys → xs ≡ ys
      tail_is x y xs ys e = cc

-- messages that were each read of some bytes are read again of the records that they are written to
pub each_back : {M : Type 0} (read : List ℕ → Result M OpFault) (write : M → List ℕ) (n : ℕ) (ms : List M) → Returns read write
    → AllByRecursion (IsRead read) ms → AllByRecursion IsShort (some_messages write n ms) → each read (some_messages write n ms) ≡ Ok ms
unfolding each
each_back read write n [] returns from short = refl
each_back read write n (m ∷ ms) returns from short =
    rw (message_short read write n m from.0 returns short.0, each_back read write n ms returns from.1 short.1) refl
