-- Messages that are written one after the other.
use Rattle.std.proofs.Common.{◌≡◌, ℕ, ◌+◌, ◌<◌, List, [], ◌∷◌, ◌++◌, length, take, get_or, sym, ap, ◌∙◌, append_assoc}
use Rattle.std.specs.List.{flat_map}
use Rattle.std.proofs.lemmas.List.{append-nil, take_more}
use Rattle.std.proofs.lemmas.List.Concat.{flat_map-append}
use Rattle.llb_ops.specs.Writing.{set_bytes, messages_field, each_field}

pub messages_more : {A : Type 0} (write : A → List ℕ) (n : ℕ) (ms : List A) (i : ℕ) (d : A) → i < length ms
    → messages_field write n (take (i + 1) ms) ≡ messages_field write n (take i ms) ++ set_bytes n (write (get_or ms i d))
unfolding messages_field
messages_more write n ms i d lt =
    ap (flat_map (λ m. set_bytes n (write m))) (take_more ms i d lt) ∙ flat_map-append (λ m. set_bytes n (write m)) (take i ms) (get_or ms i d ∷ [])
    ∙ ap (λ xs. flat_map (λ m. set_bytes n (write m)) (take i ms) ++ xs) (append-nil (set_bytes n (write (get_or ms i d))))

-- one more message is written after those that were written before
pub put_more : {A : Type 0} (write : A → List ℕ) (n : ℕ) (ms : List A) (i : ℕ) (d : A) (before so_far after bytes : List ℕ) → i < length ms
    → so_far ≡ before ++ messages_field write n (take i ms) → bytes ≡ write (get_or ms i d) → after ≡ so_far ++ set_bytes n bytes
    → after ≡ before ++ messages_field write n (take (i + 1) ms)
put_more write n ms i d before so_far after bytes lt old item put =
    put ∙ ap (λ xs. xs ++ set_bytes n bytes) old ∙ append_assoc before (messages_field write n (take i ms)) (set_bytes n bytes)
    ∙ ap (λ xs. before ++ (messages_field write n (take i ms) ++ set_bytes n xs)) item
    ∙ ap (λ xs. before ++ xs) (sym (messages_more write n ms i d lt))

-- byte strings that are repeated are written as messages that are their own bytes
pub put_each_more : (n : ℕ) (items : List (List ℕ)) (i : ℕ) (d : List ℕ) (before so_far after bytes : List ℕ) → i < length items
    → so_far ≡ before ++ each_field n (take i items) → bytes ≡ get_or items i d → after ≡ so_far ++ set_bytes n bytes
    → after ≡ before ++ each_field n (take (i + 1) items)
unfolding each_field messages_field
put_each_more n items i d before so_far after bytes lt old item put = put_more (λ bytes. bytes) n items i d before so_far after bytes lt old item put

-- the first of the messages that are left is written after those before it
pub put_next : {A : Type 0} (write : A → List ℕ) (n : ℕ) (m : A) (ms rest : List A) (total so_far after bytes : List ℕ) → ms ≡ m ∷ rest
    → so_far ++ messages_field write n ms ≡ total → bytes ≡ write m → after ≡ so_far ++ set_bytes n bytes
    → after ++ messages_field write n rest ≡ total
unfolding messages_field
put_next write n m ms rest total so_far after bytes is old item put =
    ap (λ xs. xs ++ messages_field write n rest) put ∙ append_assoc so_far (set_bytes n bytes) (messages_field write n rest)
    ∙ ap (λ xs. so_far ++ (set_bytes n xs ++ messages_field write n rest)) item
    ∙ ap (λ xs. so_far ++ messages_field write n xs) (sym is) ∙ old
