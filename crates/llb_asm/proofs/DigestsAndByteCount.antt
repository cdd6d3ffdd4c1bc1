-- What is kept of the entries that are whole.
use Rattle.std.proofs.Common.{◌≡◌, ℕ, ◌+◌, Bool, true, false, List, [], ◌∷◌, ◌++◌, length, refl, sym, ap, ◌∙◌, arith}
use Rattle.std.specs.Prelude.{nat_le, ◌&&◌}
use Rattle.std.proofs.lemmas.List.{map_push}
use Rattle.std.proofs.lemmas.Bool.{leb-true}
use Rattle.llb_wire.specs.Digest.{digest_text}
use Rattle.llb_ops.specs.Writing.{each_field}
use Rattle.llb_ops.specs.Definition.{definition_bytes}
use Rattle.llb_ops.specs.Limits.{definition_limit, entry_limit}
use Rattle.llb_asm.specs.TextGrammar.{IsKept, record_length, is_within}
use Rattle.llb_asm.proofs.PrintedLengths.{length_with}

no_bytes : length (definition_bytes []) ≡ 0
unfolding each_field
no_bytes = refl

-- for no entries no digests are kept, and no bytes are counted
pub kept_none : (es ls : List (List ℕ)) → es ≡ [] → ls ≡ [] → IsKept es ls 0
kept_none es ls e l = rw (e, l) (record { digests = refl; bytes = sym no_bytes; small = omega arith })

second : (a b : Bool) → (a && b) ≡ true → b ≡ true
second true b e = e
second false b e = absurd cc

-- one entry more that is within the limits adds its digest, and the length of its record to the count
pub kept_more : (es ls : List (List ℕ)) (size : ℕ) (e : List ℕ) (n : ℕ) (fs ms : List (List ℕ)) → IsKept es ls size → is_within es (length e) ≡ true
    → fs ≡ es ++ e ∷ [] → ms ≡ ls ++ digest_text e ∷ [] → n ≡ record_length 1 (length e) → IsKept fs ms (size + n)
kept_more es ls size e n fs ms kept room f m same =
    let fits = leb-true (length (definition_bytes es) + record_length 1 (length e)) definition_limit (second (nat_le (length e) entry_limit) _ room) in
    let long = length_with es e in
    let all : size + n ≡ length (definition_bytes (es ++ e ∷ [])) = rw (kept.bytes, same) (sym long) in
    rw (f, m) (record {
      digests = ap (λ l. l ++ digest_text e ∷ []) kept.digests ∙ sym (map_push digest_text es e);
      bytes = all;
      small = let b = kept.bytes in omega (arith, fits, b, same);
    })
