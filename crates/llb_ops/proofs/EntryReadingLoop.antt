-- The entries of bytes, record by record, as a loop reads them.
use Rattle.std.proofs.Common.{zero-add, ◌≡◌, ℕ, suc, ◌+◌, ◌<◌, ◌≤◌, Bool, true, false, cond, eqb, List, [], ◌∷◌, ◌++◌, length, Result, Ok}
use Rattle.std.proofs.Common.{Err, refl, sym, ap, subst, ◌∙◌, append_assoc, arith}
use Rattle.std.specs.Prelude.{nat_le, ◌&&◌}
use Rattle.std.proofs.lemmas.List.{append-nil}
use Rattle.llb_wire.specs.CallResults.{◌>>=◌}
use Rattle.llb_wire.specs.Records.{Record}
use Rattle.llb_ops.specs.declared.fault.OpFault.{OpFault}
use Rattle.llb_ops.specs.Limits.{entry_limit}
use Rattle.llb_ops.specs.Records.{records_from, all, payloads}
use Rattle.llb_ops.specs.Definition.{definition_shape, entries_in, are_short, counted, one_more}

pub in_end : (bytes : List ℕ) → records_from definition_shape 0 bytes ≡ Ok [] → entries_in bytes ≡ Ok []
unfolding entries_in
in_end bytes e = rw e refl

-- where the records can't be read, the entries have the same fault
pub in_err : (bytes : List ℕ) (f : OpFault) → records_from definition_shape 0 bytes ≡ Err f → entries_in bytes ≡ Err f
unfolding entries_in
in_err bytes f e = rw e refl

-- the payload of a record before other entries if the record is an entry, and else the other entries alone
abbrev pub in_front : Record → List (List ℕ) → List (List ℕ)
in_front r es = cond (eqb r.number 1) (r.payload ∷ es) es

front_of : (r : Record) (rs : List Record) (b : Bool) → eqb r.number 1 ≡ b
    → payloads (all 1 (r ∷ rs)) ≡ cond b (r.payload ∷ payloads (all 1 rs)) (payloads (all 1 rs))
front_of r rs true e = rw e refl
front_of r rs false e = rw e refl

of_records : (r : Record) (read : Result (List Record) OpFault) → ((read >>= λ rs. Ok (r ∷ rs)) >>= λ rs. Ok (payloads (all 1 rs)))
    ≡ ((read >>= λ rs. Ok (payloads (all 1 rs))) >>= λ es. Ok (in_front r es))
of_records r (Ok rs) = ap (λ (es : List (List ℕ)). Ok es) (front_of r rs (eqb r.number 1) refl)
of_records r (Err f) = refl

pub in_more : (r : Record) (bytes after : List ℕ) → records_from definition_shape 0 bytes ≡ (records_from definition_shape 0 after >>= λ rs. Ok (r ∷ rs))
    → entries_in bytes ≡ (entries_in after >>= λ es. Ok (in_front r es))
unfolding entries_in
in_more r bytes after e =
    ap (λ (x : Result (List Record) OpFault). x >>= λ rs. Ok (payloads (all 1 rs))) e ∙ of_records r (records_from definition_shape 0 after)

-- ---- counting

-- the count so far, with the entries that are left counted too
abbrev pub tallied : ℕ × Bool → Result (List (List ℕ)) OpFault → Result (ℕ × Bool) OpFault
tallied t read = read >>= λ es. Ok (t.0 + length es, t.1 && are_short es)

-- with nothing counted yet, the tally of what is left is the count of all
pub tally_begins : (read : Result (List (List ℕ)) OpFault) → tallied (0, true) read ≡ counted read
tally_begins (Ok es) = ap (λ (n : ℕ). Ok (n, are_short es)) (zero-add (length es))
tally_begins (Err f) = refl

and_again : (a b c : Bool) → a && (b && c) ≡ (a && b) && c
and_again true b c = refl
and_again false b c = refl

and_end : (a : Bool) → a && true ≡ a
and_end true = refl
and_end false = refl

more_entry : (t : ℕ × Bool) (r : Record) (es : List (List ℕ)) (b : Bool) → eqb r.number 1 ≡ b
    → ◌≡◌ {A = ℕ × Bool} (t.0 + length (cond b (r.payload ∷ es) es), t.1 && are_short (cond b (r.payload ∷ es) es)) (
      (cond b (t.0 + 1, t.1 && nat_le (length r.payload) entry_limit) t).0 + length es,
      (cond b (t.0 + 1, t.1 && nat_le (length r.payload) entry_limit) t).1 && are_short es,
    )
more_entry t r es true e =
    let n : t.0 + suc (length es) ≡ t.0 + 1 + length es = omega arith in
    ap (λ (k : ℕ). (k, t.1 && (nat_le (length r.payload) entry_limit && are_short es))) n
    ∙ ap (λ (s : Bool). (t.0 + 1 + length es, s)) (and_again t.1 (nat_le (length r.payload) entry_limit) (are_short es))
more_entry t r es false e = refl

more_tallied : (t : ℕ × Bool) (r : Record) (read : Result (List (List ℕ)) OpFault) → tallied t (read >>= λ es. Ok (in_front r es)) ≡ tallied (one_more t r) read
more_tallied t r (Ok es) = ap (λ (x : ℕ × Bool). Ok x) (more_entry t r es (eqb r.number 1) refl)
more_tallied t r (Err f) = refl

-- where a record is read, it is counted if it is an entry, and the total stays
pub tally_goes_on : (t : ℕ × Bool) (r : Record) (bytes after : List ℕ) (total : Result (ℕ × Bool) OpFault)
    → records_from definition_shape 0 bytes ≡ (records_from definition_shape 0 after >>= λ rs. Ok (r ∷ rs))
    → tallied t (entries_in bytes) ≡ total → tallied (one_more t r) (entries_in after) ≡ total
tally_goes_on t r bytes after total more so_far =
    sym (more_tallied t r (entries_in after)) ∙ ap (tallied t) (sym (in_more r bytes after more)) ∙ so_far

at_most_one : (t : ℕ × Bool) (r : Record) (b : Bool) → eqb r.number 1 ≡ b → (one_more t r).0 ≤ t.0 + 1
at_most_one t r true e = rw e (omega arith)
at_most_one t r false e = rw e (omega arith)

-- a record has at least one byte, so there are no more entries than bytes
pub tally_small : (t s : ℕ × Bool) (r : Record) (rest after : List ℕ) → s ≡ one_more t r → length after < length rest
    → t.0 + length rest ≤ 67_108_864 → s.0 + length after ≤ 67_108_864
tally_small t s r rest after is shorter few =
    let more : s.0 ≤ t.0 + 1 = subst (λ (x : ℕ × Bool). x.0 ≤ t.0 + 1) (sym is) (at_most_one t r (eqb r.number 1) refl) in
    omega (arith, more, shorter, few)

-- where no record is left, what is counted is the total
pub tally_done : (t : ℕ × Bool) (bytes : List ℕ) (total : Result (ℕ × Bool) OpFault) → records_from definition_shape 0 bytes ≡ Ok []
    → tallied t (entries_in bytes) ≡ total → total ≡ Ok t
tally_done t bytes total none so_far =
    let same : t.0 + 0 ≡ t.0 = omega arith in
    sym so_far ∙ ap (tallied t) (in_end bytes none) ∙ ap (λ (n : ℕ). Ok (n, t.1 && true)) same ∙ ap (λ (s : Bool). Ok (t.0, s)) (and_end t.1)

-- ---- gathering

-- the entries that were gathered, followed by those that are left
abbrev pub behind : List (List ℕ) → Result (List (List ℕ)) OpFault → Result (List (List ℕ)) OpFault
behind front read = read >>= λ es. Ok (front ++ es)

more_gathered : (front : List (List ℕ)) (r : Record) (es : List (List ℕ)) (b : Bool) → eqb r.number 1 ≡ b
    → front ++ cond b (r.payload ∷ es) es ≡ cond b (front ++ r.payload ∷ []) front ++ es
more_gathered front r es true e = sym (append_assoc front (r.payload ∷ []) es)
more_gathered front r es false e = refl

regrouped : (front : List (List ℕ)) (r : Record) (read : Result (List (List ℕ)) OpFault)
    → behind front (read >>= λ es. Ok (in_front r es)) ≡ behind (cond (eqb r.number 1) (front ++ r.payload ∷ []) front) read
regrouped front r (Ok es) = ap (λ (x : List (List ℕ)). Ok x) (more_gathered front r es (eqb r.number 1) refl)
regrouped front r (Err f) = refl

-- where a record is read, its payload goes after the others if it is an entry, and the total stays
pub gather_goes_on : (front new : List (List ℕ)) (r : Record) (bytes after : List ℕ) (total : Result (List (List ℕ)) OpFault)
    → records_from definition_shape 0 bytes ≡ (records_from definition_shape 0 after >>= λ rs. Ok (r ∷ rs))
    → new ≡ cond (eqb r.number 1) (front ++ r.payload ∷ []) front
    → behind front (entries_in bytes) ≡ total → behind new (entries_in after) ≡ total
gather_goes_on front new r bytes after total more is so_far =
    ap (λ (xs : List (List ℕ)). behind xs (entries_in after)) is
    ∙ sym (regrouped front r (entries_in after)) ∙ ap (behind front) (sym (in_more r bytes after more)) ∙ so_far

-- where no record is left, what is gathered is the total
pub gather_done : (front : List (List ℕ)) (bytes : List ℕ) (total : Result (List (List ℕ)) OpFault)
    → records_from definition_shape 0 bytes ≡ Ok [] → behind front (entries_in bytes) ≡ total → total ≡ Ok front
gather_done front bytes total none so_far = sym so_far ∙ ap (behind front) (in_end bytes none) ∙ ap (λ (x : List (List ℕ)). Ok x) (append-nil front)
