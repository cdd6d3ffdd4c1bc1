-- What a definition's bytes are read as, decided by counting their entries.
use Rattle.std.proofs.Common.{◌≡◌, ℕ, zero, suc, ◌-◌, ◌<◌, ◌≤◌, Bool, true, false, cond, List, [], ◌∷◌, length, Result, Ok, Err, refl, sym}
use Rattle.std.proofs.Common.{ap, subst, ◌∙◌, arith}
use Rattle.std.specs.Prelude.{nat_lt}
use Rattle.std.proofs.lemmas.Bool.{lt-ltb, le-ltb, ltb-false}
use Rattle.llb_wire.specs.declared.fault.WireFault.{WireFault}
use Rattle.llb_wire.specs.declared.field.Field.{Field}
use Rattle.llb_wire.specs.CallResults.{◌>>=◌}
use Rattle.llb_wire.specs.Reading.{field_at}
use Rattle.llb_wire.specs.Records.{Record, record_of}
use Rattle.llb_ops.specs.declared.fault.OpFault.{OpFault}
use Rattle.llb_ops.specs.declared.fault.OpFault.TheVariants.{Wire, WrongWireType, OverLimit}
use Rattle.llb_ops.specs.Faults.{is_memory}
use Rattle.llb_ops.specs.Limits.{definition_limit, entries_limit}
use Rattle.llb_ops.specs.Records.{Shape, form_of, wire_fits, from_wire, first_record, records_from, all, payloads}
use Rattle.llb_ops.specs.Definition.{definition_shape, definition_of, entries_fit, entries_in, are_short, counted, admission}

-- ---- by cases on what is in the bytes

of_entries : (r : Result (List Record) OpFault) → (r >>= λ rs. entries_fit (payloads (all 1 rs))) ≡ ((r >>= λ rs. Ok (payloads (all 1 rs))) >>= entries_fit)
of_entries (Ok rs) = refl
of_entries (Err f) = refl

-- a definition of no more bytes than the limit is the entries in its bytes, where these fit
pub by_entries : (bytes : List ℕ) → length bytes ≤ definition_limit → definition_of bytes ≡ (entries_in bytes >>= entries_fit)
unfolding definition_of entries_in
by_entries bytes fits =
    let short : nat_lt definition_limit (length bytes) ≡ false = le-ltb _ _ fits in
    rw short (of_entries (records_from definition_shape 0 bytes))

-- a definition of more bytes than the limit is refused as over the limit
pub too_long : (bytes : List ℕ) → definition_limit < length bytes → definition_of bytes ≡ Err OverLimit
unfolding definition_of
too_long bytes long = let e : nat_lt definition_limit (length bytes) ≡ true = lt-ltb _ _ long in rw e refl

err_counted : (r : Result (List (List ℕ)) OpFault) (f : OpFault) → counted r ≡ Err f → r ≡ Err f
err_counted (Ok es) f e = absurd cc
err_counted (Err g) f e = let h : g ≡ f = cc in ap (λ x. Err x) h

-- a fault that counting the entries meets is the definition's
pub unreadable : (bytes : List ℕ) (f : OpFault) → length bytes ≤ definition_limit → counted (entries_in bytes) ≡ Err f → definition_of bytes ≡ Err f
unreadable bytes f fits e = by_entries bytes fits ∙ ap (λ r. r >>= entries_fit) (err_counted (entries_in bytes) f e)

-- a count that succeeds is the count of entries that can be read
there : (r : Result (List (List ℕ)) OpFault) (n : ℕ) (s : Bool) → counted r ≡ Ok (n, s)
    → (es : List (List ℕ)) × (r ≡ Ok es) × (length es ≡ n) × (are_short es ≡ s)
there (Ok es) n s e = (
  es,
  refl,
  ap (λ (x : ℕ × Bool). x.0) (same (length es, are_short es) (n, s) e),
  ap (λ (x : ℕ × Bool). x.1) (same (length es, are_short es) (n, s) e),
) where
  same : (x y : ℕ × Bool) → ◌≡◌ {A = Result (ℕ × Bool) OpFault} (Ok x) (Ok y) → x ≡ y
  same x y e = cc
there (Err f) n s e = absurd cc

-- where more entries than the limit are counted, the definition is refused as over the limit
pub too_many : (bytes : List ℕ) (n : ℕ) (s : Bool) → length bytes ≤ definition_limit → counted (entries_in bytes) ≡ Ok (n, s)
    → entries_limit < n → definition_of bytes ≡ Err OverLimit
too_many bytes n s fits e many =
    let h = there (entries_in bytes) n s e in
    let long : nat_lt entries_limit (length h.0) ≡ true = lt-ltb _ _ (omega (arith, many, h.2)) in
    by_entries bytes fits ∙ ap (λ r. r >>= entries_fit) h.1 ∙ rw long refl

fit_cases : (es : List (List ℕ)) (b : Bool) → nat_lt entries_limit (length es) ≡ b → are_short es ≡ false → entries_fit es ≡ Err OverLimit
fit_cases es true e short = rw e refl
fit_cases es false e short = rw (e, short) refl

-- where an entry that is too long is counted, the definition is refused as over the limit, however many there are
pub too_big : (bytes : List ℕ) (n : ℕ) → length bytes ≤ definition_limit → counted (entries_in bytes) ≡ Ok (n, false) → definition_of bytes ≡ Err OverLimit
too_big bytes n fits e =
    let h = there (entries_in bytes) n false e in
    by_entries bytes fits ∙ ap (λ r. r >>= entries_fit) h.1 ∙ fit_cases h.0 (nat_lt entries_limit (length h.0)) refl h.3

-- where the entries that are counted are few enough and none is too long, the definition is admitted
pub fits : (bytes : List ℕ) (n : ℕ) → length bytes ≤ definition_limit → counted (entries_in bytes) ≡ Ok (n, true) → n ≤ entries_limit
    → admission (definition_of bytes) ≡ Ok tt
fits bytes n small e few =
    let h = there (entries_in bytes) n true e in
    let short : nat_lt entries_limit (length h.0) ≡ false = le-ltb _ _ (omega (arith, few, h.2)) in
    let is : entries_fit h.0 ≡ Ok h.0 = rw (short, h.3) refl in
    ap admission (by_entries bytes small ∙ ap (λ r. r >>= entries_fit) h.1 ∙ is)

-- ---- what was admitted

-- no fault of a record is `Memory`
first_named : (shape : Shape) (bytes : List ℕ) (r : Result Field WireFault) (e : OpFault)
    → (from_wire r >>= λ f. cond (wire_fits (form_of shape f.number) f.wire) (Ok f) (Err WrongWireType)) ≡ Err e → is_memory e ≡ false
first_named shape bytes (Err d) e h = let is : Wire d ≡ e = cc in ap is_memory (sym is)
first_named shape bytes (Ok f) e h = by (wire_fits (form_of shape f.number) f.wire) h where
  by : (b : Bool) → cond b (Ok f) (Err WrongWireType) ≡ Err e → is_memory e ≡ false
  by true h = absurd cc
  by false h = let is : WrongWireType ≡ e = cc in ap is_memory (sym is)

err_of : {A B : Type 0} (r : Result A OpFault) (k : A → Result B OpFault) (e : OpFault) (P : Type 0) → (r >>= k) ≡ Err e → (r ≡ Err e → P)
    → ((x : A) → k x ≡ Err e → P) → P
err_of (Ok x) k e P h f g = g x h
err_of (Err d) k e P h f g = f (let is : d ≡ e = cc in ap (λ y. Err y) is)

records_named : (shape : Shape) (skip : ℕ) (bytes : List ℕ) (e : OpFault) → records_from shape skip bytes ≡ Err e → is_memory e ≡ false
unfolding records_from
records_named shape zero [] e h = absurd cc
records_named shape (suc skip) [] e h = absurd cc
records_named shape (suc skip) (b ∷ bytes) e h = records_named shape skip bytes e h
records_named shape zero (b ∷ bytes) e h =
    err_of (first_record shape (b ∷ bytes)) (λ f. records_from shape (f.«end» - 1) bytes >>= λ rs. Ok (record_of (b ∷ bytes) f ∷ rs)) e (is_memory e ≡ false) h
    (λ first. first_named shape (b ∷ bytes) (field_at (b ∷ bytes) 0) e first)
    (λ f rest. err_of (records_from shape (f.«end» - 1) bytes) (λ rs. Ok (record_of (b ∷ bytes) f ∷ rs)) e (is_memory e ≡ false) rest
    (λ more. records_named shape (f.«end» - 1) bytes e more)
    (λ rs none. absurd cc))

limit_named : (es : List (List ℕ)) (e : OpFault) → entries_fit es ≡ Err e → is_memory e ≡ false
limit_named es e h = by (nat_lt entries_limit (length es)) (are_short es) h where
  by : (a b : Bool) → cond {A = Result (List (List ℕ)) OpFault} a (Err OverLimit) (cond b (Ok es) (Err OverLimit)) ≡ Err e → is_memory e ≡ false
  by true b h = let is : OverLimit ≡ e = cc in ap is_memory (sym is)
  by false true h = absurd cc
  by false false h = let is : OverLimit ≡ e = cc in ap is_memory (sym is)

-- the rule of a definition never fails with `Memory`
pub definition_named : (bytes : List ℕ) (e : OpFault) → definition_of bytes ≡ Err e → is_memory e ≡ false
unfolding definition_of
definition_named bytes e h = by (nat_lt definition_limit (length bytes)) h where
  by : (b : Bool) → cond {A = Result (List (List ℕ)) OpFault} b (Err OverLimit) (records_from definition_shape 0 bytes
      >>= λ rs. entries_fit (payloads (all 1 rs))) ≡ Err e → is_memory e ≡ false
  by true h = let is : OverLimit ≡ e = cc in ap is_memory (sym is)
  by false h =
      err_of (records_from definition_shape 0 bytes) (λ rs. entries_fit (payloads (all 1 rs))) e (is_memory e ≡ false) h
      (λ records. records_named definition_shape 0 bytes e records)
      (λ rs limits. limit_named (payloads (all 1 rs)) e limits)

err_admitted : (r : Result (List (List ℕ)) OpFault) (f : OpFault) → admission r ≡ Err f → r ≡ Err f
err_admitted (Ok es) f e = absurd cc
err_admitted (Err g) f e = let h : g ≡ f = cc in ap (λ x. Err x) h

-- the fault that keeps a definition from being admitted is the definition's own
pub refused : (bytes : List ℕ) (f : OpFault) → admission (definition_of bytes) ≡ Err f → definition_of bytes ≡ Err f
refused bytes f e = err_admitted (definition_of bytes) f e

fit_same : (xs es : List (List ℕ)) → entries_fit xs ≡ Ok es → xs ≡ es
fit_same xs es h = by (nat_lt entries_limit (length xs)) (are_short xs) h where
  by : (a b : Bool) → cond {A = Result (List (List ℕ)) OpFault} a (Err OverLimit) (cond b (Ok xs) (Err OverLimit)) ≡ Ok es → xs ≡ es
  by true b h = absurd cc
  by false true h = cc
  by false false h = absurd cc

-- if the entries of a definition are read of some bytes, these bytes have passed the test of their length
pub is_short : (bytes : List ℕ) (es : List (List ℕ)) (b : Bool) → nat_lt definition_limit (length bytes) ≡ b → definition_of bytes ≡ Ok es
    → nat_lt definition_limit (length bytes) ≡ false
unfolding definition_of
is_short bytes es true e h = absurd (let k = rw e at h in cc)
is_short bytes es false e h = e

ok_of : {A B : Type 0} (r : Result A OpFault) (k : A → Result B OpFault) (y : B) → (r >>= k) ≡ Ok y → (x : A) × (r ≡ Ok x) × (k x ≡ Ok y)
ok_of (Ok x) k y h = (x, refl, h)
ok_of (Err d) k y h = absurd cc

-- the entries of a definition are those in its bytes
pub are_in : (bytes : List ℕ) (es : List (List ℕ)) → definition_of bytes ≡ Ok es → entries_in bytes ≡ Ok es
are_in bytes es h =
    let few : length bytes ≤ definition_limit = ltb-false definition_limit (length bytes) (is_short bytes es (nat_lt definition_limit (length bytes)) refl h) in
    let k = ok_of (entries_in bytes) entries_fit es (sym (by_entries bytes few) ∙ h) in
    k.1 ∙ ap (λ x. Ok x) (fit_same k.0 es k.2)

-- the entries of a definition are within the limits
pub still_fit : (bytes : List ℕ) (es : List (List ℕ)) → definition_of bytes ≡ Ok es → entries_fit es ≡ Ok es
still_fit bytes es h =
    let few : length bytes ≤ definition_limit = ltb-false definition_limit (length bytes) (is_short bytes es (nat_lt definition_limit (length bytes)) refl h) in
    let k = ok_of (entries_in bytes) entries_fit es (sym (by_entries bytes few) ∙ h) in
    subst (λ (xs : List (List ℕ)). entries_fit xs ≡ Ok es) (fit_same k.0 es k.2) k.2

ok_admitted : (r : Result (List (List ℕ)) OpFault) → admission r ≡ Ok tt → (es : List (List ℕ)) × (r ≡ Ok es)
ok_admitted (Ok es) e = (es, refl)
ok_admitted (Err f) e = absurd cc

-- a definition that is admitted is the entries in its bytes, so taking them needs no second look at the limits
pub admitted_is : (bytes : List ℕ) → admission (definition_of bytes) ≡ Ok tt → definition_of bytes ≡ entries_in bytes
admitted_is bytes e =
    let h = ok_admitted (definition_of bytes) e in
    h.1 ∙ sym (are_in bytes h.0 h.1)
