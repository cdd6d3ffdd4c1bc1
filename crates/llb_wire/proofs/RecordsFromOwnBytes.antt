-- A record is read from its own bytes alone, whatever follows them.
use Rattle.std.proofs.Common.{◌≡◌, ℕ, zero, suc, ◌+◌, ◌-◌, ◌/◌, ◌%◌, ◌<◌, ◌≤◌, false, cond, ltb, List, [], ◌∷◌, ◌++◌, length, take, drop}
use Rattle.std.proofs.Common.{Result, Ok, Err, inl, inr, refl, ap, subst, ◌∙◌, arith}
use Rattle.std.specs.Int.{Width, w32, w64, byte_len, from_le_bytes}
use Rattle.std.proofs.lemmas.Bool.{ltb-false, le-ltb}
use Rattle.std.proofs.lemmas.List.{length-append, length-take, length-drop, drop-append-le, drop-take}
use Rattle.llb_wire.specs.declared.fault.WireFault.{WireFault}
use Rattle.llb_wire.specs.declared.fault.WireFault.TheVariants.{Truncated}
use Rattle.llb_wire.specs.declared.field.Wire.{Wire}
use Rattle.llb_wire.specs.declared.field.Wire.TheVariants as wire
use Rattle.llb_wire.specs.declared.field.Field.{Field}
use Rattle.llb_wire.specs.CallResults.{◌>>=◌}
use Rattle.llb_wire.proofs.RuleComposition.{bind_ok, guard_ok}
use Rattle.llb_wire.specs.Reading.{varint_from, varint_at, number_of, wire_of, fixed_at, as_field, payload_at, field_at}
use Rattle.llb_wire.proofs.Varints.{short_or, varint_len}

-- the result `Ok x`, under a name that proofs can use
abbrev is_ok_of : {A : Type 0} → A → Result A WireFault
is_ok_of x = Ok x

ok_is : {A : Type 0} {x y : A} → is_ok_of x ≡ is_ok_of y → x ≡ y
ok_is e = cc

-- ---- varints

-- the pair of two numbers, under a name that proofs can use
abbrev pair : ℕ → ℕ → ℕ × ℕ
pair a b = (a, b)

pub varint_prefix : (more : ℕ) (bytes : List ℕ) (v n k : ℕ) (rest : List ℕ) → varint_from more bytes ≡ Ok (v, n) → n ≤ k
    → varint_from more (take k bytes ++ rest) ≡ Ok (v, n)
unfolding varint_from
varint_prefix more [] v n k rest e le = absurd cc
varint_prefix zero (b ∷ bytes) v n zero rest e le = absurd (omega (arith, le, varint_len zero (b ∷ bytes) v n e))
varint_prefix zero (b ∷ bytes) v n (suc k) rest e le = e
varint_prefix (suc more) (b ∷ bytes) v n zero rest e le = absurd (omega (arith, le, varint_len (suc more) (b ∷ bytes) v n e))
varint_prefix (suc more) (b ∷ bytes) v n (suc k) rest e le =
    elim (short_or b v n (varint_from more bytes) (ltb b 128) e) [
      | inl s ↦ rw s.0 (rw s.0 at e)
      | inr l ↦ rw (l.0, varint_prefix more bytes l.1.0.0 l.1.0.1 k rest l.1.1 (omega (arith, le, l.1.3)), l.1.2, l.1.3) refl
    ]

-- ---- positions in bytes

dropped : (bytes rest : List ℕ) (at k : ℕ) → at ≤ k → k ≤ length bytes → drop at (take k bytes ++ rest) ≡ take (k - at) (drop at bytes) ++ rest
dropped bytes rest at k le inside =
    let sum : at + (k - at) ≡ k = omega (arith, le) in
    drop-append-le at (take k bytes) rest (omega (arith, length-take k bytes, le, inside))
    ∙ ap (λ xs. xs ++ rest) (subst (λ (j : ℕ). drop at (take j bytes) ≡ take (k - at) (drop at bytes)) sum (drop-take at (k - at) bytes))

-- `x` is the number that is read at `at`, and the position after the number; replacing all bytes from a position `k` at or after the end changes neither
pub record Local (read : List ℕ → ℕ → Result (ℕ × ℕ) WireFault) (bytes : List ℕ) (at : ℕ) (x : ℕ × ℕ) : Type 0 where
  pub begins : at ≤ x.1
  pub inside : x.1 ≤ length bytes
  pub again : (k : ℕ) (rest : List ℕ) → x.1 ≤ k → k ≤ length bytes → read (take k bytes ++ rest) at ≡ Ok x

pub varint_local : (bytes : List ℕ) (at : ℕ) (x : ℕ × ℕ) → at ≤ length bytes → varint_at bytes at ≡ Ok x → Local varint_at bytes at x
varint_local bytes at x le e =
    let m = bind_ok (varint_from 9 (drop at bytes)) (λ (m : ℕ × ℕ). Ok (m.0, at + m.1)) x e in
    let len = varint_len 9 (drop at bytes) m.0.0 m.0.1 m.1 in
    let pairs : pair m.0.0 (at + m.0.1) ≡ x = ok_is m.2 in
    let «end» : at + m.0.1 ≡ x.1 = ap (λ (y : ℕ × ℕ). y.1) pairs in
    record {
      begins = omega (arith, «end»);
      inside = omega (arith, «end», len, length-drop at bytes, le);
      again = λ k rest far inside.
          rw (
            dropped bytes rest at k (omega (arith, far, «end»)) inside,
            varint_prefix 9 (drop at bytes) m.0.0 m.0.1 (k - at) rest m.1
                (omega (arith, far, «end»)),
          ) m.2;
    }

take_front : (n j : ℕ) (ys rest : List ℕ) → n ≤ j → j ≤ length ys → take n (take j ys ++ rest) ≡ take n ys
take_front zero j ys rest le inside = refl
take_front (suc n) zero ys rest le inside = absurd (omega (arith, le))
take_front (suc n) (suc j) [] rest le inside = absurd (omega (arith, inside))
take_front (suc n) (suc j) (y ∷ ys) rest le inside = ap (λ xs. y ∷ xs) (take_front n j ys rest (omega (arith, le)) (omega (arith, inside)))

pub fixed_local : (w : Width) (bytes : List ℕ) (at : ℕ) (x : ℕ × ℕ) → at ≤ length bytes → fixed_at w bytes at ≡ Ok x → Local (fixed_at w) bytes at x
fixed_local w bytes at x le e =
    let g = guard_ok {F = WireFault} (ltb (length (drop at bytes)) (byte_len w)) Truncated
    (from_le_bytes w (take (byte_len w) (drop at bytes)), at + byte_len w) x e in
    let long : byte_len w ≤ length (drop at bytes) = ltb-false _ _ g.0 in
    let stop : at + byte_len w ≡ x.1 = ap (λ (y : ℕ × ℕ). y.1) g.1 in
    record {
      begins = omega (arith, stop);
      inside = omega (arith, stop, long, length-drop at bytes, le);
      again = λ k rest far inside.
          let split = dropped bytes rest at k (omega (arith, far, stop)) inside in
          let part : take (byte_len w) (take (k - at) (drop at bytes) ++ rest) ≡ take (byte_len w) (drop at bytes) =
          take_front (byte_len w) (k - at) (drop at bytes) rest (omega (arith, far, stop)) (omega (arith, inside, length-drop at bytes)) in
          let enough : ltb (length (take (k - at) (drop at bytes) ++ rest)) (byte_len w) ≡ false =
          le-ltb _ _ (omega (arith, far, stop, long, length-append (take (k - at) (drop at bytes)) rest, length-take (k - at) (drop at bytes))) in
          rw (split, enough, part) (ap (λ (y : ℕ × ℕ). is_ok_of y) g.1);
    }

-- ---- records

-- the payload of field `f` is at or after `at`, and within the bytes; if the bytes after the end of `f` are replaced, the same field is read
pub record LocalField (read : List ℕ → Result Field WireFault) (bytes : List ℕ) (at : ℕ) (f : Field) : Type 0 where
  pub begins : at ≤ f.start
  pub ordered : f.start ≤ f.«end»
  pub inside : f.«end» ≤ length bytes
  pub again : (rest : List ℕ) → read (take f.«end» bytes ++ rest) ≡ Ok f

plain_local : (n : ℕ) (w : Wire) (read : List ℕ → ℕ → Result (ℕ × ℕ) WireFault) (bytes : List ℕ) (at : ℕ) (x : ℕ × ℕ) (f : Field)
    → read bytes at ≡ Ok x → as_field n w at x ≡ f → Local read bytes at x
    → LocalField (λ xs. read xs at >>= λ v. Ok (as_field n w at v)) bytes at f
plain_local n w read bytes at x f e is h =
    subst (λ (g : Field). LocalField (λ xs. read xs at >>= λ v. Ok (as_field n w at v)) bytes at g) is
    (record { begins = omega arith; ordered = h.begins; inside = h.inside; again = λ rest. rw (h.again x.1 rest (omega arith) h.inside) refl })

pub payload_local : (n : ℕ) (w : Wire) (bytes : List ℕ) (at : ℕ) (f : Field) → at ≤ length bytes → payload_at n w bytes at ≡ Ok f
    → LocalField (λ xs. payload_at n w xs at) bytes at f
unfolding payload_at
payload_local n wire.Varint bytes at f le e =
    let v = bind_ok (varint_at bytes at) (λ (v : ℕ × ℕ). Ok (as_field n wire.Varint at v)) f e in
    plain_local n wire.Varint varint_at bytes at v.0 f v.1 (ok_is v.2) (varint_local bytes at v.0 le v.1)
payload_local n wire.I64 bytes at f le e =
    let v = bind_ok (fixed_at w64 bytes at) (λ (v : ℕ × ℕ). Ok (as_field n wire.I64 at v)) f e in
    plain_local n wire.I64 (fixed_at w64) bytes at v.0 f v.1 (ok_is v.2) (fixed_local w64 bytes at v.0 le v.1)
payload_local n wire.I32 bytes at f le e =
    let v = bind_ok (fixed_at w32 bytes at) (λ (v : ℕ × ℕ). Ok (as_field n wire.I32 at v)) f e in
    plain_local n wire.I32 (fixed_at w32) bytes at v.0 f v.1 (ok_is v.2) (fixed_local w32 bytes at v.0 le v.1)
payload_local n wire.Len bytes at f le e =
    let v = bind_ok (varint_at bytes at) (λ (len : ℕ × ℕ). cond (ltb (length bytes - len.1) len.0) (Err Truncated)
    (Ok (as_field n wire.Len len.1 (len.0, len.1 + len.0)))) f e in
    let g = guard_ok (ltb (length bytes - v.0.1) v.0.0) Truncated (as_field n wire.Len v.0.1 (v.0.0, v.0.1 + v.0.0)) f v.2 in
    let room : v.0.0 ≤ length bytes - v.0.1 = ltb-false _ _ g.0 in
    let h = varint_local bytes at v.0 le v.1 in
    let stop = v.0.1 + v.0.0 in
    subst (λ (x : Field). LocalField (λ xs. payload_at n wire.Len xs at) bytes at x) g.1
    (record {
      begins = h.begins;
      ordered = omega arith;
      inside = omega (arith, room, h.inside);
      again = λ rest.
          let enough : ltb (length (take stop bytes ++ rest) - v.0.1) v.0.0 ≡ false =
          le-ltb _ _ (omega (arith, length-append (take stop bytes) rest, length-take stop bytes, room, h.inside)) in
          rw (h.again stop rest (omega arith) (omega (arith, room, h.inside)), enough) refl;
    })

varint_begins : (bytes : List ℕ) (at : ℕ) (x : ℕ × ℕ) → varint_at bytes at ≡ Ok x → at < x.1
varint_begins bytes at x e =
    let m = bind_ok (varint_from 9 (drop at bytes)) (λ (m : ℕ × ℕ). Ok (m.0, at + m.1)) x e in
    let pairs : pair m.0.0 (at + m.0.1) ≡ x = ok_is m.2 in
    omega (arith, ap (λ (y : ℕ × ℕ). y.1) pairs, varint_len 9 (drop at bytes) m.0.0 m.0.1 m.1)

field_step : (xs : List ℕ) (t : ℕ × ℕ) (n : ℕ) (w : Wire) (f : Field) → varint_at xs 0 ≡ Ok t → number_of (t.0 / 8) ≡ Ok n
    → wire_of (t.0 % 8) ≡ Ok w → payload_at n w xs t.1 ≡ Ok f → field_at xs 0 ≡ Ok f
unfolding field_at
field_step xs t n w f a b c d = rw (a, b, c) d

pub field_local : (bytes : List ℕ) (f : Field) → field_at bytes 0 ≡ Ok f → LocalField (λ xs. field_at xs 0) bytes 1 f
unfolding field_at
field_local bytes f e =
    let t = bind_ok (varint_at bytes 0) (λ (tag : ℕ × ℕ). number_of (tag.0 / 8) >>= λ number. wire_of (tag.0 % 8)
    >>= λ wire. payload_at number wire bytes tag.1) f e in
    let n = bind_ok (number_of (t.0.0 / 8)) (λ number. wire_of (t.0.0 % 8) >>= λ wire. payload_at number wire bytes t.0.1) f t.2 in
    let w = bind_ok (wire_of (t.0.0 % 8)) (λ wire. payload_at n.0 wire bytes t.0.1) f n.2 in
    let h = varint_local bytes 0 t.0 (omega arith) t.1 in
    let p = payload_local n.0 w.0 bytes t.0.1 f h.inside w.2 in
    record {
      begins = omega (arith, p.begins, varint_begins bytes 0 t.0 t.1);
      ordered = p.ordered;
      inside = p.inside;
      again = λ rest. field_step (take f.«end» bytes ++ rest) t.0 n.0 w.0 f
          (h.again f.«end» rest (omega (arith, p.begins, p.ordered)) p.inside) n.1 w.1 (p.again rest);
    }
