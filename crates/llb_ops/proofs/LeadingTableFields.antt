-- Bytes that are fields by the table when fields follow them: for one field of each sort, and one after the other.
use Rattle.std.proofs.Common.{◌≡◌, ℕ, ◌≤◌, Bool, true, false, List, [], ◌∷◌, ◌++◌, length, refl, sym, ap, subst, ◌∙◌, append_assoc, arith}
use Rattle.std.specs.Prelude.{nat_lt, not, ◌&&◌, ◌||◌, ◌==◌}
use Rattle.llb_ops.specs.declared.table.MessageName.{MessageName}
use Rattle.llb_ops.specs.declared.table.FieldKind.TheVariants.{Message}
use Rattle.llb_ops.specs.Table.{Row}
use Rattle.llb_ops.specs.Writing.{set_number, set_bytes}
use Rattle.llb_ops.specs.CanonicalFields.{Fields, extra, number, bytes, message, bytes_of, IsNext, may_be_empty, IsNumberOf, IsBytesOf, AreFields}
use Rattle.llb_ops.specs.CanonicalFields.{without_empty}
use Rattle.llb_ops.proofs.FieldOccurrences.{NoneOften, numbers_of, AreInnerFew}

-- bytes that are fields after the field `last`, with these numbers; without empty keys and values of entries they are the bytes `spare`
pub record From (m : MessageName) (last : ℕ) (set : Bool) (ns full spare : List ℕ) : Type 0 where
  pub fields : Fields
  pub are : AreFields m last set fields
  pub numbers : numbers_of fields ≡ ns
  pub inner : AreInnerFew fields
  pub text : full ≡ bytes_of fields
  pub lean : spare ≡ bytes_of (without_empty fields)

-- bytes that are a message's fields, none of which occurs too often
pub record IsMessage (m : MessageName) (full spare : List ℕ) : Type 0 where
  pub ns : List ℕ
  pub from : From m 0 false ns full spare
  pub few : NoneOften ns

-- bytes that lead from one place among the fields to another, by fields with these numbers
pub record Tells (m : MessageName) (last : ℕ) (set : Bool) (next : ℕ) (then_set : Bool) (ns full spare : List ℕ) : Type 0 where
  pub tells : (ms later later_spare : List ℕ) → From m next then_set ms later later_spare → From m last set (ns ++ ms) (full ++ later) (spare ++ later_spare)

-- ---- what may follow later may follow earlier

-- if a member of the oneof is set at the first place, one is set at the second place too
abbrev pub AtMost : Bool → Bool → Type 0
AtMost s t = s || t ≡ t

earlier : (k n g : ℕ) (rep mem s t : Bool) → k ≤ n → s || t ≡ t → (nat_lt n g || (rep && (n == g))) && not (mem && t) ≡ true
    → (nat_lt k g || (rep && (k == g))) && not (mem && s) ≡ true
earlier k n g rep mem s t le few e = grind arith

next_earlier : (m : MessageName) (k n : ℕ) (s t : Bool) (row : Row) → k ≤ n → AtMost s t → IsNext m n t row → IsNext m k s row
next_earlier m k n s t row le few h = record { known = h.known; follows = earlier k n row.1.number row.1.repeated row.1.member s t le few h.follows }

more : (s t b : Bool) → s || t ≡ t → (s || b) || (t || b) ≡ t || b
more s t b e = grind arith

pub weaken : (m : MessageName) (k n : ℕ) (s t : Bool) (fs : Fields) → k ≤ n → AtMost s t → AreFields m n t fs → AreFields m k s fs
weaken m k n s t (extra b) le few h = h
weaken m k n s t (number row v rest) le few (a, b, c, d) = (
  next_earlier m k n s t row le few a,
  b,
  c,
  weaken m row.1.number row.1.number (s || row.1.member) (t || row.1.member) rest
      (omega arith) (more s t row.1.member few) d,
)
weaken m k n s t (bytes row held rest) le few (a, b, c, d) = (
  next_earlier m k n s t row le few a,
  b,
  c,
  weaken m row.1.number row.1.number (s || row.1.member) (t || row.1.member) rest
      (omega arith) (more s t row.1.member few) d,
)
weaken m k n s t (message row inner rest) le few (a, b, d) = (
  next_earlier m k n s t row le few a,
  b,
  weaken m row.1.number row.1.number (s || row.1.member) (t || row.1.member) rest (omega arith)
      (more s t row.1.member few) d,
)

above : (n g : ℕ) (rep mem s : Bool) → (nat_lt n g || (rep && (n == g))) && not (mem && s) ≡ true → n ≤ g
above n g rep mem s e = grind arith

left_most : (s b : Bool) → s || (s || b) ≡ s || b
left_most true b = refl
left_most false b = refl

-- ---- nothing, one field, and one after the other

-- no bytes at all lead to any later place
pub tells_nothing : (m : MessageName) (last next : ℕ) (set then_set : Bool) → last ≤ next → AtMost set then_set → Tells m last set next then_set [] [] []
tells_nothing m last next set then_set le few = record {
  tells = λ ms later spare x. record {
    fields = x.fields;
    are = weaken m last next set then_set x.fields le few x.are;
    numbers = x.numbers;
    inner = x.inner;
    text = x.text;
    lean = x.lean;
  };
}

-- a field that may come next and is left out is passed without a byte
pub tells_left_out : (m : MessageName) (last : ℕ) (set : Bool) (row : Row) → IsNext m last set row
    → Tells m last set row.1.number (set || row.1.member) [] [] []
tells_left_out m last set row next =
    tells_nothing m last row.1.number set (set || row.1.member) (above last row.1.number row.1.repeated row.1.member set next.follows)
    (left_most set row.1.member)

-- bytes that lead to a place, and bytes that lead on from there, lead all the way one after the other
pub tells_then : {m : MessageName} {a b c : ℕ} {s t u : Bool} {ns ms x x_spare y y_spare : List ℕ} → Tells m a s b t ns x x_spare → Tells m b t c u ms y y_spare
    → Tells m a s c u (ns ++ ms) (x ++ y) (x_spare ++ y_spare)
tells_then {m} {a} {b} {c} {s} {t} {u} {ns} {ms} {x} {x_spare} {y} {y_spare} first second = record {
  tells = λ ks later spare z.
      subst (λ (f : List ℕ). From m a s f ((x ++ y) ++ later) ((x_spare ++ y_spare) ++ spare)) (sym (append_assoc ns ms ks))
      (subst (λ (f : List ℕ). From m a s (ns ++ (ms ++ ks)) f ((x_spare ++ y_spare) ++ spare)) (sym (append_assoc x y later))
      (subst (λ (f : List ℕ). From m a s (ns ++ (ms ++ ks)) (x ++ (y ++ later)) f) (sym (append_assoc x_spare y_spare spare))
      (first.tells (ms ++ ks) (y ++ later) (y_spare ++ spare) (second.tells ks later spare z))));
}

-- a number as its field spells it leads past the field, where it is not 0 or may be written as 0
pub tells_number : (m : MessageName) (last : ℕ) (set : Bool) (row : Row) (v : ℕ) → IsNext m last set row → IsNumberOf row.1.kind v
    → not (v == 0) || may_be_empty row.1 ≡ true
    → Tells m last set row.1.number (set || row.1.member) (row.1.number ∷ []) (set_number row.1.number v) (set_number row.1.number v)
tells_number m last set row v next fits shown = record {
  tells = λ ms later spare x. record {
    fields = number row v x.fields;
    are = (next, fits, shown, x.are);
    numbers = ap (λ l. row.1.number ∷ l) x.numbers;
    inner = x.inner;
    text = ap (λ l. set_number row.1.number v ++ l) x.text;
    lean = ap (λ l. set_number row.1.number v ++ l) x.lean;
  };
}

-- bytes in a field that is no key and no value of an entry lead past the field
pub tells_bytes : (m : MessageName) (last : ℕ) (set : Bool) (row : Row) (held : List ℕ) → IsNext m last set row → IsBytesOf row.1.kind held
    → not (length held == 0) || may_be_empty row.1 ≡ true → row.1.of_entry ≡ false
    → Tells m last set row.1.number (set || row.1.member) (row.1.number ∷ []) (set_bytes row.1.number held) (set_bytes row.1.number held)
tells_bytes m last set row held next fits shown plain = record {
  tells = λ ms later spare x. record {
    fields = bytes row held x.fields;
    are = (next, fits, shown, x.are);
    numbers = ap (λ l. row.1.number ∷ l) x.numbers;
    inner = x.inner;
    text = ap (λ l. set_bytes row.1.number held ++ l) x.text;
    lean = rw plain (ap (λ l. set_bytes row.1.number held ++ l) x.lean);
  };
}

-- a message's fields in a field for that message lead past the field
pub tells_message : (m sub : MessageName) (last : ℕ) (set : Bool) (row : Row) (inner inner_spare : List ℕ) → IsNext m last set row
    → row.1.kind ≡ Message sub → IsMessage sub inner inner_spare
    → Tells m last set row.1.number (set || row.1.member) (row.1.number ∷ []) (set_bytes row.1.number inner) (set_bytes row.1.number inner_spare)
tells_message m sub last set row inner inner_spare next kind is = record {
  tells = λ ms later spare x. record {
    fields = message row is.from.fields x.fields;
    are = (next, (sub, kind, is.from.are), x.are);
    numbers = ap (λ l. row.1.number ∷ l) x.numbers;
    inner = (subst NoneOften (sym is.from.numbers) is.few, is.from.inner, x.inner);
    text = ap (λ l. set_bytes row.1.number l ++ later) is.from.text ∙ ap (λ l. set_bytes row.1.number (bytes_of is.from.fields) ++ l) x.text;
    lean = ap (λ l. set_bytes row.1.number l ++ spare) is.from.lean
        ∙ ap (λ l. set_bytes row.1.number (bytes_of (without_empty is.from.fields)) ++ l) x.lean;
  };
}
