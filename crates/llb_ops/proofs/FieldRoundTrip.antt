-- A field of a message, or several: how it is read of the message's records, written to them, and read again. A message is
-- read again where each of its fields is.
use Rattle.std.proofs.Common.{◌≡◌, ℕ, ◌<◌, ◌^◌, Bool, true, false, cond, List, [], ◌∷◌, ◌++◌, length, refl, sym, ap, subst, ◌∙◌}
use Rattle.std.proofs.Common.{append_assoc, Result, Ok, Err, arith}
use Rattle.std.specs.Prelude.{is_none, ◌&&◌}
use Rattle.std.specs.List.{AllByRecursion}
use Rattle.std.specs.Bool.{if◌then◌else◌}
use Rattle.std.proofs.lemmas.List.{append-nil, length-append}
use Rattle.std.proofs.lemmas.List.Elements.{filter-append}
use Rattle.std.proofs.lemmas.List.Concat.{flat_map-append}
use Rattle.llb_wire.specs.CallResults.{◌>>=◌}
use Rattle.llb_wire.proofs.RuleComposition.{bind_ok}
use Rattle.llb_wire.specs.Records.{Record}
use Rattle.llb_ops.specs.declared.fault.OpFault.{OpFault}
use Rattle.llb_ops.specs.declared.fault.OpFault.TheVariants.{OverLimit, NotUtf8}
use Rattle.llb_ops.specs.Records.{Shape, form_of, text_fits, texts_fit, parts, records_from, is_member, unnamed}
use Rattle.llb_ops.proofs.RecordRoundTrip.{FitsShape, parts_again, spelled}
use Rattle.llb_ops.proofs.RecordsReadBack.{guard_ended, records_fit}
use Rattle.llb_ops.proofs.RecordsByFieldNumber.{All-append, All-front, All-behind, All-map, All-filter, filter_passes, filter_all, filter_none, and_both}
use Rattle.llb_ops.proofs.RecordsByFieldNumber.{filter_narrow, mine, has_left, has_right, apart, apart_left, apart_right, are_named, named_of, extras_of}
use Rattle.llb_ops.proofs.RecordsByFieldNumber.{unnamed_has}

-- a record is read again, with its wire type, and UTF-8 where it is a text
pub record IsGood (shape : Shape) (r : Record) : Type 0 where
  pub fits : FitsShape shape r
  pub text : text_fits shape r ≡ true

-- a record that is not too long to be written (`IsShort`), and a record that is good if it is not too long (`IsWritten`)
abbrev pub IsShort : Record → Type 0
IsShort r = length r.text < 2 ^ 64

abbrev pub IsWritten : Shape → Record → Type 0
IsWritten shape r = IsShort r → IsGood shape r

-- a field of a message M, or several, of the numbers `ns`; `run` goes on with what is read, and `bytes` puts it after others
pub record FieldOf (shape : Shape) (M A : Type 0) : Type 0 where
  pub ns : List ℕ
  pub read : List Record → Result A OpFault
  pub run : List Record → (A → Result M OpFault) → Result M OpFault
  pub runs : (rs : List Record) (k : A → Result M OpFault) → run rs k ≡ (read rs >>= k)
  pub within : List Record → Bool
  pub write : A → List Record
  pub bytes : List ℕ → A → List ℕ
  pub spells : (before : List ℕ) (a : A) → before ++ spelled (write a) ≡ bytes before a
  pub own : (a : A) → AllByRecursion (λ r. is_member ns r ≡ true) (write a)
  pub local : (rs : List Record) → read (mine ns rs) ≡ read rs
  pub local_within : (rs : List Record) → within (mine ns rs) ≡ within rs
  pub written : (rs : List Record) (a : A) → AllByRecursion (IsGood shape) rs → read rs ≡ Ok a → AllByRecursion (IsWritten shape) (write a)
  pub again : (rs : List Record) (a : A) → AllByRecursion (IsGood shape) rs → read rs ≡ Ok a → AllByRecursion IsShort (write a) → read (write a) ≡ Ok a
  pub limit : (rs : List Record) (a : A) → AllByRecursion (IsGood shape) rs → read rs ≡ Ok a → within rs ≡ true → within (write a) ≡ true

-- ---- no field

abbrev pub end : {shape : Shape} {M : Type 0} → FieldOf shape M (Unit {0})
end = record {
  ns = [];
  read = λ rs. Ok tt;
  run = λ rs k. k tt;
  runs = λ rs k. refl;
  within = λ rs. true;
  write = λ a. [];
  bytes = λ before a. before;
  spells = λ before a. append-nil before;
  own = λ a. tt;
  local = λ rs. refl;
  local_within = λ rs. refl;
  written = λ rs a good e. tt;
  again = λ rs a good e short. refl;
  limit = λ rs a good e w. refl;
}

-- ---- a field and others

abbrev pub ok_of : {A : Type 0} → A → Result A OpFault
ok_of x = Ok x

-- two equal results that succeed have equal values
pub ok_is : {A : Type 0} (x y : A) → ok_of x ≡ ok_of y → x ≡ y
ok_is x y e = cc

abbrev pub pair_read : {A B : Type 0} → (List Record → Result A OpFault) → (List Record → Result B OpFault) → List Record → Result (A × B) OpFault
pair_read f g rs = f rs >>= λ a. (g rs >>= λ b. Ok (a, b))

-- if a pair is read of two fields, each field has the pair's value for it
pub pair_parts : {A B : Type 0} (f : List Record → Result A OpFault) (g : List Record → Result B OpFault) (rs : List Record) (p : A × B)
    → pair_read f g rs ≡ Ok p → (f rs ≡ Ok p.0) × (g rs ≡ Ok p.1)
pair_parts f g rs p e =
    let a = bind_ok (f rs) (λ a. (g rs >>= λ b. Ok (a, b))) p e in
    let b = bind_ok (g rs) (λ b. Ok (a.0, b)) p a.2 in
    let is = ok_is (a.0, b.0) p b.2 in
    (a.1 ∙ ap (λ x. Ok x) (ap (λ q. q.0) is), b.1 ∙ ap (λ x. Ok x) (ap (λ q. q.1) is))

pub pair_again : {A B : Type 0} (f : List Record → Result A OpFault) (g : List Record → Result B OpFault) (rs : List Record) (p : A × B)
    → f rs ≡ Ok p.0 → g rs ≡ Ok p.1 → pair_read f g rs ≡ Ok p
pair_again f g rs p e h = rw (e, h) refl

-- among the records of two fields, those of the first are found again
pub front_only : (ns ms : List ℕ) (xs ys : List Record) → apart ns ms ≡ true → AllByRecursion (λ r. is_member ns r ≡ true) xs
    → AllByRecursion (λ r. is_member ms r ≡ true) ys → mine ns (xs ++ ys) ≡ xs
front_only ns ms xs ys e h k =
    let others : AllByRecursion (λ r. is_member ns r ≡ false) ys = All-map (λ r. is_member ms r ≡ true) (λ r. is_member ns r ≡ false) ys
    (λ r g. apart_left ns ms r.number e g) k in
    filter-append (is_member ns) xs ys ∙ ap (λ zs. zs ++ mine ns ys) (filter_all (is_member ns) xs h)
    ∙ ap (λ zs. xs ++ zs) (filter_none (is_member ns) ys others) ∙ append-nil xs

pub behind_only : (ns ms : List ℕ) (xs ys : List Record) → apart ns ms ≡ true → AllByRecursion (λ r. is_member ns r ≡ true) xs
    → AllByRecursion (λ r. is_member ms r ≡ true) ys → mine ms (xs ++ ys) ≡ ys
behind_only ns ms xs ys e h k =
    let others : AllByRecursion (λ r. is_member ms r ≡ false) xs = All-map (λ r. is_member ns r ≡ true) (λ r. is_member ms r ≡ false) xs
    (λ r g. apart_right ns ms r.number e g) h in
    filter-append (is_member ms) xs ys ∙ ap (λ zs. zs ++ mine ms ys) (filter_none (is_member ms) xs others) ∙ filter_all (is_member ms) ys k

pub wide_left : {A : Type 0} (ns ms : List ℕ) (f : List Record → A) → ((rs : List Record) → f (mine ns rs) ≡ f rs) → (rs : List Record)
    → f (mine (ns ++ ms) rs) ≡ f rs
wide_left ns ms f local rs =
    sym (local (mine (ns ++ ms) rs)) ∙ ap f (filter_narrow (is_member ns) (is_member (ns ++ ms)) rs (λ r e. has_left ns ms r.number e)) ∙ local rs

pub wide_right : {A : Type 0} (ns ms : List ℕ) (f : List Record → A) → ((rs : List Record) → f (mine ms rs) ≡ f rs) → (rs : List Record)
    → f (mine (ns ++ ms) rs) ≡ f rs
wide_right ns ms f local rs =
    sym (local (mine (ns ++ ms) rs)) ∙ ap f (filter_narrow (is_member ms) (is_member (ns ++ ms)) rs (λ r e. has_right ns ms r.number e)) ∙ local rs

pub and_true : (a b : Bool) → a ≡ true → b ≡ true → a && b ≡ true
and_true a b e h = rw (e, h) refl

pub bind_same : {A M : Type 0} (r : Result A OpFault) (f g : A → Result M OpFault) → ((a : A) → f a ≡ g a) → (r >>= f) ≡ (r >>= g)
bind_same (Ok a) f g h = h a
bind_same (Err d) f g h = refl

pub bind_pair : {A B M : Type 0} (r : Result A OpFault) (q : Result B OpFault) (k : A × B → Result M OpFault)
    → (r >>= λ a. (q >>= λ b. k (a, b))) ≡ ((r >>= λ a. (q >>= λ b. Ok (a, b))) >>= k)
bind_pair (Ok a) (Ok b) k = refl
bind_pair (Ok a) (Err d) k = refl
bind_pair (Err d) q k = refl

abbrev pub both : {shape : Shape} {M A B : Type 0} (f : FieldOf shape M A) (g : FieldOf shape M B) → apart f.ns g.ns ≡ true → FieldOf shape M (A × B)
both {shape} {M} {A} {B} f g e = record {
  ns = f.ns ++ g.ns;
  read = pair_read f.read g.read;
  run = λ rs k. f.run rs (λ a. g.run rs (λ b. k (a, b)));
  runs = λ rs k. f.runs rs (λ a. g.run rs (λ b. k (a, b)))
      ∙ bind_same (f.read rs) (λ a. g.run rs (λ b. k (a, b))) (λ a. (g.read rs >>= λ b. k (a, b))) (λ a. g.runs rs (λ b. k (a, b)))
      ∙ bind_pair (f.read rs) (g.read rs) k;
  within = λ rs. f.within rs && g.within rs;
  write = λ p. f.write p.0 ++ g.write p.1;
  bytes = λ before p. g.bytes (f.bytes before p.0) p.1;
  spells = λ before p. ap (λ xs. before ++ xs) (flat_map-append (λ r. r.text) (f.write p.0) (g.write p.1))
      ∙ sym (append_assoc before (spelled (f.write p.0)) (spelled (g.write p.1)))
      ∙ ap (λ xs. xs ++ spelled (g.write p.1)) (f.spells before p.0) ∙ g.spells (f.bytes before p.0) p.1;
  own = λ p. All-append (λ r. is_member (f.ns ++ g.ns) r ≡ true) (f.write p.0) (g.write p.1)
      (All-map (λ r. is_member f.ns r ≡ true) (λ r. is_member (f.ns ++ g.ns) r ≡ true) (f.write p.0) (λ r h. has_left f.ns g.ns r.number h) (f.own p.0))
      (All-map (λ r. is_member g.ns r ≡ true) (λ r. is_member (f.ns ++ g.ns) r ≡ true) (g.write p.1) (λ r h. has_right f.ns g.ns r.number h) (g.own p.1));
  local = λ rs. ap (λ (x : Result A OpFault). x >>= λ a. (g.read (mine (f.ns ++ g.ns) rs) >>= λ b. Ok (a, b))) (wide_left f.ns g.ns f.read f.local rs)
      ∙ ap (λ (y : Result B OpFault). f.read rs >>= λ a. (y >>= λ b. Ok (a, b))) (wide_right f.ns g.ns g.read g.local rs);
  local_within = λ rs. ap (λ (x : Bool). x && g.within (mine (f.ns ++ g.ns) rs)) (wide_left f.ns g.ns f.within f.local_within rs)
      ∙ ap (λ (y : Bool). f.within rs && y) (wide_right f.ns g.ns g.within g.local_within rs);
  written = λ rs p good h. let k = pair_parts f.read g.read rs p h in
      All-append (IsWritten shape) (f.write p.0) (g.write p.1) (f.written rs p.0 good k.0) (g.written rs p.1 good k.1);
  again = λ rs p good h short.
      let k = pair_parts f.read g.read rs p h in
      let xs = f.write p.0 in
      let ys = g.write p.1 in
      pair_again f.read g.read (xs ++ ys) p
      (sym (f.local (xs ++ ys)) ∙ ap f.read (front_only f.ns g.ns xs ys e (f.own p.0) (g.own p.1)) ∙ f.again rs p.0 good k.0 (All-front IsShort xs ys short))
      (sym (g.local (xs ++ ys)) ∙ ap g.read (behind_only f.ns g.ns xs ys e (f.own p.0) (g.own p.1)) ∙ g.again rs p.1 good k.1 (All-behind IsShort xs ys short));
  limit = λ rs p good h w.
      let k = pair_parts f.read g.read rs p h in
      let v = and_both (f.within rs) (g.within rs) w in
      let xs = f.write p.0 in
      let ys = g.write p.1 in
      and_true (f.within (xs ++ ys)) (g.within (xs ++ ys))
      (sym (f.local_within (xs ++ ys)) ∙ ap f.within (front_only f.ns g.ns xs ys e (f.own p.0) (g.own p.1)) ∙ f.limit rs p.0 good k.0 v.0)
      (sym (g.local_within (xs ++ ys)) ∙ ap g.within (behind_only f.ns g.ns xs ys e (f.own p.0) (g.own p.1)) ∙ g.limit rs p.1 good k.1 v.1);
}

-- ---- a message

-- what was read is read again of its canonical bytes
abbrev pub Returns : {M : Type 0} → (List ℕ → Result M OpFault) → (M → List ℕ) → Type 0
Returns {M} read write = (bytes : List ℕ) (m : M) → read bytes ≡ Ok m → length (write m) < 2 ^ 64 → read (write m) ≡ Ok m

-- a message by its fields and its extra bytes
abbrev pub message_read : {shape : Shape} {A M : Type 0} → FieldOf shape M A → (A → List ℕ → M) → List Record → Result M OpFault
message_read {shape} f make rs = f.read rs >>= λ a. if f.within rs then Ok (make a (unnamed shape rs)) else Err OverLimit

good_parts : (shape : Shape) (rs : List Record) → AllByRecursion (FitsShape shape) rs → texts_fit shape rs ≡ true → AllByRecursion (IsGood shape) rs
good_parts shape [] h e = tt
good_parts shape (r ∷ rs) h e =
    let t = and_both (text_fits shape r) (texts_fit shape rs) e in
    (record { fits = h.0; text = t.0 }, good_parts shape rs h.1 t.1)

-- the records of a message that is read are each read again, with their wire types, and with texts in UTF-8
pub parts_good : (shape : Shape) (bytes : List ℕ) (rs : List Record) → parts shape bytes ≡ Ok rs → AllByRecursion (IsGood shape) rs
unfolding parts
parts_good shape bytes rs e =
    let p = bind_ok (records_from shape 0 bytes) (λ xs. cond (texts_fit shape xs) (Ok xs) (Err NotUtf8)) rs e in
    let q = guard_ended (texts_fit shape p.0) NotUtf8 p.0 rs p.2 in
    subst (λ xs. AllByRecursion (IsGood shape) xs) q.1 (good_parts shape p.0 (records_fit shape 0 bytes p.0 p.1) q.0)

texts_good : (shape : Shape) (rs : List Record) → AllByRecursion (IsGood shape) rs → texts_fit shape rs ≡ true
texts_good shape [] h = refl
texts_good shape (r ∷ rs) h = and_true (text_fits shape r) (texts_fit shape rs) h.0.text (texts_good shape rs h.1)

-- good records that are spelled one after the other are read as these
pub good_again : (shape : Shape) (rs : List Record) → AllByRecursion (IsGood shape) rs → parts shape (spelled rs) ≡ Ok rs
unfolding parts
good_again shape rs h =
    let fit = All-map (IsGood shape) (FitsShape shape) rs (λ r g. g.fits) h in
    rw (parts_again shape rs fit, texts_good shape rs h) refl

-- where the bytes of all records are fewer than 2 ^ 64, those of each record are
pub all_short : (rs : List Record) → length (spelled rs) < 2 ^ 64 → AllByRecursion IsShort rs
all_short [] h = tt
all_short (r ∷ rs) h = (omega (arith, h, length-append r.text (spelled rs)), all_short rs (omega (arith, h, length-append r.text (spelled rs))))

all_good : (shape : Shape) (rs : List Record) → AllByRecursion (IsWritten shape) rs → AllByRecursion IsShort rs → AllByRecursion (IsGood shape) rs
all_good shape [] h k = tt
all_good shape (r ∷ rs) h k = (h.0 k.0, all_good shape rs h.1 k.1)

-- a message that is read is made of the value of its fields, which are within the limits, and of its extra bytes
pub message_parts : {shape : Shape} {A M : Type 0} (f : FieldOf shape M A) (make : A → List ℕ → M) (rs : List Record) (m : M) → message_read f make rs ≡ Ok m
    → (a : A) × (f.read rs ≡ Ok a) × (f.within rs ≡ true) × (make a (unnamed shape rs) ≡ m)
message_parts {shape} f make rs m e =
    let a = bind_ok (f.read rs) (λ a. cond (f.within rs) (Ok (make a (unnamed shape rs))) (Err OverLimit)) m e in
    let w = guard_ended (f.within rs) OverLimit (make a.0 (unnamed shape rs)) m a.2 in
    (a.0, a.1, w.0, w.1)

message_again : {shape : Shape} {A M : Type 0} (f : FieldOf shape M A) (make : A → List ℕ → M) (rs : List Record) (a : A) (extra : List ℕ)
    → f.read rs ≡ Ok a → f.within rs ≡ true → unnamed shape rs ≡ extra → message_read f make rs ≡ Ok (make a extra)
message_again f make rs a extra e w x = rw (e, w, x) refl

-- the records of a message that was read, written again
pub fields_again : {shape : Shape} {A M : Type 0} (f : FieldOf shape M A) (make : A → List ℕ → M) (rs : List Record) (a : A)
    → are_named shape f.ns ≡ true → AllByRecursion (IsGood shape) rs → f.read rs ≡ Ok a → f.within rs ≡ true
    → length (spelled (f.write a ++ extras_of shape rs)) < 2 ^ 64
    → (parts shape (spelled (f.write a ++ extras_of shape rs)) >>= message_read f make) ≡ Ok (make a (unnamed shape rs))
fields_again {shape} f make rs a named good e w small =
    let ws = f.write a in
    let xs = extras_of shape rs in
    let is_extra : AllByRecursion (λ r. is_none (form_of shape r.number) ≡ true) xs = filter_passes (λ r. is_none (form_of shape r.number)) rs in
    let others : AllByRecursion (λ r. is_member f.ns r ≡ false) xs =
    All-map (λ r. is_none (form_of shape r.number) ≡ true) (λ r. is_member f.ns r ≡ false) xs
    (λ r h. unnamed_has shape f.ns r.number named h) is_extra in
    let short = All-front IsShort ws xs (all_short (ws ++ xs) small) in
    let new = all_good shape ws (f.written rs a good e) short in
    let all = All-append (IsGood shape) ws xs new (All-filter (IsGood shape) (λ r. is_none (form_of shape r.number)) rs good) in
    let only : mine f.ns (ws ++ xs) ≡ ws = filter-append (is_member f.ns) ws xs
    ∙ ap (λ zs. zs ++ mine f.ns xs) (filter_all (is_member f.ns) ws (f.own a))
    ∙ ap (λ zs. ws ++ zs) (filter_none (is_member f.ns) xs others) ∙ append-nil ws in
    let read : f.read (ws ++ xs) ≡ Ok a = sym (f.local (ws ++ xs)) ∙ ap f.read only ∙ f.again rs a good e short in
    let within : f.within (ws ++ xs) ≡ true = sym (f.local_within (ws ++ xs)) ∙ ap f.within only ∙ f.limit rs a good e w in
    let named_ws : AllByRecursion (λ r. is_none (form_of shape r.number) ≡ false) ws =
    All-map (λ r. is_member f.ns r ≡ true) (λ r. is_none (form_of shape r.number) ≡ false) ws (λ r h. named_of shape f.ns r.number named h) (f.own a) in
    let kept : extras_of shape (ws ++ xs) ≡ xs = filter-append (λ r. is_none (form_of shape r.number)) ws xs
    ∙ ap (λ zs. zs ++ extras_of shape xs) (filter_none (λ r. is_none (form_of shape r.number)) ws named_ws)
    ∙ filter_all (λ r. is_none (form_of shape r.number)) xs is_extra in
    ap (λ (x : Result (List Record) OpFault). x >>= message_read f make) (good_again shape (ws ++ xs) all)
    ∙ message_again f make (ws ++ xs) a (unnamed shape rs) read within (ap spelled kept)

-- the rest of a message after its records: its fields one after the other, and the limits
abbrev pub message_run : {shape : Shape} {A M : Type 0} → FieldOf shape M A → (A → List ℕ → M) → List Record → Result M OpFault
message_run {shape} f make rs = f.run rs (λ a. if f.within rs then Ok (make a (unnamed shape rs)) else Err OverLimit)

-- reading a message's fields one after the other has the same result as reading them together
pub run_parts : {shape : Shape} {A M : Type 0} (f : FieldOf shape M A) (make : A → List ℕ → M) (r : Result (List Record) OpFault)
    → (r >>= message_run f make) ≡ (r >>= message_read f make)
run_parts {shape} f make (Ok rs) = f.runs rs (λ a. if f.within rs then Ok (make a (unnamed shape rs)) else Err OverLimit)
run_parts f make (Err d) = refl

-- a message whose reading and writing are those of its fields is read again
pub returns_by : {shape : Shape} {A M : Type 0} (f : FieldOf shape M A) (make : A → List ℕ → M) (read : List ℕ → Result M OpFault) (write : M → List ℕ)
    → are_named shape f.ns ≡ true
    → ((bytes : List ℕ) → read bytes ≡ (parts shape bytes >>= message_run f make))
    → ((a : A) (extra : List ℕ) → write (make a extra) ≡ f.bytes [] a ++ extra)
    → Returns read write
returns_by {shape} {A} {M} f make read write named reads writes bytes m e small =
    let reading : (bytes : List ℕ) → read bytes ≡ (parts shape bytes >>= message_read f make) = λ bytes. reads bytes ∙ run_parts f make (parts shape bytes) in
    let rs = bind_ok (parts shape bytes) (message_read f make) m (sym (reading bytes) ∙ e) in
    let p = message_parts f make rs.0 m rs.2 in
    let good = parts_good shape bytes rs.0 rs.1 in
    let extra = unnamed shape rs.0 in
    let text : write (make p.0 extra) ≡ spelled (f.write p.0 ++ extras_of shape rs.0) = writes p.0 extra
    ∙ ap (λ xs. xs ++ extra) (sym (f.spells [] p.0)) ∙ sym (flat_map-append (λ r. r.text) (f.write p.0) (extras_of shape rs.0)) in
    let short : length (spelled (f.write p.0 ++ extras_of shape rs.0)) < 2 ^ 64 =
    subst (λ (xs : List ℕ). length xs < 2 ^ 64) text (subst (λ (x : M). length (write x) < 2 ^ 64) (sym p.3) small) in
    subst (λ (x : M). read (write x) ≡ Ok x) p.3
    (ap read text ∙ reading (spelled (f.write p.0 ++ extras_of shape rs.0)) ∙ fields_again f make rs.0 p.0 named good p.1 p.2 short)
