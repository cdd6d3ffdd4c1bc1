-- Whether bytes are a text, and that the texts of a message are.
use Rattle.std.proofs.Common.{◌≡◌, ℕ, zero, suc, ◌-◌, ◌<◌, Bool, true, false, eqb, List, [], ◌∷◌, length, get_or, Option, Some, refl, sym, ap, subst, arith}
use Rattle.std.specs.Prelude.{slice_get}
use Rattle.std.specs.Option.{option_map_or}
use Rattle.std.specs.Str.{IsUtf8, is_utf8}
use Rattle.std.specs.List.{AllByRecursion}
use Rattle.std.proofs.lemmas.Bool.{eqb-true}
use Rattle.std.proofs.lemmas.Str.{IsUtf8-from_is_utf8, is_utf8-from_IsUtf8}
use Rattle.llb_wire.specs.Records.{Record}
use Rattle.llb_ops.specs.declared.payloads_and_limits.Form.{Form}
use Rattle.llb_ops.specs.declared.payloads_and_limits.Form.TheVariants as form
use Rattle.llb_ops.specs.declared.records.Record.{Record as Held}
use Rattle.llb_ops.specs.Records.{Shape, view, views, form_of, text_ok, text_fits, texts_fit, all, last_of, payload}
use Rattle.llb_ops.proofs.RecordsByFieldNumber.{and_both}

-- bytes that are UTF-8 pass the test for it
pub utf8_true : (bytes : List ℕ) → IsUtf8 bytes → is_utf8 bytes ≡ true
utf8_true bytes h = is_utf8-from_IsUtf8 bytes h

-- bytes that are not UTF-8 fail the test for it
pub utf8_false : (bytes : List ℕ) → ¬ (IsUtf8 bytes) → is_utf8 bytes ≡ false
utf8_false bytes h = go (is_utf8 bytes) refl where
  go : (b : Bool) → is_utf8 bytes ≡ b → is_utf8 bytes ≡ false
  go true e = absurd (h (IsUtf8-from_is_utf8 bytes e))
  go false e = e

-- ---- the last record of a list

-- the last of two records or more is the last of those after the first
pub last_more : (r s : Record) (rs : List Record) → last_of (r ∷ s ∷ rs) ≡ last_of (s ∷ rs)
last_more r s rs =
    let e : length (r ∷ s ∷ rs) - 1 ≡ suc (length (s ∷ rs) - 1) = omega arith in
    ap (slice_get (r ∷ s ∷ rs)) e

-- what holds of no bytes and of each payload holds of the last one
pub last_payload : (P : List ℕ → Type 0) (rs : List Record) → P [] → AllByRecursion (λ r. P r.payload) rs → P (payload rs)
last_payload P [] none h = none
last_payload P (r ∷ []) none h = h.0
last_payload P (r ∷ s ∷ rs) none h =
    subst (λ o. P (option_map_or (λ x. x.payload) o [])) (sym (last_more r s rs)) (last_payload P (s ∷ rs) none h.1)

-- ---- the records of a text are UTF-8

texts_more : (shape : Shape) (n : ℕ) (r : Record) (rs : List Record) (b : Bool) → eqb r.number n ≡ b → form_of shape n ≡ Some form.Text
    → text_fits shape r ≡ true → AllByRecursion (λ x. is_utf8 x.payload ≡ true) (all n rs) → AllByRecursion (λ x. is_utf8 x.payload ≡ true) (all n (r ∷ rs))
texts_more shape n r rs true e named fit rest =
    let text : form_of shape r.number ≡ Some form.Text = subst (λ (k : ℕ). form_of shape k ≡ Some form.Text) (sym (eqb-true r.number n e)) named in
    let utf8 : is_utf8 r.payload ≡ true = subst (λ (o : Option Form). text_ok o r.payload ≡ true) text fit in
    rw e (utf8, rest)
texts_more shape n r rs false e named fit rest = rw e rest

texts_of : (shape : Shape) (n : ℕ) (rs : List Record) → form_of shape n ≡ Some form.Text → texts_fit shape rs ≡ true
    → AllByRecursion (λ r. is_utf8 r.payload ≡ true) (all n rs)
texts_of shape n [] named fit = tt
texts_of shape n (r ∷ rs) named fit =
    let both = and_both (text_fits shape r) (texts_fit shape rs) fit in
    texts_more shape n r rs (eqb r.number n) refl named both.0 (texts_of shape n rs named both.1)

-- the empty text is UTF-8
pub empty_utf8 : is_utf8 [] ≡ true
empty_utf8 = is_utf8-from_IsUtf8 [] ([], (refl, refl))

-- where all texts of a message are UTF-8, so is what a field for a text is read as
pub text_is_utf8 : (shape : Shape) (n : ℕ) (rs : List Record) → form_of shape n ≡ Some form.Text → texts_fit shape rs ≡ true
    → is_utf8 (payload (all n rs)) ≡ true
text_is_utf8 shape n rs named fit = last_payload (λ bytes. is_utf8 bytes ≡ true) (all n rs) empty_utf8 (texts_of shape n rs named fit)

-- the record at a place of a field of texts is UTF-8
pub text_at : (shape : Shape) (n : ℕ) (rs : List Held) (i : ℕ) (d : Held) → i < length rs → (get_or rs i d).number ≡ n
    → form_of shape n ≡ Some form.Text → texts_fit shape (views rs) ≡ true → is_utf8 (get_or rs i d).payload.now ≡ true
text_at shape n [] i d lt e named fit = absurd (omega (arith, lt))
text_at shape n (r ∷ rs) zero d lt e named fit =
    let both = and_both (text_fits shape (view r)) (texts_fit shape (views rs)) fit in
    let text : form_of shape r.number ≡ Some form.Text = subst (λ (k : ℕ). form_of shape k ≡ Some form.Text) (sym e) named in
    subst (λ (o : Option Form). text_ok o r.payload.now ≡ true) text both.0
text_at shape n (r ∷ rs) (suc i) d lt e named fit =
    let both = and_both (text_fits shape (view r)) (texts_fit shape (views rs)) fit in
    text_at shape n rs i d (omega (arith, lt)) e named both.1
