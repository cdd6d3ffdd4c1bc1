use Rattle.std.proofs.Common.{ℕ, drop, Option, Some, sym, ap, refl, ◌∙◌, arith}
use Rattle.std.proofs.lemmas.Option.{slice_get_within}
use Rattle.llb_laws.proofs.TokenReading.{begins_token, is_itself, is_no_other, is_past, not_mark}
use Rattle.llb_laws.proofs.token_expansion.read_plain.Goals as goal

pub returns-then-byte-eq255-clause-same : goal.returns-then-byte-eq255-clause-same
returns-then-byte-eq255-clause-same c = λ contents bytes.
    begins_token contents c.args.byte c.args.at.left c.args.at.number bytes (drop c.args.at.place c.args.content.now) c.requires.outside c.if-byte-eq255.true

pub returns-in_default-clause-same : goal.returns-in_default-clause-same
returns-in_default-clause-same c = λ contents bytes. (
  is_past contents c.args.byte c.args.at.left c.args.at.number c.args.at.place bytes c.args.content.now c.requires.outside
      (not_mark c.args.byte c.if-byte-eq255.false) (sym c.byte_at.ensures ∙ c.in_default.is),
  λ none. absurd none,
)

pub returns-then-same-byte-clause-same : goal.returns-then-same-byte-clause-same
returns-then-same-byte-clause-same c = λ contents bytes. (
  is_no_other contents c.args.byte c.in-Some.same c.args.at.left c.args.at.number c.args.at.place bytes c.args.content.now c.requires.outside
      (not_mark c.args.byte c.if-byte-eq255.false) (sym c.byte_at.ensures ∙ c.in-Some.is) (λ e. c.if-same-byte.true (sym e)),
  λ none. absurd none,
)

pub returns-clause-reading : goal.returns-clause-reading
returns-clause-reading c =
    let low = slice_get_within c.args.content.now c.args.at.place c.in-Some.same (sym c.byte_at.ensures ∙ c.in-Some.is) in
    record {
      left = omega arith;
      three = λ h. absurd (omega (arith, h));
      two = λ h. absurd (omega (arith, h));
      one = λ h. absurd (omega (arith, h));
      none = λ h. refl;
      place = omega (arith, low);
    }

pub returns-clause-same : goal.returns-clause-same
returns-clause-same c = λ contents bytes.
    is_itself contents c.args.byte c.args.at.left c.args.at.number c.args.at.place bytes c.args.content.now c.requires.outside
    (not_mark c.args.byte c.if-byte-eq255.false) (sym c.byte_at.ensures ∙ c.in-Some.is ∙ ap some_byte c.if-same-byte.false)
  where
    some_byte : ℕ → Option ℕ
    some_byte b = Some b
