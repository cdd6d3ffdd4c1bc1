use Rattle.std.proofs.Common.{ℕ, List, drop, Option, option_map, sym, ap, ◌∙◌, Bor}
use Rattle.llb_laws.proofs.TokenReading.{has_content, has_none, has_other, other_part}
use Rattle.llb_laws.proofs.token_expansion.read_content.Goals as goal

abbrev seen_in : Option (Bor (List ℕ)) → Option (List ℕ)
seen_in o = option_map (λ p. p.now) o

pub returns-in_default-clause-same : goal.returns-in_default-clause-same
returns-in_default-clause-same c = λ bytes. (
  has_none c.args.contents.now c.args.byte c.args.at.left c.args.at.number bytes (drop c.args.at.place c.args.content.now) c.requires.last
      (sym c.content_of.ensures ∙ ap seen_in c.in_default.is),
  λ none. absurd none,
)

pub returns-then-not-is_at-clause-same : goal.returns-then-not-is_at-clause-same
returns-then-not-is_at-clause-same c = λ bytes. (
  has_other c.args.contents.now c.args.byte c.args.at.left c.args.at.number bytes (drop c.args.at.place c.args.content.now) c.in-Some.part.now
      c.requires.last (sym c.content_of.ensures ∙ ap seen_in c.in-Some.is)
      (other_part c.args.content.now c.args.at.place c.in-Some.part.now c.is_at.result c.is_at.ensures c.if-not-is_at.true),
  λ none. absurd none,
)

pub returns-clause-same : goal.returns-clause-same
returns-clause-same c = λ bytes.
    has_content c.args.contents.now c.args.byte c.args.at.left c.args.at.number c.args.at.place bytes c.args.content.now c.in-Some.part.now c.requires.last
    (sym c.content_of.ensures ∙ ap seen_in c.in-Some.is) (c.is_at.ensures.0 c.if-not-is_at.false)
