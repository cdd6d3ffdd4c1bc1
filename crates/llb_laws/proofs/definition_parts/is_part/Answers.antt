use Rattle.std.proofs.Common.{ℕ, List, sym, ap, subst, ◌∙◌}
use Rattle.std.specs.List.{Contains}
use Rattle.llb_laws.specs.Definitions.{last_entry}
use Rattle.llb_laws.proofs.definition_parts.is_part.Goals as goal

pub returns-then-not-has_entries : goal.returns-then-not-has_entries
returns-then-not-has_entries c = (
  λ e. absurd cc,
  λ has. absurd (
      let yes = c.has_entries.ensures.1 (λ x h.
      subst (λ (es : List (List ℕ)). Contains es x) (sym c.as_slice.ensures)
      (has.among x (subst (λ (es : List (List ℕ)). Contains es x) c.as_slice-2.ensures h))) in
      cc
      ),
)

pub returns : goal.returns
returns c = (
  λ yes. record {
    among = λ x h.
        subst (λ (es : List (List ℕ)). Contains es x) c.as_slice.ensures
        (c.has_entries.ensures.0 c.if-not-has_entries.false x (subst (λ (es : List (List ℕ)). Contains es x) (sym c.as_slice-2.ensures) h));
    last = sym (ap last_entry c.as_slice-3.ensures) ∙ c.end_alike.ensures.0 yes ∙ ap last_entry c.as_slice-4.ensures;
  },
  λ has. c.end_alike.ensures.1 (ap last_entry c.as_slice-3.ensures ∙ has.last ∙ sym (ap last_entry c.as_slice-4.ensures)),
)
