use Rattle.std.proofs.Common.{◌++◌, ◌∷◌, [], sym, ap, ◌∙◌, refl}
use Rattle.std.proofs.lemmas.Result.{err_from_is_err_and}
use Rattle.llb_applet.specs.declared.joined_commands.Join.TheVariants.{Then}
use Rattle.llb_applet.specs.Words.{join_of, calls_from}
use Rattle.llb_applet.specs.CallReading.{verdict}
use Rattle.llb_applet.specs.Scripts.{commands_of}
use Rattle.llb_applet.proofs.CallWordGathering.{judged_on, judged_stops, at_other, separates_not}
use Rattle.llb_applet.proofs.call.Begun.take.Goals as goal

pub returns-in_err-judge-clause-judges : goal.returns-in_err-judge-clause-judges
returns-in_err-judge-clause-judges c call begun =
    let p = err_from_is_err_and c.from_residual.result c.from_residual.ensures.1 in
    rw (p.1, p.2) (λ rest. judged_stops c.args.self.now.number call c.args.part.now rest (sym c.is_separator.ensures ∙ c.if-is_separator.true) _
    (c.in_err-judge.ensures call begun))

pub returns-then-is_separator-clause-judges : goal.returns-then-is_separator-clause-judges
returns-then-is_separator-clause-judges c call begun = (
  [],
  record { counted = refl; named = refl; option = refl },
  λ rest. judged_on c.args.self.now.number call c.args.part.now rest
      (sym c.is_separator.ensures ∙ c.if-is_separator.true) (c.in_ok-judge.ensures call begun),
)

pub returns-clause-judges : goal.returns-clause-judges
returns-clause-judges c call begun =
    let part = c.args.part.now in (
      call ++ part ∷ [],
      c.push.ensures.begun call begun,
      λ rest.
          ap (λ calls. verdict (commands_of c.args.self.now.number calls))
          (at_other Then call part rest (separates_not (join_of part) (sym c.is_separator.ensures ∙ c.if-is_separator.false))
          (sym c.is_empty.ensures ∙ c.if-is_empty.false))
          ∙ ap (λ n. verdict (commands_of n (calls_from rest Then (call ++ part ∷ [])))) (sym c.push.ensures.number),
    )
