-- A digit below ten is one byte.
use Rattle.std.proofs.Common.{◌∙◌, ◌∷◌, [], List, ℕ, ap, sym, subst, arith}
use Rattle.std.proofs.lemmas.Fmt.{decimal_digit}
use Rattle.llb_wire.specs.Sink.{TakesAll}
use Rattle.llb_session.proofs.refusal.write_digit.Goals as goal

pub returns-clause-takes : goal.returns-clause-takes
returns-clause-takes g c =
    subst (λ (text : List ℕ). TakesAll (g.S.Sink.taken c.args.sink.now) (g.S.Sink.taken c.write_all.new.sink) (g.S.Sink.failed c.write_all.new.sink) text
    c.write_all.result)
    (ap (λ b. b ∷ []) (omega arith) ∙ sym (decimal_digit c.args.digit c.requires)) c.write_all.ensures.takes
