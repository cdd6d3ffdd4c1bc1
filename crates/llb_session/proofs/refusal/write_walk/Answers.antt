-- The number of a held key's refusal, and then the ID of the key.
use Rattle.std.proofs.Common.{rules, ◌≡◌, ◌∙◌, List, ℕ, codes, sym, subst}
use Rattle.llb_events.specs.declared.refusal.ClaimFault.TheVariants as claim
use Rattle.std.proofs.lemmas.Result.{err_from_is_err_and}
use Rattle.llb_wire.specs.Sink.{TakesAll}
use Rattle.llb_board.specs.Faults.{walk_text}
use Rattle.llb_board.specs.declared.fault.WalkFault.{WalkFault}
use Rattle.llb_board.specs.declared.fault.WalkFault.TheVariants as walk
use Rattle.llb_session.proofs.ConsecutiveTexts.{takes_both, takes_part}
use Rattle.llb_session.proofs.refusal.write_walk.Goals as goal

pub returns-in_err-write_all-in-Claim-Held-clause-takes : goal.returns-in_err-write_all-in-Claim-Held-clause-takes
returns-in_err-write_all-in-Claim-Held-clause-takes g c =
    let fails = (err_from_is_err_and c.from_residual.result c.from_residual.ensures.1).1 in
    let held = c.in-Claim-Held in
    let is : c.args.fault.now ≡ walk.Claim (claim.Held held.key) = search rules in
    let after = c.write_all-in-Claim-Held.new.sink in
    subst (λ (fault : WalkFault). TakesAll (g.S.Sink.taken c.args.sink.now) (g.S.Sink.taken after) (g.S.Sink.failed after) (walk_text fault)
    c.from_residual.result)
    (sym is)
    (takes_part _ _ _ (codes "135 ") held.key.id _ _ c.from_residual.result fails c.in_err-write_all-in-Claim-Held.ensures.takes)

pub returns-in_ok-write_all-in-Claim-Held-clause-takes : goal.returns-in_ok-write_all-in-Claim-Held-clause-takes
returns-in_ok-write_all-in-Claim-Held-clause-takes g c =
    let held = c.in-Claim-Held in
    let is : c.args.fault.now ≡ walk.Claim (claim.Held held.key) = search rules in
    let before = c.write_all-in-Claim-Held.new.sink in
    let after = c.write_all-in-Claim-Held-2.new.sink in
    let rest = subst (λ (text : List ℕ). TakesAll (g.S.Sink.taken before) (g.S.Sink.taken after) (g.S.Sink.failed after) text
    c.write_all-in-Claim-Held-2.result) (c.as_bytes.ensures.value ∙ c.as_str.ensures.value) c.write_all-in-Claim-Held-2.ensures.takes in
    subst (λ (fault : WalkFault). TakesAll (g.S.Sink.taken c.args.sink.now) (g.S.Sink.taken after) (g.S.Sink.failed after) (walk_text fault)
    c.write_all-in-Claim-Held-2.result)
    (sym is)
    (takes_both _ _ _ _ (codes "135 ") held.key.id _ c.in_ok-write_all-in-Claim-Held.ensures.takes rest)
