use Rattle.std.proofs.Common.{rules, inl, ◌∙◌}
use Rattle.llb_work.proofs.ThreadedRunEnds.{leads_from, never_foreign}
use Rattle.llb_work.proofs.run.run_workers.Goals as goal

pub returns-then-not-same-clause-leads : goal.returns-then-not-same-clause-leads
returns-then-not-same-clause-leads g c =
    let differs = c.if-not-same.true in
    absurd (never_foreign c.same.result c.in-Ok-run_crew.left.start c.in-Ok-copy.outside c.args.board
    (search rules) c.same.ensures c.in-Ok-copy.ensures c.in-Ok-run_crew.ensures.left.start)

pub returns-then-not-same-clause-own : goal.returns-then-not-same-clause-own
returns-then-not-same-clause-own g c =
    let differs = c.if-not-same.true in
    absurd (never_foreign c.same.result c.in-Ok-run_crew.left.start c.in-Ok-copy.outside c.args.board
    (search rules) c.same.ensures c.in-Ok-copy.ensures c.in-Ok-run_crew.ensures.left.start)

pub returns-clause-leads : goal.returns-clause-leads
returns-clause-leads g c =
    let left = c.in-Ok-run_crew.left in
    let are_left = c.in-Ok-run_crew.ensures.left in
    let ended = c.ended.result in
    leads_from c.args.board left.board ended.board left.made ended.made are_left.after are_left.made c.ended.ensures.goes c.ended.ensures.made

pub returns-clause-stopped : goal.returns-clause-stopped
returns-clause-stopped g c = c.ended.ensures.stopped g.G.Gate.may_stop c.args.board c.in-Ok-run_crew.ensures.left.stops

pub returns-then-not-same-clause-idle : goal.returns-then-not-same-clause-idle
returns-then-not-same-clause-idle g c =
    let differs = c.if-not-same.true in
    absurd (never_foreign c.same.result c.in-Ok-run_crew.left.start c.in-Ok-copy.outside c.args.board
    (search rules) c.same.ensures c.in-Ok-copy.ensures c.in-Ok-run_crew.ensures.left.start)

pub returns-clause-idle : goal.returns-clause-idle
returns-clause-idle g c = inl c.ended.ensures.idle

pub returns-clause-uncancelled : goal.returns-clause-uncancelled
returns-clause-uncancelled g c =
    λ none. let ended = c.ended.ensures.uncancelled none in ended.1 ∙ c.in-Ok-run_crew.ensures.left.uncancelled ended.0
