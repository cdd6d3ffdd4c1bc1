use Rattle.std.proofs.Common.{◌≡◌, ◌-◌, List, Bool, length, take, vec_len, rules, sym, ap, ◌∙◌, subst}
use Rattle.llb_cache.specs.Caches.{Row}
use Rattle.llb_cache.specs.InstanceMarks.{Unmarks}
use Rattle.llb_cache.proofs.RemovedAdditions.{marks_front}
use Rattle.llb_cache.proofs.lease_additions.unmake.Goals as goal

pub returns-in-NewRow-clause-marks : goal.returns-in-NewRow-clause-marks
returns-in-NewRow-clause-marks c =
    let es = c.args.rows.now.entries.items in
    let marks = c.args.marks.now.items in
    let len : vec_len c.args.marks.now ≡ length marks = search rules in
    let popped = c.pop.ensures.rest ∙ ap (λ n. take (n - 1) marks) len in
    subst (λ (s : List Row × List (List Bool)). Unmarks es marks s.0 s.1) (λ i. ((sym c.pop_row.ensures.rows) i, (sym popped) i))
    (marks_front es marks c.requires.each)
