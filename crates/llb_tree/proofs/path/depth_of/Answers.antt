use Rattle.std.proofs.Common.{length, drop, Ok, sym, ap, ◌∙◌, lit<}
use Rattle.std.proofs.lemmas.Iterator.Splits.{YieldsList-from_str_split}
use Rattle.std.proofs.lemmas.Iterator.Consumers.{YieldsList-turn, YieldsList-end}
use Rattle.std.proofs.lemmas.List.{length_push}
use Rattle.std.proofs.lemmas.Result.{err_from_is_err_and}
use Rattle.std.specs.Str.Iter.{split_text, split_has_more, split_pattern}
use Rattle.llb_tree.specs.Path.{follow, parts_of, depth}
use Rattle.llb_tree.proofs.PathReading.{follow_more, follow_stops, follow_ends, depth_ok, depth_err}
use Rattle.llb_tree.proofs.path.depth_of.Goals as goal

pub returns-in_err-names-clause-depth : goal.returns-in_err-names-clause-depth
returns-in_err-names-clause-depth c =
    let e = c.split-part-items.ensures in
    let same = c.into_iter-part-iterator.ensures.into_iter_gives in
    let t = YieldsList-turn (YieldsList-from_str_split 47 c.args.text.now (lit< tt) (ap split_text same ∙ e.text)
    (ap split_has_more same ∙ e.has_more) (ap split_pattern same ∙ e.pattern)) c.loop-part.yielded _ c.loop-part.yielded_by _ _
    c.in-Some.part c.in-Some.is c.next.ensures.steps in
    let p = err_from_is_err_and c.from_residual.result c.from_residual.ensures.1 in
    rw (p.1, p.2) (λ from starts.
    let (path, names, so_far) = c.loop-part.invariant from starts in
    let refused = depth_err _ _ (sym (c.in_err-names.ensures.depth path names)) in
    sym (ap depth (follow_stops path (parts_of c.args.text.now) (length c.loop-part.yielded) c.in-Some.part.now _ t.0 t.1 so_far _ refused)))

pub loop-part-preserved : goal.loop-part-preserved
loop-part-preserved c from starts =
    let (path, names, so_far) = c.loop-part.invariant from starts in
    let e = c.split-part-items.ensures in
    let same = c.into_iter-part-iterator.ensures.into_iter_gives in
    let t = YieldsList-turn (YieldsList-from_str_split 47 c.args.text.now (lit< tt) (ap split_text same ∙ e.text)
    (ap split_has_more same ∙ e.has_more) (ap split_pattern same ∙ e.pattern)) c.loop-part.yielded _ c.loop-part.yielded_by _ _
    c.in-Some.part c.in-Some.is c.next.ensures.steps in
    let next = depth_ok _ _ (sym (c.in_ok-names.ensures.depth path names)) in
    let more = follow_more path (parts_of c.args.text.now) (length c.loop-part.yielded) c.in-Some.part.now _ t.0 t.1 so_far next.0 next.1 in
    (next.0, next.2, ap (λ n. follow next.0 (drop n (parts_of c.args.text.now))) (length_push c.loop-part.yielded c.in-Some.part) ∙ more)

pub returns-clause-depth : goal.returns-clause-depth
returns-clause-depth c from starts =
    let (path, names, so_far) = c.loop-part.invariant from starts in
    let e = c.split-part-items.ensures in
    let same = c.into_iter-part-iterator.ensures.into_iter_gives in
    let t = YieldsList-end (YieldsList-from_str_split 47 c.args.text.now (lit< tt) (ap split_text same ∙ e.text)
    (ap split_has_more same ∙ e.has_more) (ap split_pattern same ∙ e.pattern)) c.loop-part.yielded _ c.loop-part.yielded_by _ _
    c.in-None.is c.next.ensures.steps in
    let ends = follow_ends path (parts_of c.args.text.now) (length c.loop-part.yielded) _ t.1 so_far in
    sym (ap depth ends ∙ ap (λ n. Ok n) names)
