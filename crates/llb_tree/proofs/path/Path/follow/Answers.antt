use Rattle.std.proofs.Common.{length, drop, ap, ◌∙◌, lit<}
use Rattle.std.proofs.lemmas.Iterator.Splits.{YieldsList-from_str_split}
use Rattle.std.proofs.lemmas.Iterator.Consumers.{YieldsList-turn, YieldsList-end}
use Rattle.std.proofs.lemmas.List.{length_push}
use Rattle.std.proofs.lemmas.Result.{err_from_is_err_and}
use Rattle.std.specs.Str.Iter.{split_text, split_has_more, split_pattern}
use Rattle.llb_tree.specs.Path.{follow, parts_of}
use Rattle.llb_tree.proofs.PathReading.{follow_more, follow_stops, follow_ends}
use Rattle.llb_tree.proofs.path.Path.follow.Goals as goal

pub returns-in_err-enter : goal.returns-in_err-enter
returns-in_err-enter c =
    let e = c.split-part-items.ensures in
    let same = c.into_iter-part-iterator.ensures.into_iter_gives in
    let t = YieldsList-turn (YieldsList-from_str_split 47 c.args.text.now (lit< tt) (ap split_text same ∙ e.text)
    (ap split_has_more same ∙ e.has_more) (ap split_pattern same ∙ e.pattern)) c.loop-part.yielded _ c.loop-part.yielded_by _ _
    c.in-Some.part c.in-Some.is c.next.ensures.steps in
    let p = err_from_is_err_and c.from_residual.result c.from_residual.ensures.1 in
    rw (p.1, p.2) (λ known. follow_stops c.loop-part.self (parts_of c.args.text.now)
    (length c.loop-part.yielded) c.in-Some.part.now _ t.0 t.1 c.loop-part.invariant _ (c.in_err-enter.ensures.gives known))

pub loop-part-preserved : goal.loop-part-preserved
loop-part-preserved c =
    let e = c.split-part-items.ensures in
    let same = c.into_iter-part-iterator.ensures.into_iter_gives in
    let t = YieldsList-turn (YieldsList-from_str_split 47 c.args.text.now (lit< tt) (ap split_text same ∙ e.text)
    (ap split_has_more same ∙ e.has_more) (ap split_pattern same ∙ e.pattern)) c.loop-part.yielded _ c.loop-part.yielded_by _ _
    c.in-Some.part c.in-Some.is c.next.ensures.steps in
    let more = follow_more c.loop-part.self (parts_of c.args.text.now) (length c.loop-part.yielded) c.in-Some.part.now _ t.0 t.1
    c.loop-part.invariant _ c.in_ok-enter.ensures.gives in
    ap (λ n. follow c.enter.new.self (drop n (parts_of c.args.text.now))) (length_push c.loop-part.yielded c.in-Some.part) ∙ more

pub returns : goal.returns
returns c =
    let e = c.split-part-items.ensures in
    let same = c.into_iter-part-iterator.ensures.into_iter_gives in
    let t = YieldsList-end (YieldsList-from_str_split 47 c.args.text.now (lit< tt) (ap split_text same ∙ e.text)
    (ap split_has_more same ∙ e.has_more) (ap split_pattern same ∙ e.pattern)) c.loop-part.yielded _ c.loop-part.yielded_by _ _
    c.in-None.is c.next.ensures.steps in
    follow_ends c.loop-part.self (parts_of c.args.text.now) (length c.loop-part.yielded) _ t.1 c.loop-part.invariant
