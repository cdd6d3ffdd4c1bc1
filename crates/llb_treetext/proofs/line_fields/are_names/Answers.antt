-- A part is taken from the start of those that are left.
use Rattle.std.proofs.Common.{◌+◌, length, drop, sym, ap, ◌∙◌, lit<, arith}
use Rattle.std.proofs.lemmas.Iterator.Splits.{YieldsList-from_str_split}
use Rattle.std.proofs.lemmas.Iterator.Consumers.{YieldsList-turn, YieldsList-end}
use Rattle.std.proofs.lemmas.List.{length_push}
use Rattle.std.specs.List.{list_all}
use Rattle.std.specs.Str.Iter.{split_text, split_has_more, split_pattern}
use Rattle.llb_tree.specs.Path.{is_name, parts_of}
use Rattle.llb_treetext.proofs.NamesInTexts.{names_more, no_names, many_names, all_names}
use Rattle.llb_treetext.proofs.line_fields.are_names.Goals as goal

pub returns-then-count-ge128 : goal.returns-then-count-ge128
returns-then-count-ge128 c =
    let e = c.split-part-items.ensures in
    let same = c.into_iter-part-iterator.ensures.into_iter_gives in
    let t = YieldsList-turn (YieldsList-from_str_split 47 c.args.text.now (lit< tt) (ap split_text same ∙ e.text)
    (ap split_has_more same ∙ e.has_more) (ap split_pattern same ∙ e.pattern)) c.loop-part.yielded _ c.loop-part.yielded_by _ _
    c.in-Some.part c.in-Some.is c.next.ensures.steps in
    many_names c.args.text.now (length c.loop-part.yielded) c.loop-part.invariant.2 c.in-Some.part.now t.0 t.1
    (omega (arith, c.loop-part.invariant.0, c.if-count-ge128.true))

pub returns-then-not-is_name : goal.returns-then-not-is_name
returns-then-not-is_name c =
    let e = c.split-part-items.ensures in
    let same = c.into_iter-part-iterator.ensures.into_iter_gives in
    let t = YieldsList-turn (YieldsList-from_str_split 47 c.args.text.now (lit< tt) (ap split_text same ∙ e.text)
    (ap split_has_more same ∙ e.has_more) (ap split_pattern same ∙ e.pattern)) c.loop-part.yielded _ c.loop-part.yielded_by _ _
    c.in-Some.part c.in-Some.is c.next.ensures.steps in
    no_names c.args.text.now (length c.loop-part.yielded) c.loop-part.invariant.2 c.in-Some.part.now t.0 t.1 (sym c.is_name.ensures ∙ c.if-not-is_name.true)

pub loop-part-preserved : goal.loop-part-preserved
loop-part-preserved c =
    let e = c.split-part-items.ensures in
    let same = c.into_iter-part-iterator.ensures.into_iter_gives in
    let t = YieldsList-turn (YieldsList-from_str_split 47 c.args.text.now (lit< tt) (ap split_text same ∙ e.text)
    (ap split_has_more same ∙ e.has_more) (ap split_pattern same ∙ e.pattern)) c.loop-part.yielded _ c.loop-part.yielded_by _ _
    c.in-Some.part c.in-Some.is c.next.ensures.steps in
    let more = names_more c.args.text.now (length c.loop-part.yielded) c.loop-part.invariant.2 c.in-Some.part.now t.0 t.1
    (sym c.is_name.ensures ∙ c.if-not-is_name.false) in (
      ap (λ n. n + 1) c.loop-part.invariant.0 ∙ sym (length_push c.loop-part.yielded c.in-Some.part),
      omega (arith, c.if-count-ge128.false),
      ap (λ n. list_all is_name (drop n (parts_of c.args.text.now))) (length_push c.loop-part.yielded c.in-Some.part) ∙ more,
    )

pub returns : goal.returns
returns c =
    let e = c.split-part-items.ensures in
    let same = c.into_iter-part-iterator.ensures.into_iter_gives in
    let t = YieldsList-end (YieldsList-from_str_split 47 c.args.text.now (lit< tt) (ap split_text same ∙ e.text)
    (ap split_has_more same ∙ e.has_more) (ap split_pattern same ∙ e.pattern)) c.loop-part.yielded _ c.loop-part.yielded_by _ _
    c.in-None.is c.next.ensures.steps in
    all_names c.args.text.now (length c.loop-part.yielded) c.loop-part.invariant.2 t.1 (omega (arith, c.loop-part.invariant.0, c.loop-part.invariant.1))
