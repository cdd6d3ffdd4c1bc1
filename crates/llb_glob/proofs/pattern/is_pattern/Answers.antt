use Rattle.std.proofs.Common.{◌≡◌, ℕ, [], length, drop, refl, sym, ap, ◌∙◌, subst, lit<}
use Rattle.std.proofs.lemmas.Iterator.Splits.{YieldsList-from_str_split}
use Rattle.std.proofs.lemmas.Iterator.Consumers.{YieldsList-turn, YieldsList-end}
use Rattle.std.proofs.lemmas.List.{length_push}
use Rattle.std.proofs.lemmas.Iterator.{YieldsList}
use Rattle.std.specs.Str.Pattern.{FindsChar}
use Rattle.std.specs.Str.Iter.{split_steps, split_text, split_has_more, split_pattern}
use Rattle.llb_tree.specs.Path.{enter, parts_of, path_of}
use Rattle.llb_glob.specs.TextCheckCounts.{Enters}
use Rattle.llb_glob.proofs.PartwiseTextCheck.{Leads, leads_more, leads_nowhere, leads_to, refused}
use Rattle.llb_glob.proofs.pattern.is_pattern.Goals as goal
use Rattle.llb_glob.proofs.pattern.is_pattern.Goals.{After-into_iter-part-iterator}

pub loop-part-init : goal.loop-part-init
loop-part-init c = record { path = []; stands = record { depth = refl; sound = refl }; follows = refl }

-- the loop goes over the parts of the text
goes_over : (c : After-into_iter-part-iterator) → YieldsList (split_steps FindsChar (λ a b. b ≡ a))
    (λ x. x.now) c.into_iter-part-iterator.result (parts_of c.args.text.now)
goes_over c =
    let e = c.split-part-items.ensures in
    let same = c.into_iter-part-iterator.ensures.into_iter_gives in
    YieldsList-from_str_split 47 c.args.text.now (lit< tt) (ap split_text same ∙ e.text) (ap split_has_more same ∙ e.has_more)
    (ap split_pattern same ∙ e.pattern)

pub loop-part-preserved : goal.loop-part-preserved
loop-part-preserved c =
    let parts = parts_of c.args.text.now in
    let path = path_of c.args.text.now in
    let part = c.in-Some.part.now in
    let inv = c.loop-part.invariant in
    let items = goes_over (goal.at.loop-part-preserved c).After-into_iter-part-iterator in
    let t = YieldsList-turn items c.loop-part.yielded _ c.loop-part.yielded_by _ _ c.in-Some.part c.in-Some.is c.next.ensures.steps in
    let entered = subst (λ b. Enters (enter inv.path part) b c.enter.new.self) c.if-not-enter.false (c.enter.ensures inv.path inv.stands) in
    let more = leads_more parts (length c.loop-part.yielded) part t.0 t.1 path c.loop-part.walk c.enter.new.self inv entered in
    subst (λ (n : ℕ). Leads (drop n parts) path c.enter.new.self) (sym (length_push c.loop-part.yielded c.in-Some.part)) more

pub returns-then-not-enter : goal.returns-then-not-enter
returns-then-not-enter c =
    let path = path_of c.args.text.now in
    let part = c.in-Some.part.now in
    let inv = c.loop-part.invariant in
    let items = goes_over (goal.at.returns-then-not-enter c).After-into_iter-part-iterator in
    let t = YieldsList-turn items c.loop-part.yielded _ c.loop-part.yielded_by _ _ c.in-Some.part c.in-Some.is c.next.ensures.steps in
    let entered = subst (λ b. Enters (enter inv.path part) b c.enter.new.self) c.if-not-enter.true (c.enter.ensures inv.path inv.stands) in
    sym (refused path (leads_nowhere (parts_of c.args.text.now) (length c.loop-part.yielded) part t.0 t.1 path c.loop-part.walk c.enter.new.self inv entered))

pub returns : goal.returns
returns c =
    let items = goes_over (goal.at.returns c).After-into_iter-part-iterator in
    let t = YieldsList-end items c.loop-part.yielded _ c.loop-part.yielded_by _ _ c.in-None.is c.next.ensures.steps in
    leads_to (parts_of c.args.text.now) (length c.loop-part.yielded) t.1 (path_of c.args.text.now) c.loop-part.walk c.loop-part.invariant
