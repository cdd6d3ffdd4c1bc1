use Rattle.std.proofs.Common.{rules, ◌≡◌, ap, sym, ◌∙◌, drop, Err, false}
use Rattle.std.specs.FinMap as finite
use Rattle.llb_wire.specs.CallResults.{◌>>=◌}
use Rattle.llb_tree.specs.PathEntries.{seen}
use Rattle.llb_tree.specs.Tree.{is_memory}
use Rattle.llb_fileop.specs.CopyPlacement.{all_meet}
use Rattle.llb_fileop.proofs.ResultEqualities.{same_Ok, none_there}
use Rattle.llb_fileop.proofs.PathOrderTraversal.{walk_end, past_is, skip_short}
use Rattle.llb_fileop.proofs.EntryPlacement.{meet_next, meet_skip}
use Rattle.llb_fileop.proofs.merging.may_meet.Goals as goal

pub returns-in_err-meet : goal.returns-in_err-meet
returns-in_err-meet c =
    let here = c.args.here.now in
    let f : is_memory c.in_err-meet.field-0.0 ≡ false → all_meet here (finite.entries c.args.source.now) ≡ Err c.in_err-meet.field-0.0
    = λ m.
    sym c.loop-path.invariant
    ∙ meet_next here c.loop-path.walk c.in-Some.path.now (seen c.in-Some.entry) (sym c.in-Some.ensures)
    ∙ ap (λ r. r >>= λ _. all_meet here (drop 1 c.loop-path.walk)) (sym c.in_err-meet.ensures.meets) in
    search rules

pub loop-path-smaller : goal.loop-path-smaller
loop-path-smaller c =
    skip_short c.loop-path.walk c.skip.new.self c.in-Some.path.now (seen c.in-Some.entry) (sym c.in-Some.ensures) (same_Ok c.in_ok-skip.ensures.gives)

pub loop-path-preserved : goal.loop-path-preserved
loop-path-preserved c =
    let here = c.args.here.now in
    let walk = c.loop-path.walk in
    let k = c.in-Some.path.now in
    let none = none_there (finite.get here k) (sym c.is_there.ensures.there ∙ c.if-is_there.false) in
    ap (all_meet here) (sym (same_Ok c.in_ok-skip.ensures.gives) ∙ past_is walk k (seen c.in-Some.entry) (sym c.in-Some.ensures))
    ∙ sym (meet_skip here c.is_there.ensures.tree walk k (seen c.in-Some.entry) (sym c.in-Some.ensures) none)
    ∙ c.loop-path.invariant

pub returns : goal.returns
returns c = sym c.loop-path.invariant ∙ ap (all_meet c.args.here.now) (walk_end c.loop-path.walk (sym c.in_default.ensures))
