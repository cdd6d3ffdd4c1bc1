use Rattle.std.proofs.Common.{rules, ◌≡◌, subst, sym, ap, ◌∙◌, Ok, Err, false}
use Rattle.llb_wire.specs.CallResults.{◌>>=◌}
use Rattle.llb_tree.specs.Tree as tree
use Rattle.llb_tree.specs.Tree.{is_memory}
use Rattle.llb_tree.specs.PathTests.{rid_of}
use Rattle.llb_fileop.specs.Removing.{rm_pattern, absent}
use Rattle.llb_fileop.proofs.MatchedSubtrees.{fits_part, or_absent, rm_is}
use Rattle.llb_fileop.proofs.removing.rm_pattern.Goals as goal

pub returns-in-Some : goal.returns-in-Some
returns-in-Some c =
    sym (rm_is c.args.pattern.now c.args.base.now c.args.allowed c.is_tree.ensures)
    ∙ ap (λ r. r >>= or_absent c.args.allowed c.args.base.now)
    ((λ i. rid_of fits_part (sym c.parts.ensures i) c.args.base.now) ∙ c.in_ok-tree.ensures.gives ∙ ap Ok c.in-Some.is)

pub returns-in-None : goal.returns-in-None
returns-in-None c =
    let none : rm_pattern c.args.allowed c.args.base.now c.args.pattern.now ≡ absent c.args.allowed c.args.base.now =
    sym (rm_is c.args.pattern.now c.args.base.now c.args.allowed c.is_tree.ensures)
    ∙ ap (λ r. r >>= or_absent c.args.allowed c.args.base.now)
    ((λ i. rid_of fits_part (sym c.parts.ensures i) c.args.base.now) ∙ c.in_ok-tree.ensures.gives ∙ ap Ok c.in-None.is) in
    subst (λ r. tree.Gives (λ t. t) c.absent.result r) (sym none) c.absent.ensures.gives

pub returns-in_err-tree : goal.returns-in_err-tree
returns-in_err-tree c =
    let f : is_memory c.in_err-tree.field-0.0 ≡ false
    → rm_pattern c.args.allowed c.args.base.now c.args.pattern.now ≡ Err c.in_err-tree.field-0.0
    = λ m.
    sym (rm_is c.args.pattern.now c.args.base.now c.args.allowed c.is_tree.ensures)
    ∙ ap (λ r. r >>= or_absent c.args.allowed c.args.base.now)
    ((λ i. rid_of fits_part (sym c.parts.ensures i) c.args.base.now) ∙ c.in_err-tree.ensures.gives m) in
    search rules
