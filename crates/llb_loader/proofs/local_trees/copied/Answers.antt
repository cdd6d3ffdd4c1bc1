use Rattle.std.proofs.Common.{◌≡◌, ◌∙◌, List, IfSome, slice_get, string_bytes, subst, arith}
use Rattle.std.proofs.lemmas.List.{take_all}
use Rattle.llb_loader.specs.LocalSources.{Local, locals_of, with_local}
use Rattle.llb_loader.proofs.LocalTreeCopies.{all_named, local_copied}
use Rattle.llb_loader.proofs.local_trees.copied.Goals as goal

pub loop-i-preserved : goal.loop-i-preserved
loop-i-preserved c =
    let es = c.args.trees.now.entries in
    let new : List Local = c.copy_at.new.copies in
    local_copied es new c.loop-i.i (omega (arith, c.loop-i-test.true, c.len-i-end.ensures.len)) c.len-i-end.ensures.unique
    (subst (λ (ls : List Local). IfSome (slice_get es c.loop-i.i) (λ e. new ≡ with_local ls (string_bytes e.0) e.1)) c.loop-i.invariant c.in_ok-copy_at.ensures)

pub returns : goal.returns
returns c =
    let es = c.args.trees.now.entries in
    c.loop-i.invariant ∙ take_all c.loop-i.i (locals_of es) (omega (arith, all_named es, c.loop-i-test.false, c.len-i-end.ensures.len))
