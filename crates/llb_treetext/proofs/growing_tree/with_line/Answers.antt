-- The row that is read is the one that the parts spell, and is put into the whole tree.
use Rattle.std.proofs.Common.{sym, ap, subst}
use Rattle.std.specs.Option.{option_map}
use Rattle.llb_treetext.specs.LineFields.{pair_of, parts_seen}
use Rattle.llb_treetext.specs.GrowingTree.{IsGrown, IsGrownIfAny}
use Rattle.llb_treetext.proofs.EntryLineParts.{row_made}
use Rattle.llb_treetext.proofs.DetachedDirectory.{row_more}
use Rattle.llb_treetext.proofs.growing_tree.with_line.Goals as goal

pub returns-in-Ok-Some : goal.returns-in-Ok-Some
returns-in-Ok-Some c = λ t grown row follows.
    let own = row_made row (parts_seen c.args.parts.now) _ follows.of.0 follows.of.1 c.in-Ok-Some.ensures (pair_of c.in-Ok-Some.row)
    (ap (option_map pair_of) c.in-Ok-Some.field-0-is) in
    let here = subst (λ o. IsGrownIfAny o t) c.in_ok-growing.was grown in
    let same = c.in_ok-whole-in-Ok-Some.ensures t (subst (λ g. IsGrown g t) (sym (c.in-Ok.ensures.kept c.if-is_put.false)) here) in
    row_more t c.in_ok-whole-in-Ok-Some.field-0 row (pair_of c.in-Ok-Some.row) c.args.parts.now c.with_row.result same own follows c.with_row.ensures
