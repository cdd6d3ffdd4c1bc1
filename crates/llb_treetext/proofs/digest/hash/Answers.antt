-- Each line is hashed after the lines before it.
use Rattle.std.proofs.Common.{sym, ap, ◌∙◌}
use Rattle.sha2.specs.Sha256.{sha256}
use Rattle.llb_treetext.specs.TreeText.{line_of, tree_text}
use Rattle.llb_treetext.proofs.TextsOfLines.{all_done}
use Rattle.llb_treetext.proofs.digest.hash.Goals as goal

pub returns : goal.returns
returns c =
    let (done, fed, parts) = c.loop-path.invariant in
    c.finalize.ensures done fed ∙ ap sha256 (sym (all_done line_of (tree_text c.args.tree.now) done c.loop-path.walk parts c.in_default.ensures))
