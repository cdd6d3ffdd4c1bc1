use Rattle.std.proofs.Common.{List, ℕ, Bool}
use Rattle.llb_fileop.specs.Copying.{target}
use Rattle.llb_fileop.proofs.CopyByPath.{is_copied}
use Rattle.llb_fileop.proofs.laws.copies_one.Goals as goal

pub returns : goal.returns
returns c u granted =
    let dest : List (List ℕ) × Bool = (c.args.dest.now, c.args.inside) in
    is_copied c.args.action.now c.args.second.now c.args.base.now u c.args.source.now
    (target c.args.action.now dest c.args.second.now c.args.source.now c.args.base.now) granted
