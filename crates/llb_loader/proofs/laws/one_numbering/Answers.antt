use Rattle.llb_loader.proofs.UniqueNumbering as unique
use Rattle.llb_loader.proofs.laws.one_numbering.Goals as goal

pub returns : goal.returns
returns c = unique.one_numbering _ _ _ _ c.requires.first c.requires.second
