use Rattle.llb_loader.proofs.UniqueNumbering.{numbering_down}
use Rattle.llb_loader.proofs.laws.numbering_goes_down.Goals as goal

pub returns : goal.returns
returns c = numbering_down _ _ _ c.requires
