-- A path begins with a slash.
use lib.Utf8.{encode}
use Rattle.llb_treetext.proofs.NamesInTexts.{no_path}
use Rattle.llb_treetext.proofs.line_fields.is_path.Goals as goal

pub returns-in-None : goal.returns-in-None
unfolding encode
returns-in-None c = no_path c.args.text.now c.in-None.ensures.cases
