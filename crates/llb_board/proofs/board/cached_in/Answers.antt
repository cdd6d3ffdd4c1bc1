use Rattle.std.proofs.Common.{sym, ◌∙◌}
use Rattle.llb_model.specs.Caches.{place}
use Rattle.llb_model.proofs.TwoModelsContents.{shows_instances}
use Rattle.llb_board.proofs.board.cached_in.Goals as goal

pub returns : goal.returns
returns c = c.instance.ensures ∙ sym (shows_instances c.args.caches.now.rows (place c.args.key.now c.args.i))
