use Rattle.std.proofs.Common.{ap}
use Rattle.llb_cache.specs.Caches.{CachesValue}
use Rattle.llb_board.proofs.FreshBoards.{kept_open}
use Rattle.llb_board.proofs.board.Board.open_on.Goals as goal

pub invariant_of-result : goal.invariant_of-result
invariant_of-result c =
    let e = c.in-Ok.ensures in
    kept_open c.args.vertices _ _ _ c.args.workers c.args.caches.rows _ c.requires.waits c.in-Ok-open.ensures.ok e.events
    (ap (λ (x : CachesValue). x.rows) e.start) e.room e.cancels
