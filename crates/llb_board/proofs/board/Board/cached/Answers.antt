use Rattle.std.proofs.Common.{List, ap, ◌∙◌}
use Rattle.llb_cache.specs.Caches.{Row}
use Rattle.llb_model.specs.TwoCacheModels.{store_of}
use Rattle.llb_board.specs.WorkedOnAndCachedTrees.{cached_at, cached_by}
use Rattle.llb_board.specs.BoardValue.{BoardValue}
use Rattle.llb_board.proofs.board.Board.cached.Goals as goal

pub returns-in-Some : goal.returns-in-Some
returns-in-Some c =
    let rows = c.caches-caches.result.now.rows in
    c.cached_in.ensures ∙ ap (cached_by (store_of rows) c.args.i) c.in-Some.ensures
    ∙ ap (λ (rs : List Row). cached_at rs (store_of rs) c.args.k c.args.i) c.caches-caches.ensures.rows
    ∙ ap (λ (b : BoardValue). cached_at b.rows b.state.store c.args.k c.args.i) c.self.view_is
