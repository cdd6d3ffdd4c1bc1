use Rattle.std.proofs.Common.{◌≡◌, ◌∙◌, [], ap, subst}
use Rattle.std.specs.Prelude.{Err}
use Rattle.llb_cache.specs.Caches.{CachesValue}
use Rattle.llb_model.specs.TwoCacheModels.{store_of}
use Rattle.llb_board.specs.Opening.{open_of}
use Rattle.llb_board.specs.BoardValue.{opened}
use Rattle.llb_laws.specs.TokenRuns.{with_locals}
use Rattle.llb_laws.proofs.TokenPlans.{differ}
use Rattle.llb_laws.proofs.OpenedBoards.{open_gives}
use Rattle.llb_laws.proofs.boards_on_tokens.open_on_tokens.Goals as goal

pub returns-then-not-stands-clause-none : goal.returns-then-not-stands-clause-none
returns-then-not-stands-clause-none c = λ e may. differ c.in-Ok.stands c.if-not-stands.true (c.in-Ok.ensures.1 may)

pub returns-in-Ok-open-clause-some : goal.returns-in-Ok-open-clause-some
returns-in-Ok-open-clause-some c =
    let ls = c.args.tokens in
    let build = with_locals c.args.graph ls in
    let both = c.in-Ok.ensures.0 c.if-not-stands.false in
    record {
      opens = open_gives build c.new-caches.result c.args.workers c.in-Ok-open.board c.in-Ok-open.ensures.gives
          ∙ ap (λ (cs : CachesValue). opened build c.args.workers cs.rows) c.new-caches.ensures;
      tokens = both.1;
      runs = λ table known. c.records_are_handed_on.ensures.tokens table ls c.args.locals.now c.args.workers (store_of []) (store_of []) both.0
          (both.1 table known);
    }

pub returns-in-Err-clause-refused : goal.returns-in-Err-clause-refused
returns-in-Err-clause-refused c = λ known.
    subst (λ (cs : CachesValue). open_of (with_locals c.args.graph c.args.tokens) cs c.args.workers ≡ Err c.in-Err.fault) c.new-caches.ensures
    (c.in-Err.ensures.gives known)
