use Rattle.std.proofs.Common.{◌≡◌, ℕ, List, true, refl, rules}
use Rattle.std.specs.Prelude.{Option, Some, None, is_some}
use Rattle.llb_cache.specs.Caches.{CachesValue}
use Rattle.llb_model.specs.Program.{Build}
use Rattle.llb_loader.specs.FirstMissingTree.{missing_local}
use Rattle.llb_board.specs.Opening.{open_unless, may_want_memory}
use Rattle.llb_board.proofs.board.Board.open.Goals as goal

-- for the name of a local tree that is missing, memory may be wanted
may_want : (o : Option (List ℕ)) (b : Build) (c : CachesValue) (workers : ℕ) → is_some o ≡ true → may_want_memory (open_unless o b c workers) ≡ true
may_want None b c workers is = absurd cc
may_want (Some name) b c workers is = refl

pub returns-in-Err-clause-last : goal.returns-in-Err-clause-last
returns-in-Err-clause-last c =
    let b : Build = record { graph = c.args.graph; locals = c.args.locals } in
    let some : is_some (missing_local c.args.locals c.args.graph.vertices) ≡ true = search rules in
    λ memory. may_want (missing_local c.args.locals c.args.graph.vertices) b c.args.caches c.args.workers some
