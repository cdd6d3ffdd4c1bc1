-- What opening a board returns.
use Rattle.std.proofs.Common.{◌≡◌, ℕ, Bool, true, false, List, Option, Some, None, sym}
use Rattle.std.specs.Prelude.{Ok, Err, if◌then◌else◌}
use Rattle.llb_loader.specs.FirstMissingTree.{missing_local}
use Rattle.llb_cache.specs.Caches.{CachesValue}
use Rattle.llb_model.specs.Program.{Build}
use Rattle.llb_board.specs.declared.fault.OpenFault.TheVariants as opening
use Rattle.llb_board.specs.Opening.{may_work, open_of, open_unless}
use Rattle.llb_board.specs.BoardValue.{BoardValue, opened}

-- a board that is opened is one on which nothing has happened
pub open_gives : (b : Build) (cs : CachesValue) (n : ℕ) (c : BoardValue) → open_of b cs n ≡ Ok c → c ≡ opened b n cs.rows
open_gives b cs n c e = by_missing (missing_local b.locals b.graph.vertices) e
  where
    by_work : (k : Bool) → (if k then Ok (opened b n cs.rows) else Err (opening.Workers b.graph b.locals cs)) ≡ Ok c → c ≡ opened b n cs.rows
    by_work true h = let same : opened b n cs.rows ≡ c = cc in sym same
    by_work false h = absurd cc

    by_missing : (o : Option (List ℕ)) → open_unless o b cs n ≡ Ok c → c ≡ opened b n cs.rows
    by_missing None h = by_work (may_work n) h
    by_missing (Some name) h = absurd cc
