-- The lines of failures, one after the other.
use Rattle.std.proofs.Common.{◌≡◌, ℕ, suc, ◌+◌, List, Option, subst, sym, arith}
use Rattle.std.specs.Io.KnownBytes.{Appends}
use Rattle.std.proofs.KnownBytes.{Appends-nil, Appends-trans}
use Rattle.llb_model.specs.Program.{Build}
use Rattle.llb_model.specs.State.{State}
use Rattle.llb_board.specs.Statuses.{look_at}
use Rattle.llb_board.specs.declared.status.Status.{Status}
use Rattle.llb_commands.specs.ProgramOutput.{failed_line, failed_lines}

-- none so far
pub none_failed : (b : Build) (s : State) (err : Option (List ℕ)) → Appends err err (failed_lines b s 0)
unfolding failed_lines
none_failed b s err = Appends-nil err

-- the lines of failed vertices, with that of one vertex more
pub one_more : (b : Build) (s : State) (v : ℕ) (look : Option Status) (first so_far now : Option (List ℕ)) → look ≡ look_at b s v
    → Appends first so_far (failed_lines b s v) → Appends so_far now (failed_line v look) → Appends first now (failed_lines b s (v + 1))
unfolding failed_lines
one_more b s v look first so_far now is before line =
    let next : v + 1 ≡ suc v = omega arith in
    subst (λ n. Appends first now (failed_lines b s n)) (sym next)
    (Appends-trans first so_far now (failed_lines b s v) (failed_line v (look_at b s v)) before (subst (λ o. Appends so_far now (failed_line v o)) is line))
