-- The line that says why a command fails or an action is refused.
use Rattle.std.specs.Prelude.{ℕ, List, ◌++◌, codes, Option, Some, None}
use Rattle.llb_applet.specs.declared.cause.Cause.{Cause}
use Rattle.llb_fileop.specs.declared.refusal.Refusal.{Refusal}
use Rattle.llb_model.specs.Program.{Build}
use Rattle.llb_model.specs.State.{State}
use Rattle.llb_session.specs.Reasons.{cause_at, cause_text}
use Rattle.llb_session.specs.ActionReasons.{refusal_at, refusal_text}

-- the line with a cause or a refusal; the line `none` if there is neither
abbrev pub why_lines : Option Cause → Option Refusal → List ℕ
why_lines (Some c) r = cause_text c ++ codes "\n"
why_lines None (Some r) = refusal_text r ++ codes "\n"
why_lines None None = codes "none\n"

-- the line that says why micro-step k of what worker w runs fails on the trees that it works on now: what w runs is an exec, a file op or neither
abbrev pub why_at : Build → State → ℕ → ℕ → List ℕ
why_at b s w k = why_lines (cause_at b s w k) (refusal_at b s w k)
