-- The list of statuses that a list of states makes.
use Rattle.std.proofs.Common.{◌≡◌, ℕ, zero, suc, List, [], ◌∷◌, map, refl, sym, ap, ◌∙◌}
use Rattle.std.specs.Prelude.{replicate}
use Rattle.llb_model.specs.Outcome.{Done, Failed}
use Rattle.llb_model.specs.State.{Status, Waiting, Running, Settled}
use Rattle.llb_board.specs.Vertices.{status_of}
use Rattle.llb_board.specs.declared.vertices.vertex_state.Stage.{Stage}
use Rattle.llb_board.specs.declared.vertices.vertex_state.Stage.TheVariants as stage

abbrev stage_of : Status → Stage
stage_of Waiting = stage.Waiting
stage_of (Running w) = stage.Running w
stage_of (Settled (Done trees)) = stage.Done trees
stage_of (Settled (Failed f)) = stage.Failed f

stage_again : (s : Stage) → stage_of (status_of s) ≡ s
stage_again stage.Waiting = refl
stage_again (stage.Running w) = refl
stage_again (stage.Done trees) = refl
stage_again (stage.Failed f) = refl

stages_again : (ss : List Stage) → map stage_of (map status_of ss) ≡ ss
stages_again [] = refl
stages_again (s ∷ ss) = λ i. stage_again s i ∷ stages_again ss i

pub same_stages : (ss ts : List Stage) → map status_of ss ≡ map status_of ts → ss ≡ ts
same_stages ss ts same = sym (stages_again ss) ∙ ap (map stage_of) same ∙ stages_again ts

-- if all states are Waiting, so are all statuses
pub all_wait : (n : ℕ) → map status_of (replicate n stage.Waiting) ≡ replicate n Waiting
all_wait zero = refl
all_wait (suc n) = ap (λ l. Waiting ∷ l) (all_wait n)
