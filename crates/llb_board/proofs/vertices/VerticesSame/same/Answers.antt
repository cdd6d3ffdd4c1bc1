use Rattle.std.proofs.Common.{◌≡◌, ◌∙◌, List, map, sym, ap}
use Rattle.llb_model.specs.Program.{Build}
use Rattle.llb_model.specs.State.{Status}
use Rattle.llb_board.specs.Vertices.{VerticesValue, status_of}
use Rattle.llb_board.proofs.StatusLists.{same_stages}
use Rattle.llb_board.proofs.vertices.VerticesSame.same.Goals as goal

together : (b d : Build) (S T : List Status) → b ≡ d → S ≡ T → ◌≡◌ {A = VerticesValue} (record { build = b; statuses = S }) (record { build = d; statuses = T })
together b d S T builds statuses = λ i. record { build = builds i; statuses = statuses i }

pub returns-then-same : goal.returns-then-same
returns-then-same c =
    let a = c.self.inside in
    let b = c.other.inside in
    let stages : c.as_slice.result.now ≡ a.stages.items = c.as_slice.ensures.value in
    let others : c.as_slice-then-same.result.now ≡ b.stages.items = c.as_slice-then-same.ensures.value in (
      λ yes.
          sym c.self.view_is
          ∙ together a.build b.build (map status_of a.stages.items) (map status_of b.stages.items) (c.same.ensures.0 c.if-same.true)
          (ap (map status_of) (sym stages ∙ c.all_same.ensures.0 yes ∙ others))
          ∙ c.other.view_is,
      λ equal.
          c.all_same.ensures.1 (stages ∙ same_stages a.stages.items b.stages.items
          (ap (λ (n : VerticesValue). n.statuses) (c.self.view_is ∙ equal ∙ sym c.other.view_is)) ∙ sym others),
    )
