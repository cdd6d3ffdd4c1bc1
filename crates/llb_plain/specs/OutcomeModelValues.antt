-- Which values of llb_model the outcomes of this crate represent.
use Rattle.std.specs.Prelude.{ℕ, List, slice_get, Option}
use Rattle.llb_model.specs.Outcome as model
use Rattle.llb_plain.specs.declared.outcome.Outcome.{Outcome}
use Rattle.llb_plain.specs.declared.outcome.Outcome.TheVariants.{Done, Failed, Blocked}

-- the outcome of the model that an outcome of this crate represents
abbrev pub outcome_of : Outcome → model.Outcome
outcome_of (Done trees) = model.Ended (model.Done trees)
outcome_of (Failed f) = model.Ended (model.Failed f)
outcome_of Blocked = model.Blocked

-- how vertex k ended, if these are the outcomes of the vertices by number; none if vertex k is blocked or has no outcome
abbrev pub ending_among : List model.Outcome → ℕ → Option model.Ending
ending_among outcomes k = model.ending_in (slice_get outcomes k)
