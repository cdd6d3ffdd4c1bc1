-- The vertices of a graph one after another, and their outcomes by number.
use Rattle.std.proofs.Common.{◌≡◌, ℕ, ◌+◌, ◌≤◌, List, [], ◌∷◌, ◌++◌, drop, length, sym, ap, ◌∙◌}
use Rattle.std.specs.Prelude.{Some, slice_get}
use Rattle.std.proofs.lemmas.List.{drop_all}
use Rattle.llb_loader.specs.declared.graph.Vertex.{Vertex}
use Rattle.llb_model.specs.ListsFromEarlierItems.{by_number}
use Rattle.llb_model.specs.Program.{Build}
use Rattle.llb_model.specs.Outcome.{Outcome, next_outcome, outcomes}
use Rattle.llb_model.proofs.Lists.{drop_at}

-- ---- outcomes by number

-- `before` has the outcomes of the vertices below k: extended by those of the vertices from k on, it is the list of all outcomes
abbrev pub OutcomesSoFar : Build → ℕ → List Outcome → Type 0
OutcomesSoFar b k before = by_number (next_outcome b) before (drop k b.graph.vertices) ≡ outcomes b

pub outcome_more : (b : Build) (k : ℕ) (before : List Outcome) (v : Vertex) → OutcomesSoFar b k before → slice_get b.graph.vertices k ≡ Some v
    → OutcomesSoFar b (k + 1) (before ++ next_outcome b before v ∷ [])
outcome_more b k before v here at = sym (ap (by_number (next_outcome b) before) (drop_at b.graph.vertices k v at)) ∙ here

pub outcomes_all : (b : Build) (k : ℕ) (before : List Outcome) → OutcomesSoFar b k before → length b.graph.vertices ≤ k → before ≡ outcomes b
outcomes_all b k before here past = sym (ap (by_number (next_outcome b) before) (drop_all k b.graph.vertices past)) ∙ here
