-- What an evaluation returns: the refusal for a missing local tree, else the refusal for a vertex that mounts a cache, else the plain outcome of each vertex.
use Rattle.std.specs.Prelude.{ℕ, ◌+◌, List, [], ◌∷◌, Option, Some, None, Result, Ok, Err, if◌then◌else◌}
use Rattle.llb_loader.specs.declared.graph.Vertex.{Vertex}
use Rattle.llb_model.specs.Program.{Build, has_cache}
use Rattle.llb_model.specs.Outcome.{Outcome, outcomes}
use Rattle.llb_loader.specs.FirstMissingTree.{missing_local}
use Rattle.llb_plain.specs.declared.fault.PlainFault.{PlainFault}
use Rattle.llb_plain.specs.declared.fault.PlainFault.TheVariants.{MissingLocal, HasCache}

-- the number of the first vertex of a list that mounts a cache; the first vertex of the list has number k; none if no vertex mounts a cache
abbrev pub cache_from : ℕ → List Vertex → Option ℕ
cache_from k [] = None
cache_from k (v ∷ vs) = if has_cache v then Some k else cache_from (k + 1) vs

-- the outcomes `all`, unless there is the name of a source without a tree (`MissingLocal`), or else the number of a vertex that mounts a cache (`HasCache`)
abbrev pub unless_refused : Option (List ℕ) → Option ℕ → List Outcome → Result (List Outcome) PlainFault
unless_refused (Some name) cache all = Err (MissingLocal name)
unless_refused None (Some v) all = Err (HasCache v)
unless_refused None None all = Ok all

-- what the evaluation of a build returns: the plain outcomes of all vertices, or a refusal
abbrev pub evaluate_of : Build → Result (List Outcome) PlainFault
evaluate_of b = unless_refused (missing_local b.locals b.graph.vertices) (cache_from 0 b.graph.vertices) (outcomes b)
